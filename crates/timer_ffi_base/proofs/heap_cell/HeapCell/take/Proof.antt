-- `take` clears the mark, and calls `from_raw` on what the cell owned.
use Rattle.std.proofs.Common.{◌≡◌, Bool, true, List, [], ◌∷◌, refl, sym, ap, ◌∙◌, subst, lit<}
use base.Fml.{ftrue, fsep, flft}
use base.Fraction.{full_share}
use base.Logic.{emp, never, id⊢, fst∗}
use mir.MapTy.{inst_fn}
use mir.Raw.{raw as bare}
use mir.Syntax.{a_type, named, dcons, dnil}
use mir.Val.{Val, vptr}
use contract.BorrowLft.{◌⊑◌, ⊑_static}
use contract.Monad.{fact, fact_i}
use contract.Running.{tables}
use types.Logic.{sem}
use types.Kit.{‵, raw, ◌⊛◌, some, later, at_ret, ◌$◌, ◌∵◌, !, qed, done, move, keep, drop, split, split3, join, fsplit, fsplit3, fjoin, feq_i, pick, rewrite, suffices, group, use0, use1, await}
use types.Part.{whole, sub, look_in, store_in}
use types.Run.{enter, of_opd, lit, load, stop, fld, no_more, and_then, assigns, first, blocks, exec, returns}
use types.ByLocal.{alloc_all, pass_all, free_all, look_at, get, through, sets, lands_last, env}
use denote.Exit.{yes}
use denote.Laws.{shows}
use denote.Memory.{cell_at}
use denote.Param.{param, layout, bounded}
use denote.Param.Laws.{param_laws}
use denote.Param.NoDrop.{glues}
use denote.RattleType.{RattleType}
use denote.RawPtr.{Ptr, block_ptr, null_ptr, in_a_block}
use denote.Ref.{MutRef, mut_vals, mut_Tells}
use denote.Signature.{plain}
use denote.Steps.{nothing, only, opens, closes, heard, peeks}
use denote.Triple.Call.{calls_at_last}
use denote.Triple.Clauses.{Lasts, lasts}
use denote.Triple.Spec.{triple_of}
use denote.Triple.Table.{framed}
use denote.Triple.Walked.{Stays, walk_of, stay_dropped, Goes-dropped, stay_ref, Goes-ref, ends_at}
use Rattle.core.proofs.alloc.Shapes.{after}
use Rattle.core.proofs.cell.Inside.{Good}
use Rattle.core.proofs.mem.Facts.{says_two}
use Rattle.std.proofs.raw_atomic.Walks.{proved}
use Rattle.std.specs.Box.Ownership.{box_owns}
use Rattle.std_alloc.proofs.BoxSteps.Form as box
use Rattle.std_alloc.proofs.BoxSteps.Steps.{box_out, box_in}
use Rattle.std_alloc.specs.contracts.boxed.Box as Box
use Rattle.std_alloc.specs.contracts.boxed.Box.from_raw as callee
use Rattle.std_alloc.proofs.boxed.Box.from_raw.Met.{met}
use Rattle.std_heap.specs.contracts.Global as Heap
use Rattle.std_heap.proofs.GlobalAllocator.TheImpl.Met.{passed}
use Rattle.std_heap.proofs.Handle.{heap_val, heap_Tells}
use Rattle.timer_ffi_base.specs.Cells.{is_open, owned_if, token}
use Rattle.timer_ffi_base.specs.contracts.heap_cell.HeapCell as cell
use Rattle.timer_ffi_base.proofs.heap_cell.HeapCell.TheLaws.{lowers}
use Rattle.timer_ffi_base.proofs.Destruct++none.drop.Code.{code as nothing_dropped}
use Rattle.timer_ffi_base.proofs.CellParts.{Z, boxed, word, shut}
use Rattle.timer_ffi_base.specs.contracts.heap_cell.HeapCell.take as f
use Rattle.timer_ffi_base.proofs.heap_cell.HeapCell.take.Statement.{statement}
use Rattle.timer_ffi_base.proofs.heap_cell.HeapCell.take.Code as code

pub take_spec : {M : Type 1} → statement M
unfolding nothing_dropped
take_spec {M} 𝓤 𝓛 𝓜 𝓡 wired T L dx glue =
    let R : RattleType = param 0 T in let LR = param_laws 0 T L in
    let E : box.Bx = boxed T L in let B : RattleType = Box.the_row R Heap.the_row E.al.g in let S : RattleType = cell.the_row R in
    let En = f.ended T dx in let c = f.clauses T dx 𝓛 𝓜.mem 𝓡.returns in
    let at = bounded (a_type ∷ []) (T, tt) (dcons dx dnil) in let fn = inst_fn at code.function in
    let stayed : Stays En.signature.params En.kept =
    (stay_ref (0 ∷ []) tt (plain (λ _. S)), (stay_dropped (plain (λ _. Heap.the_row)) yes, tt)) in
    let W = walk_of 𝓛 En stayed c in let 𝓣 = tables 𝓤 𝓛.H 𝓜 𝓡 𝓡.env in
    proved 𝓛 En stayed c 𝓜 𝓡 (Goes-ref 𝓛 2 0 tt (plain (λ _. S)), (Goes-dropped 𝓛 2 (plain (λ _. Heap.the_row)) yes (λ κs x w. refl), tt))
    (f.Key.name at) fn (code.unfolded 𝓤 𝓛.H 𝓜 𝓡 wired (T, tt) dx)
    (λ κs. (mut_vals, ((λ _. heap_val ∷ []), tt))) (λ κs. (mut_Tells (named 0) κs.0 S, (heap_Tells, tt))) (λ κs qs bounds a _ are.
    let κ = κs.0 in let q = qs.0 in let κT = κs.1.0 in let qT = qs.1.0 in
    let b = a.0.ref_ptr.0 in let o = a.0.ref_ptr.1 in let s = a.0.now in let alloc = a.1.0 in
    let y : W.Ghost = ((κs, qs, bounds, a, (mut_vals a.0, (heap_val ∷ [], tt))), tt) in
    let fits = ((E.al.laws.lawful 𝓛).typed alloc (heap_val ∷ []) are.1.0).0 in
    qed 𝓛 (((‵ (flft κ q) ⊛ ‵ (flft κT qT) ⊛ ‵ ftrue) ⊛ ‵ ((MutRef (named 0) κ S).own_val a.0 (mut_vals a.0)) ⊛ ‵
    (fsep (Z.own_val alloc (heap_val ∷ [])) ftrue)) ∷ raw (fact 𝓤 (κT ⊑ T.lives)) ∷ raw (fact 𝓤 (is_open s.mark ≡ true)) ∷ []) ∵
    split ! $ split ! $ move ! (2 ∷ []) $ split ! $ keep ! (5 ∷ 1 ∷ 0 ∷ 2 ∷ 3 ∷ 4 ∷ []) $ heard ! (is_open s.mark ≡ true) (λ opened.
    fsplit ! $ keep ! (2 ∷ 3 ∷ 0 ∷ 4 ∷ 5 ∷ []) $
    -- [self; the token; the allocator; the type's token; that it lives long enough]: open self, which owns a value since its mark says so
    enter ! _ _ _ _ _ $ alloc_all ! (λ l. pass_all ! refl ((tt, tt), (fits, tt)) $
    fsplit3 ! $ move ! (1 ∷ 2 ∷ 3 ∷ []) $ opens ! tt S b o (λ us. move ! (1 ∷ []) $ peeks ! S _ (shows 𝓛 S) s us (λ is. fsplit ! $ drop ! $
    rewrite ! 0 (λ (x : Bool). ‵ (owned_if R x s.at s.state)) opened refl $
    in_a_block ! s.at (λ p. box_owns token R p s.state) (fst∗ 𝓤 (never 𝓤) (sem 𝓛 (token (bare (layout T)) null_ptr))) (λ b' o' at_b.
    -- [the value with its block; the cell; the open borrow, in three entries; self's first part; the allocator; ..]
    let stored = (lowers R LR).val_is s us is ∙ ap (λ (p : Ptr). (lowers R LR).lowered (record s { at = p }) ∷ []) at_b in
    rewrite ! 1 (λ (ws : List Val). ‵ (cell_at full_share S.mir ws b o)) stored refl $
    assigns ! (of_opd ! (lit ! tt)) (through ! refl (fld ! refl (stop !)))
    (store_in ! 1 (sub ! 1 refl (whole !)) (tt, record { fits = lit< tt })) $
    sets ! (of_opd ! (load ! (through ! refl (fld ! refl (stop !))) (look_in ! 1 (sub ! 0 refl (whole !))))) refl (tt, tt) $
    -- the cell at its new value, which owns nothing
    nothing ! $ shut R ! 0 b' o' s.state (lit< tt) $
    move ! (2 ∷ 0 ∷ 3 ∷ 4 ∷ 5 ∷ []) $ closes ! tt S (record { at = block_ptr b' o'; mark = 0; state = s.state }) (word 0 b' o' ∷ []) b o $
    -- [two parts of self; the token; the value with its block; self's first part; the allocator; ..]: what the call requires
    let k = triple_of 𝓛 (callee.signature T Z E.al.g E.al.d E.al.drops) (callee.spec T Z E.al.g E.al.d E.al.drops 𝓛 𝓜.mem 𝓡.returns) in
    let x : k.Ghost = (((κT, (κ, tt)), (qT, (q, tt)), tt, (alloc, (block_ptr b' o', tt)), (heap_val ∷ [], (vptr b' o' ∷ [], tt))), s.state) in
    let alive = ‵ (flft κT qT) ⊛ ‵ (flft κ q) ⊛ ‵ ftrue in
    use0 𝓛 (raw (fact 𝓤 (κ ⊑ Z.lives))) (fact_i 𝓤 (κ ⊑ Z.lives) (emp 𝓤) (⊑_static κ)) $
    move ! (0 ∷ 4 ∷ []) $ join ! $ move ! (7 ∷ 0 ∷ []) $ join ! $
    -- its arguments, and the tokens before them
    nothing ! $ feq_i ! (List Val) (vptr b' o' ∷ []) (vptr b' o' ∷ []) refl $ fjoin ! $ move ! (6 ∷ 0 ∷ []) $ fjoin ! $
    move ! (6 ∷ []) $ split ! $ move ! (6 ∷ 1 ∷ []) $ join ! $ move ! (1 ∷ 0 ∷ []) $ join ! $ join ! $ join ! $
    use1 𝓛 (raw (k.pre x)) (id⊢ 𝓤 _) $ first ! $ blocks ! $
    calls_at_last ! (framed 𝓤 𝓛.H 𝓜 𝓣) k (met 𝓤 𝓛 𝓜 𝓡 (code.calls-std_alloc::boxed::Box::from_raw 𝓡.env wired) T Z L E.al.laws E.al.g E.al.d
    E.al.drops (passed 𝓡.env (code.calls-std_heap::GlobalAllocator::allocate 𝓡.env wired)
    (code.calls-std_heap::GlobalAllocator::deallocate 𝓡.env wired) (code.calls-std_heap::GlobalAllocator::grow 𝓡.env wired)
    (code.calls-std_heap::GlobalAllocator::shrink 𝓡.env wired) M 𝓤 𝓛 𝓜 𝓡)
    (glues "timer_ffi_base::Destruct++none::drop" 𝓡.env (code.calls-timer_ffi_base::Destruct++none::drop 𝓡.env wired) Z E.al.laws M 𝓤 𝓛 𝓜 𝓡)) x
    (and_then ! (get ! refl) (and_then ! (get ! refl) (no_more !))) (λ u.
    -- the call returns a box r of that value
    use1 𝓛 (later (some (λ (r : B.Denot). (alive ⊛ ‵ (B.own_val r (u ∷ []))) ⊛ some (λ (ls : Lasts (callee.ended T Z E.al.g E.al.d E.al.drops) x.0.0 x.0.3).
    ‵ (lasts (callee.ended T Z E.al.g E.al.d E.al.drops) x.0.0 x.0.3 ls) ⊛ (raw (fact 𝓤 (r.value ≡ s.state)) ⊛ raw (fact 𝓤 (r.alloc ≡ alloc)))))))
    (id⊢ 𝓤 _) $
    await ! tt $ pick ! (λ r. split ! $ move ! (1 ∷ []) $ pick ! (λ _. split3 ! $ drop ! $ heard ! (r.value ≡ s.state) (λ same. drop ! $
    split ! $ move ! (1 ∷ []) $
    box_out E ! r (u ∷ []) (λ b₁ o₁ h e us fits'. box_in E ! r b₁ o₁ r.value e refl $ rewrite ! 0 (λ (xs : List Val). ‵ (B.own_val r xs))
    (sym us) refl $
    let good : Good (layout B) u = subst (Good (layout B)) (sym (ap only us)) (box.box_typed E h b₁ o₁ fits') in
    lands_last ! refl good $ exec ! 𝓣.C 𝓣.Λ (env fn.locals l) (after 3 fn.body) (at_ret _ (W.post y)) $
    sets ! (of_opd ! (get ! refl)) refl good $
    -- [the box; the tokens; two parts of self; its first part]
    move ! (1 ∷ []) $ split3 ! $ move ! (0 ∷ 2 ∷ []) $ join ! $
    returns ! (look_at ! 0 refl) $ free_all ! refl $ keep ! (5 ∷ 3 ∷ 4 ∷ 1 ∷ 2 ∷ 0 ∷ []) $
    suffices ! _ (ends_at 𝓛 En stayed c y u r (record { at = block_ptr b' o'; mark = 0; state = s.state }, (tt, tt)) (tt, (tt, tt))) $
    says_two ! (refl, same) $
    group ! 3 $ nothing ! $ nothing ! $ fjoin ! $ move ! (1 ∷ 0 ∷ []) $ join ! $ move ! (0 ∷ 2 ∷ []) $ join ! $
    move ! (1 ∷ 2 ∷ 0 ∷ []) $ join ! $ join ! $ done !)))))))))))
