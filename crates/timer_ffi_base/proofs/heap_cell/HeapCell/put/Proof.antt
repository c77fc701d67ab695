-- `put` calls `into_raw`, and stores the address and the mark; what the box owned is the cell's from then on.
use Rattle.std.proofs.Common.{◌≡◌, false, List, [], ◌∷◌, ◌++◌, refl, sym, ap, ◌∙◌, subst, lit<}
use base.Fml.{ftrue, fsep, flft}
use base.Fraction.{full_share}
use base.Logic.{SProp, ent, emp, never, id⊢, fst∗}
use mir.MapTy.{inst_fn}
use mir.Raw.{raw as bare}
use mir.Syntax.{a_type, named, dcons, dnil}
use mir.Val.{Val, vunit, vptr}
use prog.Wp.{WpFn}
use contract.BorrowLft.{◌⊑◌, ⊑_static}
use contract.Monad.{fact, fact_i}
use contract.Running.{tables}
use types.Kit.{‵, raw, ◌⊛◌, some, later, ◌$◌, ◌∵◌, !, qed, done, move, keep, drop, split, split3, join, fsplit, fsplit3, fjoin, feq_i, feq_l, pick, rewrite, suffices, group, use0, use1, await}
use types.Logic.{sem}
use types.Part.{whole, sub, store_in}
use types.Run.{enter, of_opd, lit, unit_lit, stop, fld, assigns, and_then, no_more, returns}
use types.ByLocal.{alloc_all, pass_all, free_all, look_at, get, through, sets, lands_as}
use denote.Builtin.{RawPtr}
use denote.Exit.{no}
use denote.Laws.{shows}
use denote.Memory.{cell_at}
use denote.Param.{param, layout, bounded}
use denote.Param.Laws.{param_laws}
use denote.Param.NoDrop.{glues}
use denote.RattleType.{RattleType}
use denote.RawPtr.{Ptr, block_ptr, null_ptr, ptr_val, in_a_block}
use denote.Ref.{MutRef, mut_Tells}
use denote.Signature.{plain}
use denote.Steps.{nothing, only, opens, closes, peeks}
use denote.Triple.Call.{calls_at}
use denote.Triple.Clauses.{Lasts, lasts}
use denote.Triple.Spec.{triple_of}
use denote.Triple.Table.{framed}
use denote.Triple.Walked.{Stays, walk_of, stay_dropped, stay_ref, Goes-ref, ends_at}
use Rattle.core.proofs.alloc.Calls.{Goes-blank}
use Rattle.core.proofs.mem.Facts.{says_two}
use Rattle.std.proofs.raw_atomic.Walks.{proved_at}
use Rattle.std.specs.Box.Ownership.{box_owns}
use Rattle.std_alloc.proofs.BoxSteps.Form as box
use Rattle.std_alloc.proofs.BoxSteps.Steps.{box_out, box_in}
use Rattle.std_alloc.specs.contracts.boxed.Box as Box
use Rattle.std_alloc.specs.contracts.boxed.Box.into_raw as callee
use Rattle.std_alloc.proofs.boxed.Box.into_raw.Met.{met}
use Rattle.std_heap.specs.contracts.Global as Heap
use Rattle.std_heap.proofs.GlobalAllocator.TheImpl.Met.{passed}
use Rattle.timer_ffi_base.specs.Cells.{is_open, token}
use Rattle.timer_ffi_base.specs.contracts.heap_cell.HeapCell as cell
use Rattle.timer_ffi_base.proofs.heap_cell.HeapCell.TheLaws.{lowers}
use Rattle.timer_ffi_base.proofs.Destruct++none.drop.Code.{code as nothing_dropped}
use Rattle.timer_ffi_base.proofs.CellParts.{Z, boxed, word, shut}
use Rattle.timer_ffi_base.specs.contracts.heap_cell.HeapCell.put as f
use Rattle.timer_ffi_base.proofs.heap_cell.HeapCell.put.Statement.{statement}
use Rattle.timer_ffi_base.proofs.heap_cell.HeapCell.put.Code as code

pub put_spec : {M : Type 1} → statement M
unfolding nothing_dropped
put_spec {M} 𝓤 𝓛 𝓜 𝓡 wired T L dx glue =
    let R : RattleType = param 0 T in let LR = param_laws 0 T L in
    let E : box.Bx = boxed T L in let B : RattleType = Box.the_row R Heap.the_row E.al.g in let S : RattleType = cell.the_row R in
    let En = f.ended T dx in let c = f.clauses T dx 𝓛 𝓜.mem 𝓡.returns in
    let at = bounded (a_type ∷ []) (T, tt) (dcons dx dnil) in let fn = inst_fn at code.function in
    let stayed : Stays En.signature.params En.kept =
    (stay_ref (0 ∷ []) tt (plain (λ _. S)), (stay_dropped (plain (λ _. B)) no, tt)) in
    let 𝓣 = tables 𝓤 𝓛.H 𝓜 𝓡 𝓡.env in
    proved_at 𝓛 En stayed c 𝓜 𝓡 (Goes-ref 𝓛 2 0 tt (plain (λ _. S)), (Goes-blank 𝓛 2 (plain (λ _. B)) no (λ κs x w. tt), tt))
    (f.Key.name at) fn (code.unfolded 𝓤 𝓛.H 𝓜 𝓡 wired (T, tt) dx) (λ z are.
    let κ = z.0.0.0 in let q = z.0.1.0 in let κT = z.0.0.1.0 in let qT = z.0.1.1.0 in let r = z.0.3.0 in let v = z.0.3.1.0 in
    let b = r.ref_ptr.0 in let o = r.ref_ptr.1 in let s = r.now in
    let Post : Val → SProp 𝓤 = (walk_of 𝓛 En stayed c).post z in let Run : List Val → SProp 𝓤 = λ ws. WpFn 𝓤 𝓛.H 𝓣.C 𝓣.Λ fn ws Post in
    qed 𝓛 (((‵ (flft κ q) ⊛ ‵ (flft κT qT) ⊛ ‵ ftrue) ⊛ ‵ ((MutRef (named 0) κ S).own_val r z.0.4.0) ⊛ ‵ (fsep (B.own_val v z.0.4.1.0) ftrue)) ∷
    raw (fact 𝓤 (κT ⊑ T.lives)) ∷ raw (fact 𝓤 (is_open s.mark ≡ false)) ∷ []) ∵
    split ! $ split ! $ move ! (2 ∷ []) $ split ! $ keep ! (1 ∷ 0 ∷ 2 ∷ 3 ∷ 4 ∷ []) $ fsplit ! $
    box_out E ! v z.0.4.1.0 (λ b₁ o₁ h e ws fits. box_in E ! v b₁ o₁ v.value e refl $
    let w : Val = box.word E h b₁ o₁ in
    let k = triple_of 𝓛 (callee.signature T Z E.al.g E.al.d E.al.drops dx) (callee.spec T Z E.al.g E.al.d E.al.drops dx 𝓛 𝓜.mem 𝓡.returns) in
    let y : k.Ghost = (((κT, (κ, tt)), (qT, (q, tt)), tt, (v, tt), (w ∷ [], tt)), tt) in
    let alive = ‵ (flft κT qT) ⊛ ‵ (flft κ q) ⊛ ‵ ftrue in
    -- [the box; nothing; self; the token; the tokens; that the type lives long enough]: what the call requires
    fjoin ! $ move ! (3 ∷ []) $ split ! $ move ! (4 ∷ 1 ∷ []) $ join ! $ move ! (1 ∷ 0 ∷ []) $ join ! $ join ! $
    nothing ! $ use0 𝓛 (raw (fact 𝓤 (κ ⊑ Z.lives))) (fact_i 𝓤 (κ ⊑ Z.lives) (emp 𝓤) (⊑_static κ)) $ join ! $
    move ! (3 ∷ 0 ∷ []) $ join ! $ move ! (1 ∷ 0 ∷ []) $ join ! $ use1 𝓛 (raw (k.pre y)) (id⊢ 𝓤 _) $
    let e₀ = mut_Tells (named 0) κ S r z.0.4.0 are.0 in let us : List Val = vptr b o ∷ w ∷ [] in
    suffices ! (Run us) (subst (λ (vs : List Val). ent 𝓤 (Run us) (Run vs)) (sym (λ i. e₀ i ++ (ws i ++ []))) (id⊢ 𝓤 (Run us))) $
    let ok = box.box_typed E h b₁ o₁ fits in
    enter ! 𝓣.C 𝓣.Λ fn us Post $ alloc_all ! (λ l. pass_all ! refl ((tt, tt), (ok, tt)) $
    sets ! (of_opd ! (get ! refl)) refl ok $
    calls_at ! (framed 𝓤 𝓛.H 𝓜 𝓣) k (met 𝓤 𝓛 𝓜 𝓡 (code.calls-std_alloc::boxed::Box::into_raw 𝓡.env wired) T Z L E.al.laws E.al.g E.al.d
    E.al.drops dx (passed 𝓡.env (code.calls-std_heap::GlobalAllocator::allocate 𝓡.env wired)
    (code.calls-std_heap::GlobalAllocator::deallocate 𝓡.env wired) (code.calls-std_heap::GlobalAllocator::grow 𝓡.env wired)
    (code.calls-std_heap::GlobalAllocator::shrink 𝓡.env wired) M 𝓤 𝓛 𝓜 𝓡)
    (glues "timer_ffi_base::Destruct++none::drop" 𝓡.env (code.calls-timer_ffi_base::Destruct++none::drop 𝓡.env wired) Z E.al.laws M 𝓤 𝓛 𝓜 𝓡)
    glue) y
    (and_then ! (get ! refl) (no_more !)) (λ u.
    -- the call returns an address p, at which is what the box owned
    use1 𝓛 (later (some (λ (p : Ptr). (alive ⊛ ‵ (RawPtr.own_val p (u ∷ []))) ⊛ some (λ (ls : Lasts (callee.ended T Z E.al.g E.al.d E.al.drops dx) y.0.0 y.0.3).
    ‵ (lasts (callee.ended T Z E.al.g E.al.d E.al.drops dx) y.0.0 y.0.3 ls) ⊛ ‵ (box_owns token R p v.value)))))
    (id⊢ 𝓤 _) $
    await ! tt $ pick ! (λ p. split ! $ move ! (1 ∷ []) $ pick ! (λ _. split ! $ drop ! $
    in_a_block ! p (λ p. box_owns token R p v.value) (fst∗ 𝓤 (never 𝓤) (sem 𝓛 (token (bare (layout T)) null_ptr))) (λ b' o' at_b.
    -- [what the box owned; the tokens and the address; self]
    move ! (1 ∷ []) $ split ! $ move ! (1 ∷ []) $ feq_l ! (λ stored. lands_as ! (ap only stored ∙ ap ptr_val at_b) refl (tt, tt) $
    split3 ! $ move ! (0 ∷ 2 ∷ []) $ join ! $ move ! (3 ∷ []) $ fsplit3 ! $ move ! (1 ∷ 2 ∷ 4 ∷ []) $ opens ! tt S b o
    (λ vs. move ! (1 ∷ []) $ peeks ! S _ (shows 𝓛 S) s vs (λ is. drop ! $
    -- [the cell; the open borrow, in three entries; self's first part; the token; what the box owned]
    rewrite ! 0 (λ (vs : List Val). ‵ (cell_at full_share S.mir vs b o)) ((lowers R LR).val_is s vs is) refl $
    assigns ! (of_opd ! (get ! refl)) (through ! refl (fld ! refl (stop !))) (store_in ! 0 (sub ! 0 refl (whole !)) (tt, tt)) $
    assigns ! (of_opd ! (lit ! tt)) (through ! refl (fld ! refl (stop !)))
    (store_in ! 0 (sub ! 1 refl (whole !)) (tt, record { fits = lit< tt })) $
    sets ! (of_opd ! (unit_lit !)) refl (tt, tt) $
    -- the cell at its new value, with what the box owned
    move ! (6 ∷ []) $ shut R ! 1 b' o' v.value (lit< tt) $
    move ! (1 ∷ 0 ∷ 2 ∷ 3 ∷ 4 ∷ []) $ closes ! tt S (record { at = block_ptr b' o'; mark = 1; state = v.value }) (word 1 b' o' ∷ []) b o $
    returns ! (look_at ! 0 refl) $ free_all ! refl $ keep ! (3 ∷ 0 ∷ 1 ∷ 2 ∷ 4 ∷ []) $
    suffices ! _ (ends_at 𝓛 En stayed c z vunit tt (
      record {
        at = block_ptr b' o';
        mark = 1;
        state = v.value;
      },
      (tt, tt),
    ) (tt, (tt, tt))) $ says_two ! (refl, refl) $
    group ! 3 $ nothing ! $ nothing ! $ fjoin ! $ move ! (1 ∷ 0 ∷ []) $ join ! $ feq_i ! _ (vunit ∷ []) _ refl $ move !
    (1 ∷ 0 ∷ []) $ join ! $
    move ! (1 ∷ 2 ∷ 0 ∷ []) $ join ! $ join ! $ done !))))))))))
