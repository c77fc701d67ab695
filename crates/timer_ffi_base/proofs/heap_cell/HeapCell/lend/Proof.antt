-- `lend` lends what the cell owns, and what the loan ends with is the cell's state.
use Rattle.std.proofs.Common.{◌≡◌, ℕ, Bool, true, List, [], ◌∷◌, refl, sym, ap, ◌∙◌}
use seplogic.Ra.Ura.{Ura}
use base.Fraction.{full_share}
use base.Logic.{ent, sep, never, fst∗, id⊢}
use base.Fml.{Fml, GName, ftrue, fsep, flft}
use mir.MapTy.{inst_fn}
use mir.Syntax.{Fn, a_type, named}
use mir.Raw.{raw as bare}
use mir.Val.{Val, vptr}
use contract.BorrowLft.{◌⊑◌}
use contract.Monad.{fact}
use contract.Running.{tables}
use types.Logic.{Logic, sem}
use types.Kit.{‵, raw, ◌⊛◌, some, later, at_ret, ◌$◌, ◌∵◌, !, qed, move, keep, use1, split, join, pick, fsplit, fsplit3, fjoin, suffices, frame, done, await, group, fpack, rewrite}
use types.Part.{whole, sub, look_in}
use types.Run.{stop, fld, load, of_opd, first, blocks, exec, returns, enter, addr}
use types.ByLocal.{alloc_all, pass_all, free_all, look_at, get, through, sets, env, sets_last}
use denote.Exit.{no}
use denote.Memory.{part_at, mem, cell_at, part_of, lone}
use denote.Param.{param, layouts}
use denote.Param.Laws.{param_laws}
use denote.RattleType.{RattleType}
use denote.RawPtr.{Ptr, block_ptr, null_ptr, in_a_block}
use denote.Laws.{shows}
use denote.Ref.{MutRef, mut_vals, mut_Tells}
use denote.Signature.{plain, mut_ref_to}
use denote.Steps.{nothing, opens, peeks, heard}
use denote.Struct.Struct.{Struct}
use denote.Struct.Owning.{shape, to}
use denote.Follow.{follows, Part, lends_Part}
use denote.Triple.Walked.{says, Stays, stay_dropped, walk_of, ends_at, Goes-spent_ref}
use Rattle.std.proofs.raw_atomic.Walks.{proved}
use Rattle.std.proofs.VecSteps.Shapes.{after}
use Rattle.std.specs.Box.Ownership.{box_owns}
use Rattle.timer_ffi_base.specs.Cells.{is_open, owned_if, token, with_state}
use Rattle.timer_ffi_base.specs.contracts.heap_cell.HeapCell as cell
use Rattle.timer_ffi_base.proofs.heap_cell.HeapCell.TheLaws.{lowers}
use Rattle.timer_ffi_base.specs.contracts.heap_cell.HeapCell.lend as f
use Rattle.timer_ffi_base.proofs.heap_cell.HeapCell.lend.Statement.{statement}
use Rattle.timer_ffi_base.proofs.heap_cell.HeapCell.lend.Code as code

-- the cell's two words, without what it owns
abbrev Words : RattleType → RattleType
Words R = Struct (shape (cell.the_type R))

-- what stays behind while the value at an address is lent, and the cell that it makes with them
module _ (R : RattleType) {M : Type 1} {𝓤 : Ura M} (𝓛 : Logic 𝓤) (s : (cell.the_row R).Denot) (b o b' o' : ℕ) (us : List Val) where
  abbrev behind : Fml
  behind = fsep (fsep (token (bare (lone R.mir)) (block_ptr b' o')) ((Words R).own_val (to (cell.the_type R) s) us))
      (cell_at full_share (cell.the_row R).mir us b o)

  whole_again : is_open s.mark ≡ true → s.at ≡ block_ptr b' o' → (w : R.Denot)
      → ent 𝓤 (sep 𝓤 (sem 𝓛 ((mem R).own_at w b' o')) (sem 𝓛 behind)) (sem 𝓛 ((mem (cell.the_row R)).own_at (with_state s w) b o))
  unfolding part_of
  whole_again opened at_b w =
      qed 𝓛 (‵ (part_at R full_share w b' o') ∷ ‵ behind ∷ []) ∵
      -- [the value; the right to free; the words; the cell]
      move ! (1 ∷ []) $ fsplit ! $ fsplit ! $ move ! (3 ∷ 0 ∷ []) $ fjoin ! $
      rewrite ! 0 (λ (p : Ptr). ‵ (box_owns token R p w)) (sym at_b) refl $
      rewrite ! 0 (λ (x : Bool). ‵ (owned_if R x s.at w)) (sym opened) refl $
      move ! (1 ∷ 0 ∷ []) $ fjoin ! $ move ! (1 ∷ 0 ∷ []) $ fjoin ! $
      fpack ! (List Val) (λ vs. fsep (cell_at full_share (cell.the_row R).mir vs b o) ((cell.the_row R).own_val (with_state s w) vs)) us $ done !

pub lend_spec : {M : Type 1} → statement M
lend_spec 𝓤 𝓛 𝓜 𝓡 wired T L =
    let R : RattleType = param 0 T in let LR = param_laws 0 T L in let S : RattleType = cell.the_row R in
    let En = f.ended T in let c = f.clauses T 𝓛 𝓜.mem 𝓡.returns in
    let at = layouts (a_type ∷ []) (T, tt) in let fn : Fn = inst_fn at code.function in
    let stayed : Stays En.signature.params En.kept = (stay_dropped (mut_ref_to (0 ∷ []) tt (plain (λ _. S))) no, tt) in
    let W = walk_of 𝓛 En stayed c in let 𝓣 = tables 𝓤 𝓛.H 𝓜 𝓡 𝓡.env in
    proved 𝓛 En stayed c 𝓜 𝓡 (Goes-spent_ref 𝓛 2 (0 ∷ []) tt (plain (λ _. S)), tt)
    (f.Key.name at) fn (code.unfolded 𝓤 𝓛.H 𝓜 𝓡 wired (T, tt))
    (λ κs. (mut_vals, tt)) (λ κs. (mut_Tells (named 0) κs.0 S, tt)) (λ κs qs bounds a _ are.
    let κ = κs.0 in let q = qs.0 in let κT = κs.1.0 in let qT = qs.1.0 in let γ = a.0.ghost_name in
    let b = a.0.ref_ptr.0 in let o = a.0.ref_ptr.1 in let s = a.0.now in let vs = mut_vals a.0 in
    let y : W.Ghost = ((κs, qs, bounds, a, (vs, tt)), tt) in
    qed 𝓛 (((‵ (flft κ q) ⊛ ‵ (flft κT qT) ⊛ ‵ ftrue) ⊛ ‵ ((MutRef (named 0) κ S).own_val a.0 vs) ⊛ ‵ ftrue) ∷
    raw (fact 𝓤 (κT ⊑ T.lives)) ∷ raw (fact 𝓤 (is_open s.mark ≡ true)) ∷ []) ∵
    split ! $ split ! $ move ! (2 ∷ []) $ split ! $ keep ! (5 ∷ 0 ∷ 2 ∷ 3 ∷ []) $ heard ! (is_open s.mark ≡ true) (λ opened.
    enter ! _ _ _ _ _ $ alloc_all ! (λ l. pass_all ! refl ((tt, tt), tt) $
    -- [self; the token]: open self, which owns a value since its mark says so
    fsplit3 ! $ move ! (1 ∷ 2 ∷ 3 ∷ []) $ opens ! tt S b o (λ us.
    move ! (1 ∷ []) $ peeks ! S _ (shows 𝓛 S) s us (λ is. fsplit ! $ move ! (1 ∷ []) $
    rewrite ! 0 (λ (x : Bool). ‵ (owned_if R x s.at s.state)) opened refl $
    in_a_block ! s.at (λ p. box_owns token R p s.state) (fst∗ 𝓤 (never 𝓤) (sem 𝓛 (token (bare (lone R.mir)) null_ptr)))
    (λ b' o' at_b. fsplit ! $
    -- [the value; the right to free; the words; the cell; the open borrow, in three entries]
    let Cell = λ (ws : List Val). ‵ (cell_at full_share S.mir ws b o) in
    let stored = (lowers R LR).val_is s us is ∙ ap (λ (p : Ptr). (lowers R LR).lowered (record s { at = p }) ∷ []) at_b in
    move ! (1 ∷ 2 ∷ []) $ fjoin ! $ move ! (1 ∷ []) $ rewrite ! 2 Cell stored refl $
    -- the code: read the address, and make a reference of it
    sets ! (of_opd ! (load ! (through ! refl (fld ! refl (stop !))) (look_in ! 2 (sub ! 0 refl (whole !))))) refl (tt, tt) $
    first ! $ blocks ! $
    sets_last ! (addr ! (through ! refl (stop !))) refl (tt, tt) $
    exec ! 𝓣.C 𝓣.Λ (env fn.locals l) (after 2 fn.body) (at_ret _ (W.post y)) $
    sets ! (of_opd ! (get ! refl)) refl (tt, tt) $
    -- lend the value, against the promise that the cell is whole again with whatever it is then
    rewrite ! 2 Cell (sym stored) refl $ move ! (1 ∷ 2 ∷ []) $ fjoin ! $ move ! (2 ∷ 3 ∷ 4 ∷ 1 ∷ 0 ∷ []) $ group ! 5 $
    let kept = sem 𝓛 (behind R 𝓛 s b o b' o' us) in let again = whole_again R 𝓛 s b o b' o' us opened at_b in
    use1 𝓛 (later (some (λ (δ : GName). raw (Part 𝓛 S R (with_state s) (named 0) κ q b o b' o' γ kept again s.state δ))))
    (lends_Part 𝓛 S R (with_state s) (named 0) κ q b o b' o' γ kept again (S.coded.code s) (S.coded.code s) s.state) $ await ! tt $
    pick ! (λ δ.
    returns ! (look_at ! 0 refl) $ free_all ! refl $ keep ! (0 ∷ 2 ∷ []) $
    use1 𝓛 (‵ ((MutRef (named 0) κ R).own_val (record { ref_ptr = (b', o'); ghost_name = δ; now = s.state }) (vptr b' o' ∷ [])) ⊛ ‵
    (flft κ q) ⊛ ‵ (follows S R γ δ (with_state s))) (id⊢ 𝓤 _) $
    -- [the loan; the token; what follows]
    split ! $ move ! (1 ∷ []) $ split ! $ move ! (2 ∷ 0 ∷ 1 ∷ []) $
    suffices ! _ (ends_at 𝓛 En stayed c y (vptr b' o') (record {
      ref_ptr = (b', o');
      ghost_name = δ;
      now = s.state;
    }) (tt, tt) (tt, tt)) $
    nothing ! $ nothing ! $ fjoin ! $ join ! $ move ! (1 ∷ 3 ∷ 0 ∷ []) $ join ! $ join ! $ frame ! $ says ! refl $ done !)))))))
