-- `holds` reads the mark and compares it.
use Rattle.std.proofs.Common.{List, [], ◌∷◌, refl, sym, subst}
use base.Fml.{ftrue, flft}
use base.Fraction.{full_share}
use mir.MapTy.{inst_fn}
use mir.Syntax.{a_type, named}
use mir.Val.{Val, vbool}
use types.Kit.{‵, raw, ◌⊛◌, ◌$◌, ◌∵◌, !, qed, done, move, keep, split, join, fsplit3, feq_i, rewrite, suffices, group}
use types.Part.{whole, sub, look_in}
use types.Run.{enter, of_opd, bin, lit, load, stop, fld, returns}
use types.ByLocal.{alloc_all, pass_all, free_all, look_at, get, through, sets}
use contract.BorrowLft.{◌⊑◌}
use contract.Monad.{fact}
use denote.Laws.{Is, shows}
use denote.Memory.{cell_at}
use denote.Param.{param, layouts}
use denote.Param.Laws.{param_laws}
use denote.RattleType.{RattleType}
use denote.Ref.{MutRef, mut_vals, mut_Tells}
use denote.Signature.{plain}
use denote.Steps.{nothing, opens, closes, peeks}
use denote.Triple.Walked.{Stays, walk_of, stay_ref, Goes-ref, ends_at}
use Rattle.core.proofs.mem.Facts.{says_two}
use Rattle.std.proofs.raw_atomic.Walks.{proved}
use Rattle.timer_ffi_base.specs.Cells.{is_open}
use Rattle.timer_ffi_base.specs.contracts.heap_cell.HeapCell as cell
use Rattle.timer_ffi_base.proofs.heap_cell.HeapCell.TheLaws as laws
use Rattle.timer_ffi_base.specs.contracts.heap_cell.HeapCell.holds as f
use Rattle.timer_ffi_base.proofs.heap_cell.HeapCell.holds.Statement.{statement}
use Rattle.timer_ffi_base.proofs.heap_cell.HeapCell.holds.Code as code

pub holds_spec : {M : Type 1} → statement M
holds_spec 𝓤 𝓛 𝓜 𝓡 wired T L =
    let R : RattleType = param 0 T in let LR = param_laws 0 T L in let S : RattleType = cell.the_row R in
    let En = f.ended T in let c = f.clauses T 𝓛 𝓜.mem 𝓡.returns in
    let at = layouts (a_type ∷ []) (T, tt) in
    let stayed : Stays En.signature.params En.kept = (stay_ref (0 ∷ []) tt (plain (λ _. S)), tt) in let W = walk_of 𝓛 En stayed c in
    proved 𝓛 En stayed c 𝓜 𝓡 (Goes-ref 𝓛 2 0 tt (plain (λ _. S)), tt)
    (f.Key.name at) (inst_fn at code.function) (code.unfolded 𝓤 𝓛.H 𝓜 𝓡 wired (T, tt))
    (λ κs. (mut_vals, tt)) (λ κs. (mut_Tells (named 0) κs.0 S, tt)) (λ κs qs bounds a _ are.
    let b = a.0.ref_ptr.0 in let o = a.0.ref_ptr.1 in let s = a.0.now in let vs = mut_vals a.0 in
    let y : W.Ghost = ((κs, qs, bounds, a, (vs, tt)), tt) in
    qed 𝓛 (((‵ (flft κs.0 qs.0) ⊛ ‵ (flft κs.1.0 qs.1.0) ⊛ ‵ ftrue) ⊛ ‵ ((MutRef (named 0) κs.0 S).own_val a.0 vs) ⊛ ‵ ftrue) ∷ raw
    (fact 𝓤 (κs.1.0 ⊑ T.lives)) ∷ ‵ ftrue ∷ []) ∵
    split ! $ split ! $ move ! (2 ∷ []) $ split ! $ keep ! (0 ∷ 2 ∷ 3 ∷ []) $
    enter ! _ _ _ _ _ $ alloc_all ! (λ l. pass_all ! refl ((tt, tt), tt) $
    -- [self; the tokens]: open self, and learn how it is stored
    fsplit3 ! $ move ! (1 ∷ 2 ∷ 3 ∷ []) $ opens ! tt S b o (λ us. move ! (1 ∷ []) $ peeks ! S _ (shows 𝓛 S) s us (λ is.
    let stored = (laws.lowers R LR).val_is s us is in let Cell = λ (ws : List Val). ‵ (cell_at full_share S.mir ws b o) in
    let typed = (((laws.the_row_laws R LR).lawful 𝓛).typed s _ (subst (λ (ws : List Val). Is S s ws) stored is)).0 in
    rewrite ! 1 Cell stored refl $
    sets ! (of_opd ! (load ! (through ! refl (fld ! refl (stop !))) (look_in ! 1 (sub ! 1 refl (whole !))))) refl (tt, typed.1.1.0) $
    sets ! (bin ! (get ! refl) (lit ! tt) tt) refl (tt, tt) $
    rewrite ! 1 Cell (sym stored) refl $ move ! (1 ∷ []) $ closes ! tt S s us b o $
    returns ! (look_at ! 0 refl) $ free_all ! refl $ keep ! (3 ∷ 0 ∷ 1 ∷ 2 ∷ 4 ∷ []) $
    suffices ! _ (ends_at 𝓛 En stayed c y (vbool (is_open s.mark)) (is_open s.mark) (s, tt) (tt, tt)) $ says_two ! (refl, refl) $
    group ! 3 $ nothing ! $ move ! (1 ∷ 0 ∷ []) $ join ! $ feq_i ! (List Val) (vbool (is_open s.mark) ∷ [])
    (vbool (is_open s.mark) ∷ []) refl $ move ! (1 ∷ 0 ∷ []) $ join ! $
    move ! (1 ∷ 2 ∷ 0 ∷ []) $ join ! $ join ! $ done !))))
