-- A struct of C that has a cell's words and owns what the cell owns, lent as that cell: the function casts its
-- reference. Assumes `Logic`.
--     Cast           such a struct S and the cell's content R, with the values of each as the other's
--     cast_fn        the code, by the struct's type and the cell's
--     casts          it lends the struct as the cell
use Rattle.std.proofs.Common.{◌≡◌, ℕ, List, [], ◌∷◌, refl, sym}
use seplogic.Ra.Ura.{Ura}
use base.Fraction.{full_share}
use base.Logic.{ent, sep, id⊢}
use base.Fml.{Fml, GName, ftrue, fsep, flft}
use mir.Syntax.{Ty, Fn, Callee, named, erased, mut, ty_ref, ty_ptr, local, value_local, place, deref, addr_of, rv_opd, copy, assign, seq, block, return}
use mir.Val.{Val, vptr}
use prog.Model.{Model}
use prog.Wp.{Closed}
use contract.Monad.{fact}
use contract.Running.{Running, tables}
use types.Logic.{Logic, sem}
use types.Kit.{‵, raw, ◌⊛◌, some, later, at_ret, ◌$◌, ◌∵◌, !, qed, move, keep, use1, use2, split, join, pick, fpick, fsplit, fsplit3, fjoin, suffices, frame, done, await, group, fpack, rewrite}
use types.Run.{stop, of_opd, first, blocks, exec, returns, enter, addr}
use types.ByLocal.{alloc_all, pass_all, free_all, look_at, get, through, sets, env, sets_last}
use denote.Exit.{no}
use denote.Builtin.{RefMutOf, One}
use denote.Memory.{mem, cell_at, part_of}
use denote.RattleType.{RattleType}
use denote.Ref.{MutRef, mut_vals, mut_Tells}
use denote.Signature.{plain, mut_ref_to}
use denote.Steps.{nothing, opens}
use denote.Follow.{follows, Part, lends_Part}
use denote.Triple.Clauses.{Clauses, Ended, closing}
use denote.Triple.Spec.{Meets}
use denote.Triple.Walked.{says, Stays, stay_dropped, walk_of, ends_at, Goes-spent_ref}
use Rattle.std.proofs.raw_atomic.Walks.{proved}
use Rattle.std.proofs.VecSteps.Shapes.{after}
use Rattle.std.specs.Borrow.{Lends}
use Rattle.timer_ffi_base.specs.declared.heap_cell.HeapCell.{HeapCell}
use Rattle.timer_ffi_base.specs.contracts.heap_cell.HeapCell.{the_row as cell_of}

pub record Cast : Type 2 where
  pub S : RattleType
  pub R : RattleType
  pub as_cell : S.Denot → HeapCell R.Denot
  pub as_slot : HeapCell R.Denot → S.Denot
  pub one : One S.mir
  pub words : (us : List Val) (b o : ℕ) → cell_at full_share S.mir us b o ≡ cell_at full_share (cell_of R).mir us b o
  pub there : (s : S.Denot) (us : List Val) → S.own_val s us ≡ (cell_of R).own_val (as_cell s) us
  pub back : (w : HeapCell R.Denot) (us : List Val) → (cell_of R).own_val w us ≡ S.own_val (as_slot w) us

abbrev pub cast_fn : Ty → Ty → Fn
cast_fn σ τ = record {
  lifetimes = 1;
  outlives = [];
  ty_params = [];
  givens = 0;
  params = 1;
  locals = local (ty_ref (named 0) mut τ) value_local ∷ local (ty_ref (named 0) mut σ) value_local
      ∷ local (ty_ref erased mut τ) value_local ∷ local ty_ptr value_local ∷ local ty_ptr value_local ∷ [];
  body = seq (block (seq (assign (place 3 []) (addr_of (place 1 (deref σ ∷ []))))
      (seq (assign (place 4 []) (rv_opd (copy (place 3 [])))) (assign (place 2 []) (addr_of (place 4 (deref τ ∷ [])))))))
      (seq (assign (place 0 []) (rv_opd (copy (place 2 [])))) return);
}

module _ (X : Cast) where
  abbrev C : RattleType
  C = cell_of X.R

  abbrev ended : Ended
  ended = record {
    signature = record {
      lifetimes = 1;
      outlives = [];
      params = RefMutOf (0 ∷ []) tt (plain (λ _. X.S)) (λ _. X.one) ∷ [];
      result = RefMutOf (0 ∷ []) tt (plain (λ _. C)) (λ _. tt);
    };
    kept = (no, tt);
  }

  abbrev stayed : Stays ended.signature.params ended.kept
  stayed = (stay_dropped (mut_ref_to (0 ∷ []) tt (plain (λ _. X.S))) no, tt)

  module _ {M : Type 1} {𝓤 : Ura M} (𝓛 : Logic 𝓤) where
    abbrev clauses : Clauses 𝓤 ended
    clauses κs a = record {
      ghost = Unit {0};
      requires = λ _. sem 𝓛 ftrue;
      ensures = λ _ r w. sep 𝓤 (sem 𝓛 (Lends X.S C a.0 r X.as_slot)) (fact 𝓤 (r.now ≡ X.as_cell a.0.now));
    }

  module _ {M : Type 1} {𝓤 : Ura M} (𝓛 : Logic 𝓤) (b o : ℕ) where
    -- such a struct in memory is the cell there, and the other way
    there : (s : X.S.Denot) (us : List Val)
        → ent 𝓤 (sep 𝓤 (sem 𝓛 (cell_at full_share X.S.mir us b o)) (sem 𝓛 (X.S.own_val s us))) (sem 𝓛 ((mem C).own_at (X.as_cell s) b o))
    unfolding part_of
    there s us =
        qed 𝓛 (‵ (cell_at full_share X.S.mir us b o) ∷ ‵ (X.S.own_val s us) ∷ []) ∵
        rewrite ! 0 (λ (F : Fml). ‵ F) (X.words us b o) refl $
        rewrite ! 1 (λ (F : Fml). ‵ F) (X.there s us) refl $ fjoin ! $
        fpack ! (List Val) (λ vs. fsep (cell_at full_share C.mir vs b o) (C.own_val (X.as_cell s) vs)) us $ done !

    back : (w : C.Denot) → ent 𝓤 (sep 𝓤 (sem 𝓛 ((mem C).own_at w b o)) (sem 𝓛 ftrue)) (sem 𝓛 ((mem X.S).own_at (X.as_slot w) b o))
    unfolding part_of
    back w =
        qed 𝓛 (‵ ((mem C).own_at w b o) ∷ ‵ ftrue ∷ []) ∵ fpick ! (λ us. fsplit ! $
        rewrite ! 0 (λ (F : Fml). ‵ F) (sym (X.words us b o)) refl $
        rewrite ! 1 (λ (F : Fml). ‵ F) (X.back w us) refl $ fjoin ! $ keep ! (0 ∷ []) $
        fpack ! (List Val) (λ vs. fsep (cell_at full_share X.S.mir vs b o) (X.S.own_val (X.as_slot w) vs)) us $ done !)

  pub casts : (σ τ : Ty) {M : Type 1} (𝓤 : Ura M) (𝓛 : Logic 𝓤) (𝓜 : Model 𝓤 𝓛.H) (𝓡 : Running 𝓤 𝓛.H 𝓜) (k : Callee)
      → Closed 𝓤 𝓛.H (tables 𝓤 𝓛.H 𝓜 𝓡 𝓡.env).C (tables 𝓤 𝓛.H 𝓜 𝓡 𝓡.env).Λ k (cast_fn σ τ)
      → Meets 𝓛 ended.signature ((tables 𝓤 𝓛.H 𝓜 𝓡 𝓡.env).C k) (closing 𝓛 ended (clauses 𝓛))
  casts σ τ 𝓤 𝓛 𝓜 𝓡 k closed =
      let S = X.S in let fn : Fn = cast_fn σ τ in let c = clauses 𝓛 in let W = walk_of 𝓛 ended stayed c in
      let 𝓣 = tables 𝓤 𝓛.H 𝓜 𝓡 𝓡.env in
      proved 𝓛 ended stayed c 𝓜 𝓡 (Goes-spent_ref 𝓛 1 (0 ∷ []) tt (plain (λ _. S)), tt) k fn closed
      (λ κs. (mut_vals, tt)) (λ κs. (mut_Tells (named 0) κs.0 S, tt)) (λ κs qs bounds a _ are.
      let κ = κs.0 in let q = qs.0 in let γ = a.0.ghost_name in
      let b = a.0.ref_ptr.0 in let o = a.0.ref_ptr.1 in let s = a.0.now in let vs = mut_vals a.0 in
      let y : W.Ghost = ((κs, qs, bounds, a, (vs, tt)), tt) in
      qed 𝓛 (((‵ (flft κ q) ⊛ ‵ ftrue) ⊛ ‵ ((MutRef (named 0) κ S).own_val a.0 vs) ⊛ ‵ ftrue) ∷ ‵ ftrue ∷ []) ∵
      split ! $ split ! $ move ! (2 ∷ []) $ split ! $ keep ! (0 ∷ 2 ∷ []) $
      enter ! _ _ _ _ _ $ alloc_all ! (λ l. pass_all ! refl ((tt, tt), tt) $
      -- [self; the token]: open self
      fsplit3 ! $ move ! (1 ∷ 2 ∷ 3 ∷ []) $ opens ! tt S b o (λ us.
      use2 𝓛 (‵ ((mem C).own_at (X.as_cell s) b o)) (there 𝓛 b o s us) $
      -- [the cell; the open borrow, in three entries]
      first ! $ blocks ! $ sets ! (addr ! (through ! refl (stop !))) refl (tt, tt) $ sets ! (of_opd ! (get ! refl)) refl (tt, tt) $
      sets_last ! (addr ! (through ! refl (stop !))) refl (tt, tt) $
      exec ! 𝓣.C 𝓣.Λ (env fn.locals l) (after 1 fn.body) (at_ret _ (W.post y)) $
      sets ! (of_opd ! (get ! refl)) refl (tt, tt) $
      nothing ! $ move ! (2 ∷ 3 ∷ 4 ∷ 1 ∷ 0 ∷ []) $ group ! 5 $
      use1 𝓛 (later (some (λ (δ : GName). raw (Part 𝓛 S C X.as_slot (named 0) κ q b o b o γ (sem 𝓛 ftrue) (back 𝓛 b o) (X.as_cell s) δ))))
      (lends_Part 𝓛 S C X.as_slot (named 0) κ q b o b o γ (sem 𝓛 ftrue) (back 𝓛 b o) (S.coded.code s) (S.coded.code s) (X.as_cell s)) $
      await ! tt $ pick ! (λ δ.
      returns ! (look_at ! 0 refl) $ free_all ! refl $ keep ! (0 ∷ []) $
      use1 𝓛 (‵ ((MutRef (named 0) κ C).own_val (record { ref_ptr = (b, o); ghost_name = δ; now = X.as_cell s }) (vptr b o ∷ [])) ⊛ ‵
      (flft κ q) ⊛ ‵ (follows S C γ δ X.as_slot)) (id⊢ 𝓤 _) $
      -- [the loan; the token; what follows]
      split ! $ move ! (1 ∷ []) $ split ! $ move ! (2 ∷ 0 ∷ 1 ∷ []) $
      suffices ! _ (ends_at 𝓛 ended stayed c y (vptr b o) (record {
        ref_ptr = (b, o);
        ghost_name = δ;
        now = X.as_cell s;
      }) (tt, tt) (tt, tt)) $
      nothing ! $ nothing ! $ fjoin ! $ join ! $ nothing ! $ move ! (2 ∷ 0 ∷ []) $ join ! $ join ! $ frame ! $ says ! refl $ done !))))
