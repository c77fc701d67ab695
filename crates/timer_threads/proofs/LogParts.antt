-- A log by value: a struct of one field, which has no bytes. Assumes `Logic`.
--     none, one      the field and the struct, as they are stored
--     log_made       a log of these items: it owns nothing, and they are no more than a name for it
use Rattle.std.proofs.Common.{List, [], ◌∷◌, refl}
use seplogic.Ra.Ura.{Ura}
use mir.Val.{Val, vstruct, vcons, vnil}
use types.Logic.{Logic}
use types.Kit.{Goal, Step, step, Item, ‵, ◌$◌, move, fjoin, fpack, feq_i}
use denote.RattleType.{RattleType, Valss}
use denote.Laws.{Is}
use denote.Steps.{nothing, owned}
use denote.Struct.Laws.{makes}
use denote.Struct.Struct.{within}
use denote.Struct.Owning.{shape}
use Rattle.std.specs.contracts.marker.PhantomData as Mark
use Rattle.timer_threads.specs.contracts.log.Log as Log

abbrev pub none : Val
none = vstruct vnil

abbrev pub one : Val
one = vstruct (vcons none vnil)

module _ (R : RattleType) {M : Type 1} {𝓤 : Ura M} {𝓛 : Logic 𝓤} {K : Type 0} {Γ : List (Item 𝓤)} {G : Goal 𝓤 𝓛.H} where
  pub log_made : K → (items : List R.Denot)
      → Step K 𝓛 (‵ ((Log.the_row R).own_val (record { of = record {}; items = items }) (one ∷ [])) ∷ Γ) G Γ G
  log_made t items = step (λ rest.
      nothing t $ owned t (Mark.the_row R) (Is (Mark.the_row R)) (makes (Mark.the_type R) tt 𝓛) (record {}) (none ∷ []) (tt, (refl, tt)) $
      nothing t $ move t (1 ∷ 0 ∷ []) $ fjoin t $ feq_i t (List Val) (one ∷ []) (one ∷ []) refl $ fjoin t $
      fpack t (Valss (Mark.the_row R ∷ [])) (within (shape (Log.the_type R)) (record {}, tt) (one ∷ [])) (none ∷ [], tt) $
      fjoin t $ rest)
