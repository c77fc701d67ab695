-- The answers to a stream that is given again, and then goes on.
use Rattle.std.specs.Prelude.{◌≡◌, ◌⊎◌, ℕ, List, [], ◌∷◌, ◌++◌}
use Rattle.timer_script.specs.Types.{FacilityState}
use Rattle.timer_facility.specs.Restored.{GoesOnAs}
use Rattle.timer_script.specs.declared.cutter.OnBadLine.TheVariants.{Report}
use Rattle.timer_script.specs.Decorator.{AddsNothing}
use Rattle.timer_script.specs.Service.{last_line, IsAnsweredWith}

-- the text begins with this front
abbrev pub BeginsWith : (text front : List ℕ) → Type 0
BeginsWith text front = (rest : List ℕ) × (text ≡ front ++ rest)

-- Some facility has this state, or was restored from a dump of it. If it is given these bytes and more, in one process,
-- its answer begins with this text.
abbrev pub IsAnsweredFirst : FacilityState → (came text : List ℕ) → Type 0
IsAnsweredFirst before came text = (again : FacilityState) (more whole : List ℕ) → GoesOnAs before again
    → IsAnsweredWith Report AddsNothing again (came ++ more) whole → BeginsWith whole text

-- the line at the end of a stream, or nothing
abbrev pub IsEndIf : List ℕ → Type 0
IsEndIf text = (text ≡ []) ⊎ ((after : FacilityState) × (text ≡ last_line after))

-- this is a front of the answer to these bytes, or of that and the line at the end
pub record IsAnswerSoFar (before : FacilityState) (came gone : List ℕ) : Type 0 where
  pub answer : List ℕ
  pub first : IsAnsweredFirst before came answer
  pub end : List ℕ
  pub end_is : IsEndIf end
  pub front : BeginsWith (answer ++ end) gone

-- these are whole lines, and no line of the end is the last
pub record AreWholeAnswers (text : List ℕ) : Type 0 where
  pub whole : (text ≡ []) ⊎ ((front : List ℕ) × (text ≡ front ++ 10 ∷ []))
  pub no_end : (front : List ℕ) (after : FacilityState) → text ≡ front ++ last_line after → ⊥
