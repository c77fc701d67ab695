-- The text that is written for lines: the answer to each, and what a decorator adds to it.
use Rattle.std.specs.Prelude.{◌≡◌, ℕ, List, [], ◌∷◌, ◌++◌, refl}
use Rattle.std.specs.List.{flat_map}
use Rattle.std.proofs.Common.{ap, ◌∙◌}
use Rattle.timer_script.specs.Types.{Event, Out, FacilityState}
use Rattle.timer_facility.specs.Played.{IsRun}
use Rattle.timer_script.specs.Text.{lines_of}

-- what is added to the answers to lines
pub record Decoration : Type 1 where
  -- the answer to one line, and its text with what may stand after the steps of its ticks
  pub Within : (answer text : List ℕ) → Type 0
  -- what comes after it, by the next serial before the line, and the state of the facility then
  pub After : ℕ → FacilityState → List ℕ → Type 0
  -- what comes behind that once all lines of one read were played, if there were any
  pub AfterRead : FacilityState → List ℕ → Type 0

-- an answer may stay as it is, and the text for two parts of an answer is that for both
pub record IsLawful (Adds : Decoration) : Type 0 where
  pub kept : (outs : List Out) → Adds.Within (lines_of outs) (lines_of outs)
  pub joined : (a b x y : List ℕ) → Adds.Within a x → Adds.Within b y → Adds.Within (a ++ b) (x ++ y)

-- the text grew
abbrev pub HasGrown : List ℕ → List ℕ → Type 0
HasGrown old new = (added : List ℕ) × (new ≡ old ++ added)

-- by what comes after an answer, in this state of the facility, if the next serial was this one before the line
abbrev pub HasGrownAfter : Decoration → ℕ → FacilityState → List ℕ → List ℕ → Type 0
HasGrownAfter Adds serial state old new = (added : List ℕ) × (new ≡ old ++ added) × Adds.After serial state added

-- by what comes after the lines of one read, in this state of the facility
abbrev pub HasGrownAfterRead : Decoration → FacilityState → List ℕ → List ℕ → Type 0
HasGrownAfterRead Adds state old new = (added : List ℕ) × (new ≡ old ++ added) × Adds.AfterRead state added

-- by what may stand after a step
abbrev pub HasGrownWithin : Decoration → List ℕ → List ℕ → Type 0
HasGrownWithin Adds old new = (added : List ℕ) × (new ≡ old ++ added) × Adds.Within [] added

-- some events were played, and the text is their answer with what may stand within it, and nothing after it
pub record HasAnsweredWithin (Adds : Decoration) (before : FacilityState) (events : List Event)
    (after : FacilityState) (text : List ℕ) : Type 0 where
  pub outs : List Out
  pub runs : IsRun before events outs after
  pub within : Adds.Within (lines_of outs) text

-- the text grew by such an answer
abbrev pub HasGrownByAnswer : Decoration → FacilityState → List Event → FacilityState → (old new : List ℕ) → Type 0
HasGrownByAnswer Adds before events after old new =
    (added : List ℕ) × (new ≡ old ++ added) × HasAnsweredWithin Adds before events after added

-- one line was played; its answer, and the text for it, at the end of which is what comes after the answer
pub record IsDecorated (Adds : Decoration) (before : FacilityState) (event : Event) (after : FacilityState)
    (answer text : List ℕ) : Type 0 where
  pub line : List ℕ
  pub answered : HasAnsweredWithin Adds before (event ∷ []) after line
  pub answer_is : answer ≡ lines_of answered.outs
  pub added : List ℕ
  pub comes_after : Adds.After before.next_serial after added
  pub text_is : text ≡ line ++ added

-- so it is for one line after another
abbrev pub AreDecorated : Decoration → FacilityState → List Event → FacilityState → (answer text : List ℕ) → Type 0
AreDecorated Adds before [] after answer text = (after ≡ before) × (answer ≡ []) × (text ≡ [])
AreDecorated Adds before (event ∷ events) after answer text =
    (next : FacilityState) × (a x b y : List ℕ) × IsDecorated Adds before event next a x
    × AreDecorated Adds next events after b y × (answer ≡ a ++ b) × (text ≡ x ++ y)

-- what comes behind the lines of one read, which left the facility in this state; nothing if there is no line
abbrev pub EndsRead : Decoration → List Event → FacilityState → List ℕ → Type 0
EndsRead Adds [] state added = added ≡ []
EndsRead Adds (event ∷ events) state added = Adds.AfterRead state added

-- the lines of one read were played; their answer, and the text for them, at the end of which is what comes after a read
pub record IsReadDecorated (Adds : Decoration) (before : FacilityState) (events : List Event) (after : FacilityState)
    (answer text : List ℕ) : Type 0 where
  pub lines : List ℕ
  pub decorated : AreDecorated Adds before events after answer lines
  pub added : List ℕ
  pub ends : EndsRead Adds events after added
  pub text_is : text ≡ lines ++ added

-- so it is for one read after another, of which these are the events
abbrev pub AreReadsDecorated : Decoration → FacilityState → List (List Event) → FacilityState → (answer text : List ℕ) → Type 0
AreReadsDecorated Adds before [] after answer text = (after ≡ before) × (answer ≡ []) × (text ≡ [])
AreReadsDecorated Adds before (events ∷ reads) after answer text =
    (next : FacilityState) × (a x b y : List ℕ) × IsReadDecorated Adds before events next a x
    × AreReadsDecorated Adds next reads after b y × (answer ≡ a ++ b) × (text ≡ x ++ y)

-- the events of some reads
abbrev pub events_in : List (List Event) → List Event
events_in reads = flat_map (λ events. events) reads

-- these events came in some reads, and the text is that for them
pub record AreDecoratedByReads (Adds : Decoration) (before : FacilityState) (events : List Event) (after : FacilityState)
    (answer text : List ℕ) : Type 0 where
  pub reads : List (List Event)
  pub events_are : events ≡ events_in reads
  pub decorated : AreReadsDecorated Adds before reads after answer text

-- nothing stands within an answer
abbrev pub AddsAfter : (AfterLine AfterRead : FacilityState → List ℕ → Type 0) → Decoration
AddsAfter AfterLine AfterRead = record {
  Within = λ answer text. text ≡ answer;
  After = λ serial s added. AfterLine s added;
  AfterRead = AfterRead;
}

pub after_is_lawful : (AfterLine AfterRead : FacilityState → List ℕ → Type 0) → IsLawful (AddsAfter AfterLine AfterRead)
after_is_lawful AfterLine AfterRead = record {
  kept = λ outs. refl;
  joined = λ a b x y f g. ap (λ t. t ++ y) f ∙ ap (λ t. a ++ t) g;
}

-- nothing is added
abbrev pub IsNothing : FacilityState → List ℕ → Type 0
IsNothing s added = added ≡ []

abbrev pub AddsNothing : Decoration
AddsNothing = AddsAfter IsNothing IsNothing
