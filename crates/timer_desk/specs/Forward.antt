-- The result of a client's request at the desk.
use Rattle.std.specs.Prelude.{◌≡◌, ℕ, Bool, true, false, [], ◌∷◌, Option, Some, None}
use Rattle.timer_facility.specs.declared.request.NotTaken.TheVariants as NotTakens
use Rattle.timer_desk.specs.Types.{Request, Numbered, Word}
use Rattle.timer_facility.specs.State.{FacilityState, action_of}
use Rattle.timer_facility.specs.Step.{StepResult, step}
use Rattle.timer_facility.specs.Facility.{FacilityView, view_after, notice_outs, model_of, is_for_a_tick, event_of_request, NeedsMemory}
use Rattle.timer_desk.specs.declared.word.Word.TheVariants as Words
use Rattle.timer_desk.specs.Report.{out_of, place_in_word}

-- the step of a client's request, with the place in its word
abbrev pub request_step : FacilityState → ℕ → Numbered → Word → StepResult
request_step s client numbered word = step s (event_of_request client numbered.number numbered.request)
    (place_in_word word)

-- the word is not a refusal for memory
abbrev pub IsNotOutOfMemory : Word → Type 0
IsNotOutOfMemory (Words.NotTaken number action reason) = ¬ (reason ≡ NotTakens.OutOfMemory)
IsNotOutOfMemory word = Unit {0}

-- the word is about a request, and has its action
abbrev pub CarriesAction : Request → Word → Type 0
CarriesAction request (Words.Answered number action answer) = action ≡ action_of (model_of request)
CarriesAction request (Words.NotTaken number action reason) = action ≡ action_of (model_of request)
CarriesAction request (Words.Notice notice) = ⊥

-- the request was taken or refused, and this is its word; what is due with it waits
pub record IsForwarded (s : FacilityState) (client : ℕ) (numbered : Numbered) (word : Word)
    (new : FacilityView) : Type 0 where
  pub outs_are : (request_step s client numbered word).outs ≡ out_of client word ∷ notice_outs new.waiting
  pub left : new ≡ view_after (request_step s client numbered word)
  pub quiet : is_for_a_tick numbered.request ≡ false → new.waiting ≡ []
  pub not_out_of_memory : IsNotOutOfMemory word
  pub carries : CarriesAction numbered.request word

-- memory can have run out: of a line that may refuse, or of the request that is now held, which is a start that would
-- be accepted, at a facility in which no room was made
abbrev pub RanOutOfMemory : Bool → ℕ → FacilityState → Option Numbered → Type 0
RanOutOfMemory line_may_refuse client s None = line_may_refuse ≡ true
RanOutOfMemory line_may_refuse client s (Some numbered) =
    (s.has_room ≡ false) × NeedsMemory s client numbered.number numbered.request
