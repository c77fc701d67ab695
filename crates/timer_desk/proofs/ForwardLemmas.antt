-- The verdict is never out of memory; a request adds no client, and at most one timer, pending or handed out.
use Rattle.std.proofs.Common.{◌≡◌, ◌∙◌, ap, inl, inr, ℕ, Bool, true, false, not, length}
use Rattle.std.specs.Prelude.{nat_lt, if◌then◌else◌, Some, None}
use Rattle.timer_desk.specs.Types.{LAST, Request, NotTaken, Numbered, Word}
use Rattle.timer_facility.specs.declared.request.NotTaken.TheVariants.{Closed, NoClient, Repeated, NumbersSpent, Ahead, OutOfMemory}
use Rattle.timer_facility.specs.State.{FacilityState, number_of}
use Rattle.timer_facility.specs.Verdict.{not_taken}
use Rattle.timer_facility.specs.Facility.{FacilityView, model_of, WhyNotTaken, NeedsMemory}
use Rattle.timer_facility.proofs.ClockLemmas.{clients-asked}
use Rattle.timer_desk.specs.Report.{place_in_word}
use Rattle.timer_desk.specs.Forward.{IsForwarded}

first_of : (closed no_client repeated spent ahead : Bool) (next : ℕ)
    → (if closed then Some Closed else if no_client then Some NoClient else if repeated then Some
    (Repeated next) else if spent then Some NumbersSpent else if ahead then Some (Ahead next) else None) ≡ Some OutOfMemory → ⊥
first_of true a b c d next h = absurd (cc)
first_of false true b c d next h = absurd (cc)
first_of false false true c d next h = absurd (cc)
first_of false false false true d next h = absurd (cc)
first_of false false false false true next h = absurd (cc)
first_of false false false false false next h = absurd (cc)

no_want : (s : FacilityState) (client number : ℕ) → not_taken s client number ≡ Some OutOfMemory → ⊥
unfolding not_taken
no_want s client number h =
    first_of s.is_closed (not (nat_lt client (length s.numbers))) (nat_lt number (number_of s client)) (nat_lt LAST (number_of s client))
    (nat_lt (number_of s client) number) (number_of s client) h

-- if an allocation failed, the request allocates, and no room was made
pub needs_memory : (s : FacilityState) (client number : ℕ) (request : Request) (reason : NotTaken) → reason ≡ OutOfMemory
    → WhyNotTaken s client number request reason → NeedsMemory s client number request × (s.has_room ≡ false)
needs_memory s client number request reason e n = elim n [
  | inl h ↦ absurd (no_want s client number (cc))
  | inr h ↦ (h.1, h.2)
]

-- and it adds no client
pub clients_are : (s : FacilityState) (client : ℕ) (numbered : Numbered) (word : Word) (new : FacilityView)
    → IsForwarded s client numbered word new → length new.state.numbers ≡ length s.numbers
clients_are s client numbered word new h =
    ap (λ (v : FacilityView). length v.state.numbers) h.left
    ∙ clients-asked s client numbered.number (model_of numbered.request) (place_in_word word)
