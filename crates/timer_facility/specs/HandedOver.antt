-- What an event adds to the pending timers, and what it hands out of them.
use Rattle.std.specs.Prelude.{◌≡◌, ◌≤◌, ◌==◌, ℕ, ◌+◌, if◌then◌else◌, List, length, map}
use Rattle.timer_facility.specs.Types.{Timer}
use Rattle.timer_facility.specs.State.{FacilityState, count_of, pending_of}
use Rattle.timer_facility.specs.Step.{StepResult}
use Rattle.timer_facility.specs.Run.{notices_in}
use Rattle.timer_facility.specs.Owed.{timer_handed}

-- the timers that an event hands out, in their order
abbrev pub timers_handed : StepResult → List Timer
timers_handed st = map timer_handed (notices_in st.outs)

-- of the timers that are pending or handed out after a step, at most one was not pending before, and it is this client's
pub record AddsAtMostOne (client : ℕ) (s : FacilityState) (st : StepResult) : Type 0 where
  pub of_client : (c : ℕ) → pending_of st.state c + count_of c (timers_handed st)
      ≤ pending_of s c + (if client == c then 1 else 0)
  pub all : length st.state.pending + length (timers_handed st) ≤ length s.pending + 1

-- what is handed out was pending, and is no longer pending
pub record HandsOver (s : FacilityState) (st : StepResult) : Type 0 where
  pub of_client : (c : ℕ) → pending_of st.state c + count_of c (timers_handed st) ≡ pending_of s c
  pub all : length st.state.pending + length (timers_handed st) ≡ length s.pending
