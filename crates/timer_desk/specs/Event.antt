-- The owner's events at a facility: a tick, many ticks, or a close.
use Rattle.std.specs.Prelude.{◌≡◌, ◌≢◌, ℕ, ◌+◌, Bool, true, false, [], length}
use Rattle.timer_facility.specs.State.{pending_of}
use Rattle.timer_facility.specs.Facility.{FacilityView}
use Rattle.timer_desk.specs.Types.{Served, Done, Step}
use Rattle.timer_desk.specs.declared.report.Done.TheVariants as Dones
use Rattle.timer_desk.specs.declared.report.Step.TheVariants as Steps
use Rattle.timer_desk.specs.Backlog.{notices_for}
use Rattle.timer_desk.specs.Report.{asked_in, words_in, flushed_in}
use Rattle.timer_desk.specs.Member.{FacilityMember}
use Rattle.timer_desk.specs.Desk.{notices_of}

-- whether the step is the owner's, and not one of a client
abbrev pub is_event : Step → Bool
is_event (Steps.Serve client) = false
is_event (Steps.Flush client) = false
is_event step = true

-- a member that says nothing of client c
pub record IsSilent (c : ℕ) (done : Done) : Type 0 where
  pub no_request : asked_in c done ≡ []
  pub no_word : words_in c done ≡ []
  pub none_flushed : flushed_in c done ≡ 0
  pub no_serve : (served : Served) → done ≢ Dones.Served c served

-- An event leads from f to g, and what it hands out waits then; `first` is its member of a report. Each timer
-- that is handed out was pending, and is no longer.
pub record IsEvent (first : Done) (f g : FacilityView) : Type 0 where
  pub silent : (c : ℕ) → IsSilent c first
  pub member : FacilityMember first f g
  pub same_numbers : length g.state.numbers ≡ length f.state.numbers
  pub of_client : (c : ℕ) → pending_of g.state c + notices_for c g.waiting ≡ pending_of f.state c
  pub all : length g.waiting + length g.state.pending ≡ length f.state.pending
  pub notices : g.waiting ≡ notices_of f.state first
