-- The calls of C as calls of a run of timer_runs: what a struct holds is a state, and how its wheels count. No law about
-- runs depends on the counts.
use Rattle.std.specs.Prelude.{◌≡◌, ◌<◌, ℕ, Bool, true, false, Option, Some, None, if◌then◌else◌}
use Rattle.timer_base.specs.Counts.{no_counts}
use Rattle.timer_base.specs.Layout.{NoSlots}
use Rattle.timer_base.specs.WheelState.{empty_wheel}
use Rattle.timer_wheels.specs.hier.HierWheel as hier
use Rattle.timer_total.specs.Refusals.{left_until}
use Rattle.timer_total.specs.TimersState.{TimersState, Counting}
use Rattle.timer_runs.specs.Runs.{Counters, Call, IsCall, Advanced, Kept}
use Rattle.timer_ffi_base.specs.Cells.{is_open}
use Rattle.timer_c.specs.declared.c_timers.CTimers.{CTimers}
use Rattle.timer_c.specs.declared.layout.CHandle.{CHandle}
use Rattle.timer_c.specs.declared.layout.Expired.{Expired}
use Rattle.timer_c.specs.declared.status.TheConstants.{OK}

-- an advance adds nothing to the counts: they are of starts
abbrev pub counts_kept : Counting
counts_kept old new counts = counts

abbrev pub c_counters : Counters
c_counters = record {
  start = hier.with_counted_start;
  tick = λ _ counts. counts;
  advance = counts_kept;
}

-- no timers after this serial
abbrev pub no_timers : ℕ → TimersState
no_timers serial = record { wheel = empty_wheel NoSlots 0 0; counts = no_counts; last_serial = serial }

-- the state of what a struct holds: one that is not open holds no timers, and its serials go on
abbrev pub state_of : CTimers → TimersState
state_of t = if is_open t.slot.mark then t.slot.state else no_timers t.last_serial

-- a call of C did to its struct what this call of a run does
abbrev pub Does : Call → CTimers → CTimers → Type 0
Does call old new = IsCall c_counters call (state_of old) (state_of new)

-- by its status: it did so, or it was refused
abbrev pub DoesIfOk : ℕ → Call → CTimers → CTimers → Type 0
DoesIfOk status call old new = (status ≡ OK → Does call old new) × (0 < status → Does Kept old new)

-- On open timers: the call of a run that this one is, if it returns `OK`. Else why it was refused; then nothing changed, and
-- the handle was not written.
pub record HasMade (call : Call) (why : TimersState → ℕ → Type 0) (status : ℕ) (before handle : CHandle)
    (old new : TimersState) : Type 0 where
  pub made : status ≡ OK → IsCall c_counters call old new
  pub refused : 0 < status → why old status
  pub kept : 0 < status → (new ≡ old) × (handle ≡ before)

-- an advance up to this tick, and how many ticks it passed
abbrev pub advance_to : ℕ → CTimers → CTimers → Call
advance_to tick old new = Advanced (left_until tick (state_of old)) (left_until (state_of new).wheel.now (state_of old))

-- what C was handed, by whether there was a timer
abbrev pub handed : Bool → Expired → Option Expired
handed true out = Some out
handed false out = None
