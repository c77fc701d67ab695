-- One event: its outs, and the state after it. An event that the verdict refuses changes at most a number. A timer that
-- is started for a tick that has passed is due at once: its notice follows the answer, and it is never pending.
use Rattle.std.specs.Prelude.{ℕ, ◌+◌, Bool, true, nat_lt, List, [], ◌∷◌, ◌++◌, Option, Some, None, if◌then◌else◌, map, filter, length, slice_set}
use Rattle.timer_facility.specs.Types.{Timer, Handle, Answer, TickFault, Out, Started, Stopped, Restarted, Refused, Expired, Returned}
use Rattle.timer_base.specs.Pending.{Entry, timers_of, put, is_due_at, without_found, entries_left}
use Rattle.timer_facility.specs.declared.request.Reason.TheVariants.{NoSuch}
use Rattle.timer_facility.specs.declared.event.Out.TheVariants as Outs
use Rattle.timer_facility.specs.State.{FacilityState, ModelRequest, Start, Stop, Restart, ticks_until, SingleEvent, Asked, Tick, Close, Dump}
use Rattle.timer_facility.specs.Saved.{saved_of, state_lines}
use Rattle.timer_facility.specs.Verdict.{timer_named, Refusal, RequestNotTaken, RequestRefused, TickRefused, CloseRefused, verdict_on_tick, verdict}

-- the outs of an event, and the state after it
pub record StepResult : Type 0 where
  pub outs : List Out
  pub state : FacilityState

-- the number is used up
abbrev pub with_number : ℕ → ℕ → FacilityState → FacilityState
with_number client number s = record s { numbers = slice_set s.numbers client (number + 1) }

-- the notices of timers that expire
abbrev pub expiries : List Timer → List Out
expiries ts = map (λ t. Outs.Notice (Expired t)) ts

-- a request that is taken: its answer, the notices of the timers that are due with it, and its number used up
abbrev pub answered : ℕ → ℕ → Answer → List Timer → FacilityState → StepResult
answered client number answer due s = record {
  outs = Outs.Answered client number answer ∷ expiries due;
  state = with_number client number s;
}

-- a refused event: its only out is the refusal, and it changes nothing but the number of a request that was
-- taken
abbrev pub refused : FacilityState → SingleEvent → Refusal → StepResult
refused s (Asked client number request) (RequestNotTaken reason) =
    record { outs = Outs.NotTaken client number reason ∷ []; state = s }
refused s (Asked client number request) (RequestRefused reason) = answered client number (Refused reason) [] s
refused s event (TickRefused fault) = record { outs = Outs.TickRefused fault ∷ []; state = s }
refused s event _ = record { outs = Outs.CloseRefused ∷ []; state = s }

-- the refusal that an out is, if it is one
abbrev pub refusal_in : Out → List Refusal
refusal_in (Outs.Answered client number (Refused reason)) = RequestRefused reason ∷ []
refusal_in (Outs.NotTaken client number reason) = RequestNotTaken reason ∷ []
refusal_in (Outs.TickRefused fault) = TickRefused fault ∷ []
refusal_in Outs.CloseRefused = CloseRefused ∷ []
refusal_in _ = []

-- the refusals among the outs
abbrev pub refusals_in : List Out → List Refusal
refusals_in [] = []
refusals_in (out ∷ outs) = refusal_in out ++ refusals_in outs

-- the timer that an accepted start or restart makes; `interval` is 0 if it is due at once
abbrev pub new_timer : FacilityState → ℕ → ℕ → ℕ → ℕ → Timer
new_timer s client number interval action = record {
  serial = s.next_serial;
  client = client;
  number = number;
  deadline = s.now + interval;
  action = action;
}

-- the timer that an accepted request stops, if it stops one
abbrev pub timer_stopped : FacilityState → ℕ → ModelRequest → Option Timer
timer_stopped s client (Start deadline action) = None
timer_stopped s client (Stop name) = timer_named s client name
timer_stopped s client (Restart name deadline action) = timer_named s client name

-- the timer that an accepted request starts, if it starts one
abbrev pub timer_started : FacilityState → ℕ → ℕ → ModelRequest → Option Timer
timer_started s client number (Start deadline action) =
    Some (new_timer s client number (ticks_until s deadline) action)
timer_started s client number (Stop name) = None
timer_started s client number (Restart name deadline action) =
    Some (new_timer s client number (ticks_until s deadline) action)

-- the handle of a timer at a place
abbrev pub handle_of : ℕ → Timer → Handle
handle_of place t = record { place = place; serial = t.serial }

-- the answer to an accepted request, from the timer that it stops and the one that it starts: it does one of
-- the two, or both
abbrev pub answer_to : Option Timer → Option Timer → ℕ → Answer
answer_to None (Some new) place = Started (handle_of place new) new.deadline
answer_to (Some old) None place = Stopped old.serial
answer_to (Some old) (Some new) place = Restarted (handle_of place new) new.deadline old.serial
answer_to None None place = Refused NoSuch

-- the timer is no longer pending, if there is one
abbrev pub without_timer : Option Timer → FacilityState → FacilityState
without_timer old s = record s { pending = without_found old s.pending }

-- the timer that is due at once, if there is one
abbrev pub due_at_start : FacilityState → Option Timer → List Timer
due_at_start s None = []
due_at_start s (Some new) = if nat_lt s.now new.deadline then [] else new ∷ []

-- the entries with one more, if it is of a later tick than now
abbrev pub put_later : ℕ → Entry → List Entry → List Entry
put_later now entry entries = if nat_lt now entry.timer.deadline then put entry entries else entries

-- the timer is pending at the place unless it is due at once, and its serial is used up, if there is one
abbrev pub with_timer : Option Timer → ℕ → FacilityState → FacilityState
with_timer None place s = s
with_timer (Some new) place s = record s {
  pending = put_later s.now (record { place = place; timer = new }) s.pending;
  next_serial = s.next_serial + 1;
}

-- the state after an accepted request, but for its number: a stop of the one timer, and then a start of the other
abbrev pub after_request : Option Timer → Option Timer → ℕ → FacilityState → FacilityState
after_request old new place s = with_timer new place (without_timer old s)

-- the timers that expire at the next tick: the front of the list
abbrev pub expired_next : FacilityState → List Timer
expired_next s = filter (is_due_at (s.now + 1)) (timers_of s.pending)

-- an accepted event; the timer that it starts gets the place, which is a free choice of the wheel
abbrev pub accepted : FacilityState → SingleEvent → ℕ → StepResult
accepted s (Asked client number request) place =
    answered client number
    (answer_to (timer_stopped s client request) (timer_started s client number request) place)
    (due_at_start s (timer_started s client number request))
    (after_request (timer_stopped s client request) (timer_started s client number request) place s)
accepted s Tick place = record {
  outs = expiries (expired_next s);
  -- what is due at it is no longer pending
  state = record s { now = s.now + 1; pending = entries_left (s.now + 1) s.pending };
}
accepted s Close place = record {
  outs = Outs.Closed (length s.pending) ∷ map (λ t. Outs.Notice (Returned t)) (timers_of s.pending);
  state = record s { pending = []; is_closed = true };
}
accepted s Dump place = record { outs = map (λ line. Outs.Dumped line) (state_lines (saved_of s)); state = s }

-- the step of an event by the verdict on it: what comes of it if it is accepted, or a refusal
abbrev pub step_by : FacilityState → SingleEvent → StepResult → Option Refusal → StepResult
step_by s event result None = result
step_by s event result (Some refusal) = refused s event refusal

-- one event
abbrev pub step : FacilityState → SingleEvent → ℕ → StepResult
step s event place = step_by s event (accepted s event place) (verdict s event)

-- the step of a tick, by why it is refused
abbrev pub step_of_tick : FacilityState → Option TickFault → StepResult
step_of_tick s fault = step_by s Tick (accepted s Tick 0) (verdict_on_tick fault)

-- the step of a close, by whether the facility was closed already
abbrev pub step_of_close : FacilityState → Bool → StepResult
step_of_close s closed = step_by s Close (accepted s Close 0) (if closed then Some CloseRefused else None)
