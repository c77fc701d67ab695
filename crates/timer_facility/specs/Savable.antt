-- What a run keeps besides `IsSound`: with it the lines of a dump say the whole state, and no line is refused.
use Rattle.std.specs.Prelude.{◌≡◌, ◌<◌, ◌≤◌, ℕ, true, List, [], length}
use Rattle.std.specs.List.{AllByRecursion}
use Rattle.timer_base.specs.Pending.{timers_of}
use Rattle.timer_facility.specs.Types.{LAST, Timer, Event, Limits}
use Rattle.timer_facility.specs.declared.event.Event.TheVariants as Events
use Rattle.timer_facility.specs.declared.saved.Stage.TheVariants.{Whole}
use Rattle.timer_facility.specs.Saved.{ReadState, saved_of, serial_of_last}
use Rattle.timer_facility.specs.State.{FacilityState}

-- the numbers of a pending timer, over a clock with this last tick and with so many clients
pub record IsSavableTimer (last clients : ℕ) (t : Timer) : Type 0 where
  pub serial_some : 1 ≤ t.serial
  pub owned : t.client < clients
  pub number_in_range : t.number ≤ LAST
  pub in_time : t.deadline ≤ last
  pub action_in_range : t.action ≤ LAST

-- an opened facility is so, and each run keeps it, if the actions of its events are at most LAST
pub record IsSavable (s : FacilityState) : Type 0 where
  pub now_in_range : s.now ≤ s.last
  pub serial_some : 1 ≤ s.next_serial
  pub numbers_some : AllByRecursion (λ n. 1 ≤ n) s.numbers
  pub timers : AllByRecursion (IsSavableTimer s.last (length s.numbers)) (timers_of s.pending)
  pub none_if_closed : s.is_closed ≡ true → s.pending ≡ []

-- the action of the timer that an event starts, 0 if it starts none
abbrev pub action_in : Event → ℕ
action_in (Events.Start client number interval action) = action
action_in (Events.StartAt client number deadline action) = action
action_in (Events.Restart client number serial interval action) = action
action_in (Events.RestartAt client number serial deadline action) = action
action_in event = 0

-- a text can say the actions of these events
abbrev pub HaveActionsInRange : List Event → Type 0
HaveActionsInRange events = AllByRecursion (λ event. action_in event ≤ LAST) events

-- a text can say the request numbers and the actions of these timers
abbrev pub AreSaidTimers : List Timer → Type 0
AreSaidTimers timers = AllByRecursion (λ t. (t.number ≤ LAST) × (t.action ≤ LAST)) timers

-- a facility with these limits has at least as many clients, as much capacity and as long a clock
pub record IsWithin (limits : Limits) (s : FacilityState) : Type 0 where
  pub few_clients : length s.numbers ≤ limits.clients
  pub few_timers : s.capacity ≤ limits.capacity
  pub in_time : s.last ≤ limits.last_tick

-- what the whole dump of the state says, to a facility with these limits
abbrev pub read_of : Limits → FacilityState → ReadState
read_of limits s = record {
  limits = limits;
  stage = Whole;
  saved = saved_of s;
  last_serial = serial_of_last 0 (saved_of s).timers;
}
