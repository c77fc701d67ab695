-- Whole runs of single events.
use Rattle.std.specs.Prelude.{◌≡◌, ℕ, List, [], ◌∷◌, ◌++◌, map, false}
use Rattle.timer_base.specs.Layout.{NoSlots}
use Rattle.timer_base.specs.Pending.{Entry}
use Rattle.timer_facility.specs.Types.{Answer, Notice, Out, Started, Restarted}
use Rattle.timer_facility.specs.declared.event.Out.TheVariants as Outs
use Rattle.timer_facility.specs.State.{FacilityState, SingleEvent, Asked, ByHandle, Stop, Restart}
use Rattle.timer_facility.specs.Step.{StepResult, step}

-- an event, and the place that the wheel gives if it is an accepted start or restart
pub record PlacedEvent : Type 0 where
  pub event : SingleEvent
  pub place : ℕ

-- an event, and its outs
pub record HistoryEntry : Type 0 where
  pub event : SingleEvent
  pub outs : List Out

-- the events one after another, each with its outs
abbrev pub history : FacilityState → List PlacedEvent → List HistoryEntry
history s [] = []
history s (p ∷ ps) = record {
  event = p.event;
  outs =
      (step s p.event p.place).outs;
} ∷ history (step s p.event p.place).state ps

-- the state after the events
abbrev pub state_after : FacilityState → List PlacedEvent → FacilityState
state_after s [] = s
state_after s (p ∷ ps) = state_after (step s p.event p.place).state ps

-- the outs of the events, joined
abbrev pub outs_of : List HistoryEntry → List Out
outs_of [] = []
outs_of (h ∷ hs) = h.outs ++ outs_of hs

-- the steps of the events one after another, their outs joined
abbrev pub run : FacilityState → List PlacedEvent → StepResult
run s placed = record { outs = outs_of (history s placed); state = state_after s placed }

-- the notice that an out is, if it is one
abbrev pub notice_in : Out → List Notice
notice_in (Outs.Notice notice) = notice ∷ []
notice_in _ = []

-- the notices among the outs, in their order
abbrev pub notices_in : List Out → List Notice
notices_in [] = []
notices_in (out ∷ outs) = notice_in out ++ notices_in outs

-- the notices of a history, in their order
abbrev pub notices : List HistoryEntry → List Notice
notices hs = notices_in (outs_of hs)

-- an answer without the place
abbrev pub bare_answer : Answer → Answer
bare_answer (Started handle deadline) = Started (record handle { place = 0 }) deadline
bare_answer (Restarted handle deadline old) = Restarted (record handle { place = 0 }) deadline old
bare_answer answer = answer

-- an out without the place
abbrev pub bare : Out → Out
bare (Outs.Answered client number answer) = Outs.Answered client number (bare_answer answer)
bare out = out

-- the outs without the places
abbrev pub bare_outs : List Out → List Out
bare_outs outs = map bare outs

-- an entry without its place
abbrev pub bare_entry : Entry → Entry
bare_entry entry = record entry { place = 0 }

-- a state without the places and the layout of the slots, and without regard to whether room was made
abbrev pub bare_state : FacilityState → FacilityState
bare_state s = record s { layout = NoSlots; pending = map bare_entry s.pending; has_room = false }

-- the event names no place: a stop or restart names its timer by serial
abbrev pub NamesBySerial : SingleEvent → Type 0
NamesBySerial (Asked client number (Stop (ByHandle handle))) = ⊥
NamesBySerial (Asked client number (Restart (ByHandle handle) deadline action)) = ⊥
NamesBySerial _ = Unit {0}

-- two runs have the same outs and the same final state, except for places
pub record AreSameButForPlaces (one other : StepResult) : Type 0 where
  pub outs_are : bare_outs one.outs ≡ bare_outs other.outs
  pub states_are : bare_state one.state ≡ bare_state other.state
