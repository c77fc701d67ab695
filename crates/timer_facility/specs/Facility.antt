-- What a caller sees of a facility: its state, and the notices that wait to be handed out. And its fields.
use Rattle.std.specs.Prelude.{◌≡◌, ◌<◌, ◌≤◌, ◌⊎◌, ℕ, ◌+◌, Bool, true, false, List, [], ◌∷◌, ◌++◌, map, take, drop, length, slice_index, is_some, Option, Some, None}
use Rattle.std.specs.List.{AllByRecursion}
use Rattle.timer_facility.specs.Types.{LAST, Timer, MAX_CLIENTS, MAX_PENDING, Request, Reason, Answer, NotTaken, CloseFault, Notice, Out, Started, Stopped, Restarted, Refused, Expired, Returned}
use Rattle.timer_base.specs.Pending.{timers_of}
use Rattle.timer_base.specs.WheelState.{WheelState}
use Rattle.timer_facility.specs.declared.request.Request.TheVariants as Requests
use Rattle.timer_facility.specs.declared.request.NotTaken.TheVariants as NotTakens
use Rattle.timer_facility.specs.declared.request.CloseFault.TheVariants as CloseFaults
use Rattle.timer_facility.specs.declared.event.Out.TheVariants as Outs
use Rattle.timer_facility.specs.State.{FacilityState, with_room_made, count_of, After, At, ByHandle, ModelRequest, Start, Stop, Restart, SingleEvent, Asked}
use Rattle.timer_facility.specs.Verdict.{not_taken, refusal}
use Rattle.timer_facility.specs.Step.{StepResult, timer_stopped, timer_started, answer_to, due_at_start, after_request, step}
use Rattle.timer_facility.specs.Run.{notices_in}

pub record FacilityView : Type 0 where
  pub state : FacilityState
  -- the first is handed out next
  pub waiting : List Notice

-- the view after a step: its notices wait
abbrev pub view_after : StepResult → FacilityView
view_after st = record { state = st.state; waiting = notices_in st.outs }

-- a state in which no notice waits
abbrev pub with_nothing_waiting : FacilityState → FacilityView
with_nothing_waiting s = record { state = s; waiting = [] }

-- a state in which these timers wait to be handed out, since they are due
abbrev pub with_expiries : List Timer → FacilityState → FacilityView
with_expiries due s = record { state = s; waiting = map (λ t. Expired t) due }

-- the same view, and room was made
abbrev pub view_with_room_made : FacilityView → FacilityView
view_with_room_made v = record v { state = with_room_made v.state }

-- a request as the model has it
abbrev pub model_of : Request → ModelRequest
model_of (Requests.Start interval action) = Start (After interval) action
model_of (Requests.StartAt deadline action) = Start (At deadline) action
model_of (Requests.Stop handle) = Stop (ByHandle handle)
model_of (Requests.Restart handle interval action) = Restart (ByHandle handle) (After interval) action
model_of (Requests.RestartAt handle deadline action) = Restart (ByHandle handle) (At deadline) action

-- a client's request under a number
abbrev pub event_of_request : ℕ → ℕ → Request → SingleEvent
event_of_request client number request = Asked client number (model_of request)

-- the place in an answer
abbrev pub place_in : Answer → ℕ
place_in (Started handle deadline) = handle.place
place_in (Stopped serial) = 0
place_in (Restarted handle deadline old) = handle.place
place_in (Refused reason) = 0

-- whether a request is for a tick, which may have passed
abbrev pub is_for_a_tick : Request → Bool
is_for_a_tick (Requests.StartAt deadline action) = true
is_for_a_tick (Requests.RestartAt handle deadline action) = true
is_for_a_tick _ = false

-- the notices as outs
abbrev pub notice_outs : List Notice → List Out
notice_outs notices = map (λ (notice : Notice). Outs.Notice notice) notices

-- the request is taken, with this answer and this view after it: its outs are the answer, and what waits then
pub record IsTaken (s : FacilityState) (client number : ℕ) (request : Request) (answer : Answer)
    (new : FacilityView) : Type 0 where
  pub answered : (step s (event_of_request client number request) (place_in answer)).outs
      ≡ Outs.Answered client number answer ∷ notice_outs new.waiting
  pub left : new ≡ view_after (step s (event_of_request client number request) (place_in answer))

-- the request is a start
abbrev pub IsStart : ModelRequest → Type 0
IsStart (Start deadline action) = Unit {0}
IsStart _ = ⊥

-- the request would be taken, and is a start that would be accepted
abbrev pub NeedsMemory : FacilityState → ℕ → ℕ → Request → Type 0
NeedsMemory s client number request =
    (not_taken s client number ≡ None) × (refusal s client (model_of request) ≡ None) × IsStart (model_of request)

-- the request would be taken, and it is a start or a restart that would be accepted: it makes a timer
abbrev pub MakesTimer : FacilityState → ℕ → ℕ → ModelRequest → Type 0
MakesTimer s client number request =
    (not_taken s client number ≡ None) × (refusal s client request ≡ None)
    × (is_some (timer_started s client number request) ≡ true)

-- why a request is not taken: for the reason of the verdict; or it allocates without room, and the allocation failed
abbrev pub WhyNotTaken : FacilityState → ℕ → ℕ → Request → NotTaken → Type 0
WhyNotTaken s client number request reason =
    (not_taken s client number ≡ Some reason) ⊎ ((reason ≡ NotTakens.OutOfMemory)
    × NeedsMemory s client number request × (s.has_room ≡ false))

-- the request is not taken, for this reason, and nothing changes
pub record IsNotTaken (old : FacilityView) (client number : ℕ) (request : Request) (reason : NotTaken)
    (new : FacilityView) : Type 0 where
  pub why : WhyNotTaken old.state client number request reason
  pub left : new ≡ old

-- a request that is taken, by why it is refused: its answer and the view after it, but for its number
abbrev pub IsAnswered : Option Reason → Option Timer → Option Timer → FacilityState → Answer → FacilityView → Type 0
IsAnswered (Some reason) old new s answer v = (answer ≡ Refused reason) × (v ≡ with_nothing_waiting s)
IsAnswered None old new s answer v =
    (answer ≡ answer_to old new (place_in answer))
    × (v ≡ with_expiries (due_at_start s new) (after_request old new (place_in answer) s))

-- the same of a request of the model
abbrev pub HasAnswered : FacilityState → ℕ → ℕ → ModelRequest → Answer → FacilityView → Type 0
HasAnswered s client number request answer v =
    IsAnswered (refusal s client request) (timer_stopped s client request) (timer_started s client number request) s
    answer v

-- a close for which memory ran out was made of a facility without room
abbrev pub NoRoomToClose : FacilityState → CloseFault → Type 0
NoRoomToClose s CloseFaults.OutOfMemory = s.has_room ≡ false
NoRoomToClose s CloseFaults.Closed = Unit {0}

-- the fields of a facility, as their values
pub record Fields : Type 0 where
  pub wheel : WheelState
  pub clients : ℕ
  pub capacity : ℕ
  pub next_serial : ℕ
  -- the next request numbers, of which the first `clients` count
  pub numbers : List ℕ
  -- how many timers each client has
  pub counts : List ℕ
  pub is_closed : Bool
  pub has_room : Bool
  -- the timers that a close returns, how many of them were handed out, and for how many there is room
  pub returned : List Timer
  pub handed : ℕ
  pub list_room : ℕ

-- the view of these fields
abbrev pub view_of : Fields → FacilityView
view_of p = record {
  state = record {
    capacity = p.capacity;
    last = p.wheel.last_tick;
    layout = p.wheel.layout;
    now = p.wheel.now;
    next_serial = p.next_serial;
    pending = p.wheel.pending;
    numbers = take p.clients p.numbers;
    is_closed = p.is_closed;
    has_room = p.has_room;
  };
  waiting = map (λ t. Expired t) (timers_of p.wheel.due) ++ map (λ t. Returned t) (drop p.handed p.returned);
}

-- the timers that a facility keeps: those that are pending, and those that wait to be handed out, of its wheel
-- and of what a close returned
abbrev pub kept_in : WheelState → List Timer → List Timer
kept_in wheel returned = timers_of wheel.pending ++ (timers_of wheel.due ++ returned)

-- the counts are those of these timers, all of clients below `clients`
pub record AreCounted (clients : ℕ) (counts : List ℕ) (ts : List Timer) : Type 0 where
  pub all_counts : length counts ≡ MAX_CLIENTS
  pub each : (client : ℕ) → slice_index counts client ≡ count_of client ts
  pub no_others : (client : ℕ) → clients ≤ client → slice_index counts client ≡ 0

-- the numbers that `open` sets for good
pub record AreWithinLimits (clients capacity : ℕ) : Type 0 where
  pub few_clients : clients ≤ MAX_CLIENTS
  pub capacity_in_range : capacity ≤ MAX_PENDING

-- the next request numbers, which `take` alone changes
pub record AreNumbers (numbers : List ℕ) : Type 0 where
  pub all_numbers : length numbers ≡ MAX_CLIENTS
  pub numbers_in_range : AllByRecursion (λ n. n ≤ LAST + 1) numbers

-- the timers of the wheel and those that a close returned, and how many there are of each client
pub record AreTimers (clients capacity next_serial : ℕ) (wheel : WheelState) (counts : List ℕ) (returned : List Timer)
    : Type 0 where
  pub few_pending : length wheel.pending ≤ capacity
  pub serial_unused : wheel.last_serial < next_serial
  pub serial_in_range : next_serial ≤ LAST + 1
  pub counted : AreCounted clients counts (kept_in wheel returned)

-- the invariant of the fields
pub record IsFacility (p : Fields) : Type 0 where
  pub limits : AreWithinLimits p.clients p.capacity
  pub numbered : AreNumbers p.numbers
  pub timers : AreTimers p.clients p.capacity p.next_serial p.wheel p.counts (drop p.handed p.returned)
  pub handed_in_range : p.handed ≤ length p.returned
  pub roomy : p.has_room ≡ true → (p.capacity ≤ p.wheel.room) × (p.capacity ≤ p.list_room)

-- the invariant of a facility over a wheel that keeps such timers: its fields are sound, and the wheel keeps every timer
pub record IsFacilityOver (keeps : Timer → Type 0) (p : Fields) : Type 0 where
  pub fields : IsFacility p
  pub keeps_all : (timer : Timer) → keeps timer
