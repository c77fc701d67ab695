-- The abstract state of a facility, and single events.
use Rattle.std.specs.Prelude.{◌<◌, ◌≤◌, ◌==◌, ℕ, ◌+◌, ◌-◌, max, Bool, true, false, if◌then◌else◌, List, [], ◌∷◌, length, replicate, slice_index}
use Rattle.std.specs.List.{AllByRecursion}
use Rattle.timer_facility.specs.Types.{LAST, Timer, Handle, Config, MAX_CLIENTS, MAX_PENDING}
use Rattle.timer_base.specs.Layout.{Layout}
use Rattle.timer_base.specs.Order.{IsOrdered, AreDistinct, AreBelow}
use Rattle.timer_base.specs.Pending.{Entry, timers_of}

pub record FacilityState : Type 0 where
  -- the most timers that may be pending; constant
  pub capacity : ℕ
  -- the last tick of the clock; constant
  pub last : ℕ
  -- how the slots of the wheel are laid out; constant
  pub layout : Layout
  -- the present tick
  pub now : ℕ
  -- the serial of the next timer
  pub next_serial : ℕ
  -- one list, by deadline and then by serial
  pub pending : List Entry
  -- the next request number of each client; the number of clients is constant
  pub numbers : List ℕ
  pub is_closed : Bool
  -- room was made for as many timers as the capacity; no event changes it
  pub has_room : Bool

-- a newly opened facility: the state of a configuration over a clock with this last tick, and a wheel whose slots are
-- laid out like this
abbrev pub opened : Config → ℕ → Layout → FacilityState
opened config last layout = record {
  capacity = config.capacity;
  last = last;
  layout = layout;
  now = config.first_tick;
  next_serial = config.first_serial;
  pending = [];
  numbers = replicate config.clients config.first_number;
  is_closed = false;
  has_room = false;
}

-- the same state, and room was made
abbrev pub with_room_made : FacilityState → FacilityState
with_room_made s = record s { has_room = true }

-- the next request number of a client
abbrev pub number_of : FacilityState → ℕ → ℕ
number_of s client = slice_index s.numbers client

-- 1 if the timer is the client's
abbrev pub one_of : ℕ → Timer → ℕ
one_of client t = if t.client == client then 1 else 0

-- how many of the timers are a client's
abbrev pub count_of : ℕ → List Timer → ℕ
count_of client [] = 0
count_of client (t ∷ ts) = one_of client t + count_of client ts

-- how many timers of a client are pending
abbrev pub pending_of : FacilityState → ℕ → ℕ
pending_of s client = count_of client (timers_of s.pending)

-- when a timer is to expire: so many ticks from now, or at a tick
pub data Deadline : Type 0 where
  After : ℕ → Deadline
  At : ℕ → Deadline

-- how many ticks are left until a deadline: 0 if it is not after the present tick
abbrev pub ticks_until : FacilityState → Deadline → ℕ
ticks_until s (After interval) = interval
ticks_until s (At tick) = tick - s.now

-- with which interval a deadline is tested: that of the next tick, if it is not after the present one. So a deadline
-- that has passed is refused exactly as one at the next tick would be
abbrev pub tested_interval : FacilityState → Deadline → ℕ
tested_interval s (After interval) = interval
tested_interval s (At tick) = max 1 (tick - s.now)

-- how a request names a timer
pub data Name : Type 0 where
  ByHandle : Handle → Name
  BySerial : ℕ → Name

-- a request: a start with its deadline and its action; a stop of the timer with a name; or a restart of one with the
-- deadline and the action of the new timer
pub data ModelRequest : Type 0 where
  Start : Deadline → ℕ → ModelRequest
  Stop : Name → ModelRequest
  Restart : Name → Deadline → ℕ → ModelRequest

-- the action of the timer that a request starts, 0 if it starts none
abbrev pub action_of : ModelRequest → ℕ
action_of (Start deadline action) = action
action_of (Stop name) = 0
action_of (Restart name deadline action) = action

-- one event: a client's request under a number, one tick, the close, or a look at the state
pub data SingleEvent : Type 0 where
  Asked : ℕ → ℕ → ModelRequest → SingleEvent
  Tick : SingleEvent
  Close : SingleEvent
  Dump : SingleEvent

-- the invariant of a state
pub record IsSound (s : FacilityState) : Type 0 where
  pub few_clients : length s.numbers ≤ MAX_CLIENTS
  pub capacity_in_range : s.capacity ≤ MAX_PENDING
  pub last_in_range : s.last ≤ LAST
  pub now_in_range : s.now ≤ s.last
  pub serial_in_range : s.next_serial ≤ LAST + 1
  pub numbers_in_range : AllByRecursion (λ n. n ≤ LAST + 1) s.numbers
  pub few_pending : length s.pending ≤ s.capacity
  pub ordered : IsOrdered (timers_of s.pending)
  pub distinct : AreDistinct (timers_of s.pending)
  pub later : AllByRecursion (λ t. s.now < t.deadline) (timers_of s.pending)
  pub below : AreBelow s.next_serial (timers_of s.pending)
