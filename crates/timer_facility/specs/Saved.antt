-- The state of a facility as the lines of a dump, and what was read of such lines so far.
use Rattle.std.specs.Prelude.{◌≡◌, ◌<◌, ◌≤◌, ℕ, ◌+◌, Bool, false, true, ◌||◌, not, ◌==◌, nat_lt, nat_le, if◌then◌else◌, List, [], ◌∷◌, ◌++◌, Option, Some, None, length, map}
use Rattle.std.specs.List.{AllByRecursion}
use Rattle.timer_base.specs.Order.{in_order, AreRising, AreBelow}
use Rattle.timer_base.specs.Pending.{timers_of}
use Rattle.timer_facility.specs.Types.{LAST, Timer, Limits, Stage, StateFault, StateLine}
use Rattle.timer_facility.specs.declared.saved.Stage.TheVariants.{Begin, Body, Whole}
use Rattle.timer_facility.specs.declared.saved.StateFault.TheVariants as Faults
use Rattle.timer_facility.specs.declared.saved.StateLine.TheVariants as Lines
use Rattle.timer_facility.specs.State.{FacilityState}

-- what a later answer depends on, but for the capacity and the last tick; the timers are by serial
pub record Saved : Type 0 where
  pub now : ℕ
  pub next_serial : ℕ
  pub is_closed : Bool
  -- the next request number of each client
  pub numbers : List ℕ
  pub timers : List Timer

-- the timer as if its deadline were tick 0
abbrev pub undated : Timer → Timer
undated t = record t { deadline = 0 }

-- the timers by serial: in the order in which they would come out if all had one deadline
abbrev pub by_serial : List Timer → List Timer
by_serial ts = in_order undated ts

abbrev pub saved_of : FacilityState → Saved
saved_of s = record {
  now = s.now;
  next_serial = s.next_serial;
  is_closed = s.is_closed;
  numbers = s.numbers;
  timers = by_serial (timers_of s.pending);
}

abbrev pub head_line : Saved → StateLine
head_line v = if v.is_closed then Lines.Closed v.now v.next_serial else Lines.Open v.now v.next_serial

-- a line for each of these numbers, which are those of the clients from this one on
abbrev pub number_lines : ℕ → List ℕ → List StateLine
number_lines client [] = []
number_lines client (next ∷ later) = Lines.Number client next ∷ number_lines (client + 1) later

abbrev pub timer_lines : List Timer → List StateLine
timer_lines ts = map (λ t. Lines.Pending t) ts

-- the lines but the last
abbrev pub body_lines : Saved → List StateLine
body_lines v = head_line v ∷ (number_lines 0 v.numbers ++ timer_lines v.timers)

-- the lines of a dump
abbrev pub state_lines : Saved → List StateLine
state_lines v = body_lines v ++ Lines.End (length v.timers) ∷ []

-- ---- what was read of such lines

-- what the lines so far say, for a facility within these limits
pub record ReadState : Type 0 where
  pub limits : Limits
  pub stage : Stage
  pub saved : Saved
  -- the serial of the last timer, 0 if there is none
  pub last_serial : ℕ

-- the lines so far
abbrev pub lines_at : Stage → Saved → List StateLine
lines_at Begin v = []
lines_at Body v = body_lines v
lines_at Whole v = state_lines v

abbrev pub lines_read : ReadState → List StateLine
lines_read r = lines_at r.stage r.saved

-- nothing was read
abbrev pub nothing_read : Limits → ReadState
nothing_read limits = record {
  limits = limits;
  stage = Begin;
  saved = record { now = 0; next_serial = 1; is_closed = false; numbers = []; timers = [] };
  last_serial = 0;
}

abbrev pub is_beginning : Stage → Bool
is_beginning Begin = true
is_beginning _ = false

abbrev pub is_body : Stage → Bool
is_body Body = true
is_body _ = false

-- a first line with this tick and this serial is no next line: the first reason that holds
unfoldable pub head_fault : ReadState → ℕ → ℕ → Option StateFault
head_fault r now next_serial =
    if not (is_beginning r.stage) then Some Faults.Place
    else if nat_lt r.limits.last_tick now then Some Faults.LastTick
    else if next_serial == 0 || nat_lt (LAST + 1) next_serial then Some Faults.NextSerial
    else None

-- the same of a client's number
unfoldable pub number_fault : ReadState → ℕ → ℕ → Option StateFault
number_fault r client next =
    if not (is_body r.stage) || nat_lt 0 (length r.saved.timers) then Some Faults.Place
    else if not (client == length r.saved.numbers) then Some Faults.Client
    else if nat_le r.limits.clients client then Some Faults.Clients
    else if next == 0 || nat_lt (LAST + 1) next then Some Faults.Number
    else None

-- of a timer
unfoldable pub timer_fault : ReadState → Timer → Option StateFault
timer_fault r t =
    if not (is_body r.stage) || r.saved.is_closed then Some Faults.Place
    else if nat_le t.serial r.last_serial || nat_le r.saved.next_serial t.serial then Some Faults.Serial
    else if nat_le (length r.saved.numbers) t.client then Some Faults.Owner
    else if nat_le t.deadline r.saved.now then Some Faults.Deadline
    else if nat_lt r.limits.last_tick t.deadline then Some Faults.LastTick
    else if nat_le r.limits.capacity (length r.saved.timers) then Some Faults.Capacity
    else None

-- and of a last line
unfoldable pub end_fault : ReadState → ℕ → Option StateFault
end_fault r pending =
    if not (is_body r.stage) then Some Faults.Place
    else if not (pending == length r.saved.timers) then Some Faults.Count
    else None

-- why the line is not the next one, if it is not
abbrev pub line_fault : ReadState → StateLine → Option StateFault
line_fault r (Lines.Open now next_serial) = head_fault r now next_serial
line_fault r (Lines.Closed now next_serial) = head_fault r now next_serial
line_fault r (Lines.Number client next) = number_fault r client next
line_fault r (Lines.Pending t) = timer_fault r t
line_fault r (Lines.End pending) = end_fault r pending

-- the serial of the last timer, or this one if there is none
abbrev pub serial_of_last : ℕ → List Timer → ℕ
serial_of_last serial [] = serial
serial_of_last serial (t ∷ ts) = serial_of_last t.serial ts

-- a timer that was read: it is later than now, on the clock, and of one of the clients
pub record IsRead (now last clients : ℕ) (t : Timer) : Type 0 where
  pub later : now < t.deadline
  pub in_time : t.deadline ≤ last
  pub owned : t.client < clients

-- the invariant of what was read
pub record IsReadState (r : ReadState) : Type 0 where
  pub few_clients : length r.saved.numbers ≤ r.limits.clients
  pub few_timers : length r.saved.timers ≤ r.limits.capacity
  pub now_in_range : r.saved.now ≤ r.limits.last_tick
  pub serial_some : 1 ≤ r.saved.next_serial
  pub serial_in_range : r.saved.next_serial ≤ LAST + 1
  pub numbers_in_range : AllByRecursion (λ n. n ≤ LAST + 1) r.saved.numbers
  pub numbers_some : AllByRecursion (λ n. 1 ≤ n) r.saved.numbers
  pub rising : AreRising 0 r.saved.timers
  pub last_is : r.last_serial ≡ serial_of_last 0 r.saved.timers
  pub up_to_last : AreBelow (r.last_serial + 1) r.saved.timers
  pub below : AreBelow r.saved.next_serial r.saved.timers
  pub each : AllByRecursion (IsRead r.saved.now r.limits.last_tick (length r.saved.numbers)) r.saved.timers
  pub none_first : r.stage ≡ Begin → (r.saved.numbers ≡ []) × (r.saved.timers ≡ [])
  pub none_if_closed : r.saved.is_closed ≡ true → r.saved.timers ≡ []
