-- The verdict on an event: accepted, or the first rule that refuses it.
use Rattle.std.specs.Prelude.{ℕ, Bool, ◌-◌, ◌==◌, not, nat_lt, if◌then◌else◌, List, [], ◌∷◌, Option, Some, None, length}
use Rattle.timer_facility.specs.Types.{LAST, Timer, CloseFault, NotTaken, Reason, TickFault}
use Rattle.timer_base.specs.Pending.{Entry, has_handle, has_serial, first_timer}
use Rattle.timer_facility.specs.declared.request.NotTaken.TheVariants.{Closed, NoClient, Repeated, NumbersSpent, Ahead}
use Rattle.timer_facility.specs.declared.request.Reason.TheVariants.{ZeroInterval, TooLate, SerialsSpent, Full, NoSuch}
use Rattle.timer_facility.specs.declared.request.TickFault.TheVariants as TickFaults
use Rattle.timer_facility.specs.declared.request.CloseFault.TheVariants as CloseFaults
use Rattle.timer_facility.specs.State.{FacilityState, number_of, tested_interval, Name, ByHandle, BySerial, ModelRequest, Start, Stop, Restart, SingleEvent, Asked, Tick, Close, Dump}

-- why a request is not taken, if it is not taken: the first test that holds
unfoldable pub not_taken : FacilityState → ℕ → ℕ → Option NotTaken
not_taken s client number =
    if s.is_closed then Some Closed
    else if not (nat_lt client (length s.numbers)) then Some NoClient
    else if nat_lt number (number_of s client) then Some (Repeated (number_of s client))
    else if nat_lt LAST (number_of s client) then Some NumbersSpent
    else if nat_lt (number_of s client) number then Some (Ahead (number_of s client))
    else None

-- the timer that was found, if it is this client's
abbrev pub of_client : ℕ → Option Timer → Option Timer
of_client client None = None
of_client client (Some t) = if t.client == client then Some t else None

-- the entry has this name
abbrev pub has_name : Name → Entry → Bool
has_name (ByHandle handle) = has_handle handle
has_name (BySerial serial) = λ entry. has_serial serial entry.timer

-- the pending timer of this client that has the name
abbrev pub timer_named : FacilityState → ℕ → Name → Option Timer
timer_named s client name = of_client client (first_timer (has_name name) s.pending)

-- one refusal, and then another: the first that is one
abbrev pub first_refusal : Option Reason → Option Reason → Option Reason
first_refusal (Some reason) later = Some reason
first_refusal None later = later

-- why no timer can be started now with this interval, whether or not there is room for one: the first test
-- that holds
unfoldable pub interval_refusal : FacilityState → ℕ → Option Reason
interval_refusal s interval =
    if interval == 0 then Some ZeroInterval
    else if nat_lt (s.last - s.now) interval then Some TooLate
    else if nat_lt LAST s.next_serial then Some SerialsSpent
    else None

-- there is no room for one more timer
unfoldable pub room_refusal : FacilityState → Option Reason
room_refusal s = if length s.pending == s.capacity then Some Full else None

-- why a start with this interval is refused, if it is refused
abbrev pub start_refusal : FacilityState → ℕ → Option Reason
start_refusal s interval = first_refusal (interval_refusal s interval) (room_refusal s)

-- the name must be that of a timer
abbrev pub name_refusal : Option Timer → Option Reason
name_refusal None = Some NoSuch
name_refusal (Some t) = None

-- why a restart of the timer with this name is refused with this interval, if it is refused; it needs no room
abbrev pub restart_refusal : FacilityState → ℕ → Name → ℕ → Option Reason
restart_refusal s client name interval =
    first_refusal (name_refusal (timer_named s client name)) (interval_refusal s interval)

-- why a request that is taken is refused, if it is refused
abbrev pub refusal : FacilityState → ℕ → ModelRequest → Option Reason
refusal s client (Start deadline action) = start_refusal s (tested_interval s deadline)
refusal s client (Stop name) = name_refusal (timer_named s client name)
refusal s client (Restart name deadline action) = restart_refusal s client name (tested_interval s deadline)

-- why a tick is refused, if it is refused: the first test that holds
unfoldable pub tick_refusal : FacilityState → Option TickFault
tick_refusal s = if s.is_closed then Some TickFaults.Closed else if s.now == s.last then Some
    TickFaults.ClockEnd else None

-- how an event is refused: a request that is not taken, a request that is taken and refused, a tick, or a
-- close
pub data Refusal : Type 0 where
  RequestNotTaken : NotTaken → Refusal
  RequestRefused : Reason → Refusal
  TickRefused : TickFault → Refusal
  CloseRefused : Refusal

-- a request is refused if it is not taken, and then if it is refused for a reason
abbrev pub verdict_on_request : Option NotTaken → Option Reason → Option Refusal
verdict_on_request (Some not_taken) reason = Some (RequestNotTaken not_taken)
verdict_on_request None (Some reason) = Some (RequestRefused reason)
verdict_on_request None None = None

abbrev pub verdict_on_tick : Option TickFault → Option Refusal
verdict_on_tick (Some fault) = Some (TickRefused fault)
verdict_on_tick None = None

-- the verdict on an event: None if it is accepted, or else the first rule that refuses it
abbrev pub verdict : FacilityState → SingleEvent → Option Refusal
verdict s (Asked client number request) = verdict_on_request (not_taken s client number)
    (refusal s client request)
verdict s Tick = verdict_on_tick (tick_refusal s)
verdict s Close = if s.is_closed then Some CloseRefused else None
verdict s Dump = None

-- the refusal of a verdict, and none if the event is accepted
abbrev pub refusals_of : Option Refusal → List Refusal
refusals_of None = []
refusals_of (Some refusal) = refusal ∷ []

-- the verdict on a close that failed: one whose allocation failed would be accepted
abbrev pub verdict_on_close : CloseFault → Option Refusal
verdict_on_close CloseFaults.Closed = Some CloseRefused
verdict_on_close CloseFaults.OutOfMemory = None

-- how a closed facility refuses an event: all but a look at the state
abbrev pub closed_refusal : SingleEvent → Option Refusal
closed_refusal (Asked client number request) = Some (RequestNotTaken Closed)
closed_refusal Tick = Some (TickRefused TickFaults.Closed)
closed_refusal Close = Some CloseRefused
closed_refusal Dump = None
