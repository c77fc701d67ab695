-- The owner's desk, before and after a call.
use Rattle.std.specs.Prelude.{ℕ, ◌≡◌, ◌≢◌, ◌<◌, ◌≤◌, ◌⊎◌, Bool, true, false, List, [], length, get_or, Ok, Err, Some, None, Result, IfOk}
use Rattle.std.specs.List.{AllZip}
use Rattle.timer_base.specs.WakeUps.{IsWakeUp, next_deadline}
use Rattle.timer_wheels.specs.TieredWheel.{radices_of, is_smooth}
use Rattle.timer_wheels.specs.Tiers.{layout_of_tiers, last_of_tiers, AreTiersFor}
use Rattle.timer_wheels.specs.declared.tiers.Tiers.{Tiers}
use Rattle.timer_wheels.specs.WakeUps.{next_visit}
use Rattle.timer_facility.specs.declared.config.Config as facility
use Rattle.timer_facility.specs.declared.request.TickFault.{TickFault}
use Rattle.timer_facility.specs.declared.request.CloseFault.{CloseFault}
use Rattle.timer_facility.specs.declared.request.TickFault.TheVariants as TickFaults
use Rattle.timer_facility.specs.declared.request.CloseFault.TheVariants as CloseFaults
use Rattle.timer_facility.specs.Config.{config_fault}
use Rattle.timer_facility.specs.State.{FacilityState, opened, with_room_made}
use Rattle.timer_desk.specs.declared.constructor.TheConstants.{MIN_ROOM, MAX_ROOM}
use Rattle.timer_desk_c.specs.Types.{Served, Done, RingInlet, CLine, Line}
use Rattle.timer_desk.specs.declared.report.Served.TheVariants as Serveds
use Rattle.timer_desk.specs.declared.report.Done.TheVariants as Dones
use Rattle.timer_desk.specs.declared.looks.Found.TheVariants.{Nothing}
use Rattle.timer_desk.specs.RingEnds.{line_of_inlet, got_of, given_of, is_settled, free_of_inlet, found_by_inlet, ring_lines}
use Rattle.timer_desk.specs.Settlement.{HasSettled}
use Rattle.timer_desk.specs.Desk.{opened_desk, clients_of, ReportHolds, LeavesAlone, event_report}
use Rattle.timer_desk_c.specs.declared.layout.DeskConfig.{DeskConfig}
use Rattle.timer_desk_c.specs.declared.layout.TheConstants.{CONFIG_SIZE}
use Rattle.timer_desk_c.specs.declared.desk_maker.TheConstants.{MIN_ITEMS, MAX_ITEMS}
use Rattle.timer_desk_c.specs.declared.status.TheConstants.{OK, NO_MEMORY, IDLE, NO_ROOM, OUT_OF_RANGE, CLOSED, CLOCK_END, NO_CLIENT, NOT_FINISHED, OTHER_LINE, NEVER}
use Rattle.timer_desk_c.specs.DeskSlots.{RingDesk}
use Rattle.timer_desk_c.specs.Frames.{HasLine, HasNoLine}
use Rattle.timer_desk_c.specs.Lines.{requests_ring_on, words_ring_on, submitted_on, received_on, next_on, free_on, found_on, is_open_line, IsSameLine, SameTraffic}

-- the configuration of the facility
abbrev pub desk_config : ℕ → DeskConfig → facility.Config
desk_config clients c = record {
  clients = clients;
  capacity = c.capacity;
  first_tick = c.first_tick;
  first_serial = 1;
  first_number = 1;
}

-- each number is in its range
abbrev pub IsFit : ℕ → DeskConfig → Type 0
IsFit clients c =
    (c.size ≡ CONFIG_SIZE) × (config_fault (desk_config clients c) ≡ None)
    × ((tiers : Tiers) × AreTiersFor c.table c.first_tick tiers) × (MIN_ROOM ≤ c.room) × (c.room ≤ MAX_ROOM)
    × (MIN_ITEMS ≤ c.line) × (c.line ≤ MAX_ITEMS)

-- the two ends of a new line: nothing was sent or received, got or given, and neither end has seen the other to be
-- gone. The first request has this number, and there is room for this many items each way.
pub record IsNewLine (number room : ℕ) (i : RingInlet) (l : Line) : Type 0 where
  pub requests_ring : requests_ring_on l ≡ Some (line_of_inlet i).0
  pub words_ring : words_ring_on l ≡ Some (line_of_inlet i).1
  pub got : got_of i ≡ []
  pub given : given_of i ≡ []
  pub unsettled : is_settled i ≡ false
  pub none_found : found_by_inlet i ≡ Nothing
  pub free_words : free_of_inlet i ≡ room
  pub open_yet : is_open_line l ≡ true
  pub submitted : submitted_on l ≡ []
  pub received : received_on l ≡ []
  pub none_found_on : found_on l ≡ Nothing
  pub next : next_on l ≡ number
  pub free_requests : free_on l ≡ room

-- at each index the two ends of a new line, with room for this many items each way
abbrev pub AreNewLines : ℕ → List RingInlet → List Line → Type 0
AreNewLines room inlets ends = AllZip (IsNewLine 1 room) inlets ends

-- C's line holds this end of a client, in this life of the desk's struct
pub record HoldsLine (life client : ℕ) (end : Line) (line : CLine) : Type 0 where
  pub held : HasLine line
  pub state_is : line.slot.state ≡ end
  pub client_is : line.client ≡ client
  pub life_is : line.life ≡ life

-- each of C's lines holds the end at its index
pub record AreHeld (life : ℕ) (ends : List Line) (lines : List CLine) : Type 0 where
  pub as_many : length lines ≡ length ends
  pub each : (k : ℕ) (x : CLine) (l : Line) → k < length ends → HoldsLine life k (get_or ends k l) (get_or lines k x)

-- none of C's lines holds one
abbrev pub AllEmpty : List CLine → Type 0
AllEmpty lines = (k : ℕ) (x : CLine) → k < length lines → HasNoLine (get_or lines k x)

-- one of C's lines holds one
pub record IsOneHeld (lines : List CLine) : Type 0 where
  pub index : ℕ
  pub in_range : index < length lines
  pub held : (x : CLine) → HasLine (get_or lines index x)

-- a new desk of this configuration over these lines
pub record IsNewDesk (clients : ℕ) (c : DeskConfig) (d : RingDesk) : Type 0 where
  pub tiers : Tiers
  pub are_tiers : AreTiersFor c.table c.first_tick tiers
  pub is : d ≡ opened_desk (opened (desk_config clients c) (last_of_tiers tiers) (layout_of_tiers tiers)) d.inlets c.room
  pub as_many : clients_of d ≡ clients

-- a new desk, and its lines at C, in this life of its struct
pub record IsMade (life : ℕ) (c : DeskConfig) (d : RingDesk) (lines : List CLine) : Type 0 where
  pub desk : IsNewDesk (length lines) c d
  pub ends : List Line
  pub lines_of : AreNewLines c.line d.inlets ends
  pub held : AreHeld life ends lines

abbrev pub WhyNotMade : ℕ → DeskConfig → ℕ → Type 0
WhyNotMade clients c status = ((status ≡ OUT_OF_RANGE) × (IsFit clients c → ⊥))
    ⊎ ((status ≡ NO_MEMORY) × IsFit clients c)

-- what this report says of the desk
abbrev pub Says : List Done → RingDesk → RingDesk → Type 0
Says report old new = ReportHolds ring_lines report old new

abbrev pub status_of : Served → ℕ
status_of Serveds.Idle = IDLE
status_of Serveds.NoRoom = NO_ROOM
status_of Serveds.NoMemory = NO_MEMORY
status_of (Serveds.Did numbered word) = OK

-- the client was served once, with this status; if a timer was due with its request, the notice is in the outbox
pub record HasServed (client status : ℕ) (old new : RingDesk) : Type 0 where
  pub served : Served
  pub status_is : status ≡ status_of served
  pub says : Says (event_report old.facility (Dones.Served client served)) old new
  pub alone : LeavesAlone ring_lines served old new

abbrev pub tick_status : {X : Type 0} → Result X TickFault → ℕ
tick_status (Ok done) = OK
tick_status (Err TickFaults.Closed) = CLOSED
tick_status (Err TickFaults.ClockEnd) = CLOCK_END

-- a tick was tried, with this status, and the notices of the timers that expired are in the outboxes
pub record HasTicked (status : ℕ) (old new : RingDesk) : Type 0 where
  pub result : Result (Unit {0}) TickFault
  pub status_is : status ≡ tick_status result
  pub says : Says (event_report old.facility (Dones.Ticked result)) old new
  pub refused : 0 < status → new ≡ old

abbrev pub close_status : Result ℕ CloseFault → ℕ
close_status (Ok count) = OK
close_status (Err CloseFaults.Closed) = CLOSED
close_status (Err CloseFaults.OutOfMemory) = NO_MEMORY

-- a close was tried, with this status and this number of timers that were returned, whose notices are in the
-- outboxes
pub record HasClosed (status returned : ℕ) (old new : RingDesk) : Type 0 where
  pub result : Result ℕ CloseFault
  pub status_is : status ≡ close_status result
  pub returned_is : IfOk result (λ count. returned ≡ count)
  pub says : Says (event_report old.facility (Dones.Closed result)) old new
  pub refused : 0 < status → new ≡ old
  -- it is out of memory only if no room was made
  pub room : status ≡ NO_MEMORY → old.facility.has_room ≡ false

-- the same desk, and room was made for as many timers as may be pending
abbrev pub with_reserve : RingDesk → RingDesk
with_reserve d = record d { facility = with_room_made d.facility }

-- a tick before which nothing expires: of a smooth wheel the first at which a timer expires, or would move to a lower wheel
-- in Scheme 7
abbrev pub IsNextTick : ℕ → FacilityState → Type 0
IsNextTick tick s = ((tick ≡ NEVER) × (s.pending ≡ []))
    ⊎ (IsWakeUp tick s.now s.pending
    × (is_smooth s.layout ≡ true → next_visit (radices_of s.layout) s.now s.pending ≡ Some tick))

-- the first pending deadline
abbrev pub IsFirstDeadline : ℕ → FacilityState → Type 0
IsFirstDeadline tick s = ((tick ≡ NEVER) × (s.pending ≡ [])) ⊎ (next_deadline s.pending ≡ Some tick)

-- the line of this client, which has finished, is settled: what was got of it followed by what stands is all
-- that was ever submitted on it
pub record IsSettled (client standing : ℕ) (line : Line) (old new : RingDesk) : Type 0 where
  pub client_in_range : client < clients_of old
  pub same_clients : clients_of new ≡ clients_of old
  pub same_facility : new.facility ≡ old.facility
  pub same_backlogs : new.backlogs ≡ old.backlogs
  pub others : (k : ℕ) (i : RingInlet) → k ≢ client → get_or new.inlets k i ≡ get_or old.inlets k i
  pub settled : (i : RingInlet) → HasSettled (get_or old.inlets client i) (get_or new.inlets client i)
      (submitted_on line) standing

-- a line that is given as a client's is of that client of the desk, or its requests could not be ended
abbrev pub IsGivenAs : ℕ → RingDesk → Line → Type 0
IsGivenAs client d l = (i : RingInlet) → (requests_ring_on l ≡ None)
    ⊎ (requests_ring_on l ≡ Some (line_of_inlet (get_or d.inlets client i)).0)

-- nothing of the line but the prover's knowledge has changed
abbrev pub IsAsBefore : Line → Line → Type 0
IsAsBefore old new = IsSameLine old new × SameTraffic old new × (found_on new ≡ found_on old)

-- why no line of this client, of so many, was settled: the first that holds. `own` says whether the line is the
-- client's, in this life of the desk's struct.
abbrev pub WhyNotSettled : ℕ → ℕ → Bool → Line → ℕ → Type 0
WhyNotSettled client clients own l status =
    ((status ≡ NO_CLIENT) × (clients ≤ client))
    ⊎ ((status ≡ OTHER_LINE) × (client < clients) × (own ≡ false))
    ⊎ ((status ≡ NOT_FINISHED) × (client < clients) × (own ≡ true) × (is_open_line l ≡ true))
    ⊎ ((status ≡ OTHER_LINE) × (client < clients) × (own ≡ true) × (requests_ring_on l ≡ None))
