-- The abstract state of a desk, and the desk before and after a report.
use Rattle.std.specs.Prelude.{◌≡◌, if◌then◌else◌, ℕ, ◌++◌, ◌<◌, Bool, true, false, List, [], ◌∷◌, length, map, get_or, replicate, None, Ok, ◌≤◌, ◌⊎◌}
use Rattle.timer_desk.specs.Types.{Notice, Served, Done, Step}
use Rattle.timer_facility.specs.State.{FacilityState, Tick, Close}
use Rattle.timer_facility.specs.Facility.{FacilityView, with_nothing_waiting}
use Rattle.timer_facility.specs.Step.{step}
use Rattle.timer_facility.specs.Run.{run, notices_in, notices, history}
use Rattle.timer_facility.specs.Ticked.{ticks}
use Rattle.timer_facility.specs.Owed.{owed}
use Rattle.timer_desk.specs.declared.report.Served.TheVariants.{Idle, NoRoom}
use Rattle.timer_desk.specs.declared.report.Done.TheVariants as Dones
use Rattle.timer_desk.specs.declared.report.Step.TheVariants as Steps
use Rattle.timer_desk.specs.Inlet.{LineKind}
use Rattle.timer_desk.specs.Backlog.{BacklogState, empty_backlog}
use Rattle.timer_desk.specs.Report.{Account, account_of, served_events, steps_of, events, outs}
use Rattle.timer_desk.specs.Member.{Moment, Members, IsKept, is_notice, hands_out}
use Rattle.timer_desk.specs.declared.constructor.OpenFault.{OpenFault}
use Rattle.timer_desk.specs.declared.constructor.OpenFault.TheVariants.{Room, OutOfMemory}
use Rattle.timer_desk.specs.declared.constructor.TheConstants.{MIN_ROOM, MAX_ROOM}

-- the facility, in which nothing waits; and for each client its line and its backlog
pub record DeskState (I : Type 0) : Type 0 where
  pub facility : FacilityState
  pub inlets : List I
  pub backlogs : List BacklogState

-- a new desk, with empty backlogs
abbrev pub opened_desk : {I : Type 0} → FacilityState → List I → ℕ → DeskState I
opened_desk s inlets room = record {
  facility = s;
  inlets = inlets;
  backlogs = replicate (length inlets) (empty_backlog room);
}

-- why no desk was opened: the facility and the lines are handed back unchanged; `Room` exactly if the room is out of range
abbrev pub ReturnsArguments : {W I : Type 0} → ℕ → FacilityView → List I → OpenFault W I → Type 0
ReturnsArguments room facility inlets (Room f is) = (f ≡ facility) × (is.items ≡ inlets)
    × ((room < MIN_ROOM) ⊎ (MAX_ROOM < room))
ReturnsArguments room facility inlets (OutOfMemory f is) = (f ≡ facility) × (is.items ≡ inlets)
    × ((MIN_ROOM ≤ room) × (room ≤ MAX_ROOM))

-- how many clients there are
abbrev pub clients_of : {I : Type 0} → DeskState I → ℕ
clients_of d = length d.inlets

-- the backlog of a client
abbrev pub backlog_at : {I : Type 0} → DeskState I → ℕ → BacklogState
backlog_at d c = get_or d.backlogs c (empty_backlog 0)

-- the client's outbox is empty, and no request of it is held
pub record IsIdle (b : BacklogState) : Type 0 where
  pub outbox_empty : b.outbox ≡ []
  pub none_held : b.held ≡ None

-- so for every client
abbrev pub AllIdle : {I : Type 0} → DeskState I → Type 0
AllIdle d = (c : ℕ) → c < clients_of d → IsIdle (backlog_at d c)

-- each notice comes after a tick, a close or a request for a tick, with only notices in between; `allowed` says whether
-- the first member may be one
abbrev pub NoticesFollow : Bool → List Done → Type 0
NoticesFollow allowed [] = Unit {0}
NoticesFollow allowed (done ∷ report) = (is_notice done ≡ true → allowed ≡ true)
    × NoticesFollow (if is_notice done then allowed else hands_out done) report

-- the notices in a report are what is owed for its events
abbrev pub IsOwed : FacilityState → List Done → Type 0
IsOwed s report = notices_in (outs report) ≡ owed s (history s (events report))

-- so before each member of a report that is not a notice, and at its end
pub record AreOwed (s : FacilityState) (report : List Done) : Type 0 where
  pub before : (past : List Done) (done : Done) (later : List Done) → report ≡ past ++ done ∷ later
      → is_notice done ≡ false → IsOwed s past
  pub at_end : IsOwed s report

-- the step's client is one of these, and of many ticks it asks for one at least
abbrev pub InRange : ℕ → Step → Type 0
InRange clients (Steps.Serve c) = c < clients
InRange clients (Steps.Ticks limit) = 0 < limit
InRange clients (Steps.Flush c) = c < clients
InRange clients step = Unit {0}

-- the notices of a request, of a tick, of many ticks at once, or of a close; none if it was refused
abbrev pub notices_of : FacilityState → Done → List Notice
notices_of s (Dones.Served client served) = notices_in (run s (served_events client served)).outs
notices_of s (Dones.Ticked result) = notices_in (step s Tick 0).outs
notices_of s (Dones.Passed limit (Ok passed)) = notices (history s (ticks passed))
notices_of s (Dones.Closed (Ok count)) = notices_in (step s Close 0).outs
notices_of s done = []

-- such a member and its notices, as members of a report
abbrev pub event_report : FacilityState → Done → List Done
event_report s first = first ∷ map Dones.Noticed (notices_of s first)

-- the desk between two steps, when no notice waits
abbrev pub at_rest : {I : Type 0} → DeskState I → Moment I
at_rest d = record { facility = with_nothing_waiting d.facility; inlets = d.inlets; backlogs = d.backlogs }

module _ {I : Type 0} (kind : LineKind I) where
  -- the account of client c; i and b are the defaults if there is no such client
  abbrev pub account_at : DeskState I → ℕ → I → BacklogState → Account
  account_at d c i b = account_of kind (get_or d.inlets c i) (get_or d.backlogs c b)

  -- the invariant of a desk: of the facility with its waiting notices, the lines, and the backlogs
  pub record IsDesk (f : FacilityView) (inlets : List I) (backlogs : List BacklogState) : Type 0 where
    pub nothing_waits : f.waiting ≡ []
    pub clients : length inlets ≡ length f.state.numbers
    pub kept : IsKept kind (record { facility = f; inlets = inlets; backlogs = backlogs })

  -- the desk before and after the report: a chain of its members, over the same clients and lines
  pub record ReportHolds (report : List Done) (old new : DeskState I) : Type 0 where
    pub members : Members kind (at_rest old) report (at_rest new)
    pub same_clients : clients_of new ≡ clients_of old
    pub lines : (c : ℕ) (i : I) → c < clients_of old → kind.same (get_or old.inlets c i) (get_or new.inlets c i)

  -- the report of these steps, and the desk before and after it
  pub record IsReport (steps : List Step) (report : List Done) (old new : DeskState I) : Type 0 where
    pub holds : ReportHolds report old new
    pub steps_are : steps_of report ≡ steps
    pub owed : AreOwed old.facility report

  -- a step, and what it appends to the report
  pub record AddsStep (taken : Step) (before after : List Done) (old new : DeskState I) : Type 0 where
    pub more : List Done
    pub added : after ≡ before ++ more
    pub step : steps_of more ≡ taken ∷ []
    pub holds : ReportHolds more old new

  -- nothing was taken from a line, and facility and outboxes are unchanged; more may be known of a line
  pub record TakesNothing (old new : DeskState I) : Type 0 where
    pub same_facility : new.facility ≡ old.facility
    pub same_backlogs : new.backlogs ≡ old.backlogs
    pub same_got : (c : ℕ) (i : I) → (kind.state (get_or new.inlets c i)).got
        ≡ (kind.state (get_or old.inlets c i)).got

  -- what a serve leaves as it was if it takes no request
  abbrev pub LeavesAlone : Served → DeskState I → DeskState I → Type 0
  LeavesAlone NoRoom old new = new ≡ old
  LeavesAlone Idle old new = TakesNothing old new
  LeavesAlone served old new = Unit {0}
