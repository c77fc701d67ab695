-- One member of a report, and the desk before and after it. A report is a chain of them.
use Rattle.std.specs.Prelude.{◌≡◌, ◌≢◌, ℕ, ◌+◌, ◌<◌, ◌≤◌, ◌++◌, Bool, true, false, List, [], ◌∷◌, length, get_or, Option, None, Ok, Err}
use Rattle.timer_facility.specs.declared.request.CloseFault.TheVariants.{OutOfMemory}
use Rattle.timer_desk.specs.Types.{Notice, Out, Numbered, Served, Done}
use Rattle.timer_facility.specs.State.{FacilityState, pending_of}
use Rattle.timer_facility.specs.Run.{run}
use Rattle.timer_facility.specs.Facility.{FacilityView, view_after, notice_outs, is_for_a_tick}
use Rattle.timer_facility.specs.Ticked.{ticks, AreTicked}
use Rattle.timer_desk.specs.declared.report.Served.TheVariants.{Idle, NoRoom, NoMemory, Did}
use Rattle.timer_desk.specs.declared.report.Done.TheVariants as Dones
use Rattle.timer_desk.specs.Inlet.{LineKind}
use Rattle.timer_desk.specs.Extends.{Extends}
use Rattle.timer_desk.specs.Backlog.{BacklogState, HasRoomForNotices}
use Rattle.timer_desk.specs.Forward.{IsNotOutOfMemory, CarriesAction, RanOutOfMemory}
use Rattle.timer_desk.specs.Report.{Account, account_of, HeldIsLast, requests_left, held_list, IsAccount, asked_in, words_in, flushed_in, events_in, outs_in}

-- a desk between two members: of its facility, whose notices may wait to be handed out; its lines and backlogs
pub record Moment (I : Type 0) : Type 0 where
  pub facility : FacilityView
  pub inlets : List I
  pub backlogs : List BacklogState

-- A member and one client.

-- which results a serve may have (its word is never a refusal for memory), by the room, the length of the
-- outbox, how many requests are known to be left, and how many timers are pending
abbrev pub ServeRespectsRoom : ℕ → ℕ → ℕ → ℕ → Served → Type 0
ServeRespectsRoom room len left pending NoRoom = room < len + pending + 2
ServeRespectsRoom room len left pending Idle = (len + pending + 2 ≤ room) × (left ≡ 0)
ServeRespectsRoom room len left pending NoMemory = len + pending + 2 ≤ room
ServeRespectsRoom room len left pending (Did numbered word) = (len + pending + 2 ≤ room) × IsNotOutOfMemory word

-- What is held before and after a serve of client c with this result, at a facility in the state s. Without
-- room nothing is tried. `Idle` finds nothing held. What was done is the held request, if one was held. A
-- serve that ran out of memory keeps what was held; the request held after it needs memory, or none is and
-- the line ran out.
abbrev pub HoldsAfterServe : Bool → ℕ → FacilityState → Option Numbered → Served → Option Numbered → Type 0
HoldsAfterServe may_refuse c s before Idle after = (before ≡ None) × (after ≡ None)
HoldsAfterServe may_refuse c s before NoRoom after = after ≡ before
HoldsAfterServe may_refuse c s before NoMemory after =
    Extends (held_list before) (held_list after) × RanOutOfMemory may_refuse c s after
HoldsAfterServe may_refuse c s before (Did numbered word) after =
    Extends (held_list before) (numbered ∷ []) × (after ≡ None)

-- a serve of client c, whose account was a and is b
pub record IsServe (may_refuse : Bool) (c : ℕ) (s : FacilityState) (a : Account) (served : Served)
    (b : Account) : Type 0 where
  pub room : ServeRespectsRoom a.backlog.room (length a.backlog.outbox) (requests_left a) (pending_of s c) served
  pub holds : HoldsAfterServe may_refuse c s a.backlog.held served b.backlog.held

-- no request was taken or tried
pub record KeepsRequests (a b : Account) : Type 0 where
  pub same_got : b.got ≡ a.got
  pub same_standing : b.standing ≡ a.standing
  pub same_held : b.backlog.held ≡ a.backlog.held

-- what a member says of client c, whose account was a and is b; the facility's state was s
pub record ClientMember (may_refuse : Bool) (c : ℕ) (s : FacilityState) (a : Account) (done : Done)
    (b : Account) : Type 0 where
  pub account : IsAccount (asked_in c done) (words_in c done) (flushed_in c done) a b
  pub serve : (served : Served) → done ≡ Dones.Served c served → IsServe may_refuse c s a served b
  pub no_serve : ((served : Served) → done ≢ Dones.Served c served) → KeepsRequests a b

-- A member and the facility.

-- the notices that wait, as outs
abbrev pub waiting_outs : FacilityView → List Out
waiting_outs f = notice_outs f.waiting

-- whether a member is a notice
abbrev pub is_notice : Done → Bool
is_notice (Dones.Noticed notice) = true
is_notice done = false

-- whether a notice may wait after a serve: only if it did a request for a tick, which may have passed
abbrev pub serve_hands_out : Served → Bool
serve_hands_out (Did numbered word) = is_for_a_tick numbered.request
serve_hands_out served = false

-- whether notices may wait after a member
abbrev pub hands_out : Done → Bool
hands_out (Dones.Served client served) = serve_hands_out served
hands_out (Dones.Flushed client count) = false
hands_out done = true

-- whether any notice waits
abbrev pub is_any : List Notice → Bool
is_any [] = false
is_any (notice ∷ notices) = true

-- The word for a request has its action. A close runs out of memory only at an open facility in which no room was made.
-- Many ticks at once are accepted one by one; only the last hands out anything, and fewer than were asked for are
-- passed only if it does or the clock is at its end.
abbrev pub IsRight : FacilityState → Done → Type 0
IsRight s (Dones.Served client (Did numbered word)) = CarriesAction numbered.request word
IsRight s (Dones.Closed (Err OutOfMemory)) = (s.is_closed ≡ false) × (s.has_room ≡ false)
IsRight s (Dones.Passed limit (Ok passed)) = AreTicked limit passed s (view_after (run s (ticks passed)))
IsRight s done = Unit {0}

-- What a member says of the facility. It makes a run over the member's events: what waited and their outs are the
-- outs of the member and what waits then. The member is a notice exactly while any waits.
pub record FacilityMember (done : Done) (f g : FacilityView) : Type 0 where
  pub outs_are : waiting_outs f ++ (run f.state (events_in done)).outs ≡ outs_in done ++ waiting_outs g
  pub state_is : g.state ≡ (run f.state (events_in done)).state
  pub in_turn : is_notice done ≡ is_any f.waiting
  pub none_left : hands_out done ≡ false → g.waiting ≡ []
  pub right : IsRight f.state done

module _ {I : Type 0} (kind : LineKind I) where
  -- the account of client c at a moment; i and b are the defaults if there is no such client
  abbrev pub account_then : Moment I → ℕ → I → BacklogState → Account
  account_then m c i b = account_of kind (get_or m.inlets c i) (get_or m.backlogs c b)

  -- what holds at every moment: each outbox has room for a notice of each of its client's pending timers and
  -- for those that wait, and a held request is the last that was got
  pub record IsKept (m : Moment I) : Type 0 where
    pub as_many : length m.backlogs ≡ length m.inlets
    pub room : HasRoomForNotices m.backlogs m.facility
    pub held : (c : ℕ) (i : I) (b : BacklogState) → c < length m.inlets → HeldIsLast (account_then m c i b)

  -- one member, and the desk before and after it
  pub record Member (m : Moment I) (done : Done) (n : Moment I) : Type 0 where
    pub same_clients : length n.inlets ≡ length m.inlets
    pub lines : (c : ℕ) (i : I) → c < length m.inlets → kind.same (get_or m.inlets c i) (get_or n.inlets c i)
    pub facility : FacilityMember done m.facility n.facility
    pub clients : (c : ℕ) (i : I) (b : BacklogState) → c < length m.inlets
        → ClientMember kind.take_may_refuse c m.facility.state (account_then m c i b) done (account_then n c i b)

  -- the members of a report, one after another
  abbrev pub Members : Moment I → List Done → Moment I → Type 0
  Members m [] n = (n ≡ m) × IsKept m
  Members m (done ∷ later) n =
      (between : Moment I) × IsKept m × Member m done between × Members between later n
