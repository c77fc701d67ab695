-- The end of the words of one client at the owner's desk, and of every client.
use Rattle.std.specs.Prelude.{ℕ, ◌≡◌, ◌≢◌, ◌<◌, ◌⊎◌, ◌++◌, Bool, true, List, length, get_or, Some, ◌+◌, ◌==◌, [], ◌∷◌, if◌then◌else◌, Option, None}
use Rattle.timer_facility.specs.State.{pending_of}
use Rattle.timer_desk.specs.declared.word.Numbered.{Numbered}
use Rattle.timer_desk_c.specs.Types.{RingInlet, Line, CLine}
use Rattle.timer_desk.specs.declared.looks.Found.TheVariants.{Nothing}
use Rattle.timer_desk.specs.Desk.{clients_of, backlog_at, IsIdle}
use Rattle.timer_desk.specs.RingEnds.{line_of_inlet, got_of, given_of, found_by_inlet}
use Rattle.timer_desk.specs.WindingUp.{IsWaiting}
use Rattle.timer_desk_c.specs.declared.status.TheConstants.{LEFT, OK, OUT_OF_RANGE, NOT_FREED}
use Rattle.timer_desk_c.specs.DeskSlots.{RingDesk}
use Rattle.timer_desk_c.specs.Lines.{requests_ring_on, words_ring_on, submitted_on, received_on, unread_on, is_ended_line}
use Rattle.timer_desk_c.specs.Desks.{IsGivenAs, WhyNotSettled, IsAsBefore}
use Rattle.timer_desk.specs.Settlement.{HasLooked}
use Rattle.timer_desk_c.specs.declared.ending.Unended.{Unended}
use Rattle.timer_desk_c.specs.Frames.{HasLine, HasNoLine, with_line, is_own}

-- nothing of the client is left at the desk: all that it submitted was got, and no timer of it is pending
pub record IsGone (client : ℕ) (d : RingDesk) (submitted : List Numbered) : Type 0 where
  pub idle : IsIdle (backlog_at d client)
  pub none_pending : pending_of d.facility client ≡ 0
  pub all_got : (i : RingInlet) → submitted ≡ got_of (get_or d.inlets client i)

-- something is: a held request, a word in the outbox, a request in the line, or a pending timer
abbrev pub IsLeft : ℕ → RingDesk → List Numbered → Type 0
IsLeft client d submitted =
    ((i : RingInlet) → IsWaiting (backlog_at d client) (got_of (get_or d.inlets client i)) submitted)
    ⊎ (0 < pending_of d.facility client)

-- a line that is given as a client's is of that client of the desk
abbrev pub IsTied : ℕ → RingDesk → Line → Type 0
IsTied client d l = IsGivenAs client d l × ((i : RingInlet)
    → words_ring_on l ≡ Some (line_of_inlet (get_or d.inlets client i)).1)

-- of the client's line more may be known, and nothing else has changed
pub record OnlySettles (client : ℕ) (old new : RingDesk) : Type 0 where
  pub same_clients : clients_of new ≡ clients_of old
  pub same_facility : new.facility ≡ old.facility
  pub same_backlogs : new.backlogs ≡ old.backlogs
  pub others : (k : ℕ) (i : RingInlet) → k ≢ client → get_or new.inlets k i ≡ get_or old.inlets k i
  pub same_line : (i : RingInlet) → line_of_inlet (get_or new.inlets client i)
      ≡ line_of_inlet (get_or old.inlets client i)
  pub same_got : (i : RingInlet) → got_of (get_or new.inlets client i) ≡ got_of (get_or old.inlets client i)
  pub same_given : (i : RingInlet) → given_of (get_or new.inlets client i)
      ≡ given_of (get_or old.inlets client i)
  pub still_gone : (i : RingInlet) → found_by_inlet (get_or old.inlets client i) ≢ Nothing
      → found_by_inlet (get_or new.inlets client i) ≢ Nothing

-- Nothing of the client is left at the desk, and its words have ended: what it has received followed by what
-- is unread is all that it was given.
pub record HasEnded (client unread : ℕ) (d : RingDesk) (old new : Line) : Type 0 where
  pub client_in_range : client < clients_of d
  pub gone : IsGone client d (submitted_on old)
  pub ended : is_ended_line new ≡ true
  pub all : (i : RingInlet) → received_on new ++ unread_on new ≡ given_of (get_or d.inlets client i)
  pub counted : unread ≡ length (unread_on new)
  pub same_received : received_on new ≡ received_on old
  pub same_submitted : submitted_on new ≡ submitted_on old
  pub same_rings : (requests_ring_on new ≡ requests_ring_on old) × (words_ring_on new ≡ words_ring_on old)

-- why no words were ended: the first that holds. `own` says whether the line is the client's, in this life of the
-- desk's struct.
abbrev pub WhyNotEnded : ℕ → Bool → RingDesk → Line → ℕ → Type 0
WhyNotEnded client own d l status = WhyNotSettled client (clients_of d) own l status
    ⊎ ((status ≡ LEFT) × (client < clients_of d) × (own ≡ true) × IsLeft client d (submitted_on l))

-- Every client.

-- each of C's lines that is held, and has the number of its index and this life, is of that client of the desk
abbrev pub AreTied : ℕ → RingDesk → List CLine → Type 0
AreTied lives d lines = (c : ℕ) (x : CLine) → c < clients_of d → HasLine (get_or lines c x)
    → is_own c lives (get_or lines c x) ≡ true → IsTied c d (get_or lines c x).slot.state

-- nothing of C's lines but their states has changed
pub record OnlyStates (old new : List CLine) : Type 0 where
  pub as_many : length new ≡ length old
  pub only : (c : ℕ) (x : CLine) → c < length old
      → get_or new c x ≡ with_line (get_or old c x) (get_or new c x).slot.state

-- C's line is held and the client's, and its words have ended
pub record IsEndedAt (lives c : ℕ) (d : RingDesk) (old new : CLine) : Type 0 where
  pub held : HasLine old
  pub own : is_own c lives old ≡ true
  pub ended : HasEnded c (length (unread_on new.slot.state)) d old.slot.state new.slot.state

-- C's line holds none, and the client was seen to have freed its end: j is the owner's
pub record IsFreedAt (j : RingInlet) (old : CLine) : Type 0 where
  pub none_held : HasNoLine old
  pub gone : found_by_inlet j ≢ Nothing

-- this is why the words of C's line were not ended, and the line is as it was
pub record IsHeldBackAt (lives c status : ℕ) (d : RingDesk) (old new : CLine) : Type 0 where
  pub held : HasLine old
  pub why : WhyNotEnded c (is_own c lives old) d old.slot.state status
  pub as_before : IsAsBefore old.slot.state new.slot.state

-- C's line holds none, and the client was not seen to have freed its end: it is elsewhere
pub record IsElsewhereAt (status : ℕ) (j : RingInlet) (old new : CLine) : Type 0 where
  pub none_held : HasNoLine old
  pub not_freed : status ≡ NOT_FREED
  pub there : found_by_inlet j ≡ Nothing
  pub same : new ≡ old

-- client c of the desk d was tried, with this status. The owner's end of its line is i before and j after.
pub record IsTriedAt (lives c status : ℕ) (d : RingDesk) (i j : RingInlet) (old new : CLine) : Type 0 where
  -- its line was freed, so that nobody reads its words; or these have ended
  pub over : status ≡ OK → IsFreedAt j old ⊎ IsEndedAt lives c d old new
  -- or this is why its words have not ended
  pub left : 0 < status → IsHeldBackAt lives c status d old new ⊎ IsElsewhereAt status j old new
  pub same_inlet : 0 < status → status ≢ LEFT → HasLine old → j ≡ i
  pub looked : HasNoLine old → HasLooked i j
  pub still_gone : found_by_inlet i ≢ Nothing → found_by_inlet j ≢ Nothing

-- the first of these statuses, from client c on, that is not `OK`, and whose it is
abbrev pub first_left : ℕ → List ℕ → Option Unended
first_left c [] = None
first_left c (status ∷ later) =
    if status == OK then first_left (c + 1) later else Some (record { client = c; status = status })

-- the first client that was left, after this one
abbrev pub next_left : Option Unended → ℕ → ℕ → Option Unended
next_left (Some left) c status = Some left
next_left None c status = first_left c (status ∷ [])

-- there is one of C's lines for each client, and each client was tried; this one is the first that was left
pub record AllTried (lives : ℕ) (left : Option Unended) (d d' : RingDesk) (old new : List CLine) : Type 0 where
  pub as_many : length old ≡ clients_of d
  pub statuses : List ℕ
  pub one_each : length statuses ≡ clients_of d
  pub each : (c : ℕ) (i : RingInlet) (x : CLine) → c < clients_of d → IsTriedAt lives c (get_or statuses c OK) d
      (get_or d.inlets c i) (get_or d'.inlets c i) (get_or old c x) (get_or new c x)
  pub left_is : left ≡ first_left 0 statuses

-- each client was tried, with `OK`
abbrev pub AllEnded : ℕ → RingDesk → RingDesk → List CLine → List CLine → Type 0
AllEnded lives d d' old new = AllTried lives None d d' old new

-- why the words of not all clients have ended: the first that holds
abbrev pub WhyNotAllEnded : ℕ → ℕ → ℕ → RingDesk → RingDesk → List CLine → List CLine → Type 0
WhyNotAllEnded lives client status d d' old new =
    ((status ≡ OUT_OF_RANGE) × (length old ≢ clients_of d))
    ⊎ AllTried lives (Some (record { client = client; status = status })) d d' old new
