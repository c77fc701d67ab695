-- The end of a desk over ring lines.
use Rattle.std.specs.Prelude.{◌≡◌, ◌<◌, ◌++◌, ◌⊎◌, ℕ, true, List, length, get_or}
use Rattle.timer_desk.specs.Types.{Numbered, RingInlet, RequestsEnded, ClientReader}
use Rattle.timer_desk.specs.Backlog.{BacklogState}
use Rattle.timer_desk.specs.Desk.{DeskState, clients_of, backlog_at, IsIdle}
use Rattle.timer_desk.specs.RingEnds.{line_of_inlet, got_of, given_of, requests_ring_of, words_ring_of_reader, all_submitted, read_by, unread_by, is_settled_reader, found_by_reader}

-- the ended end at each index is of the line at that index
pub record AreEndsOf (inlets : List RingInlet) (ended : List RequestsEnded) : Type 0 where
  pub as_many : length ended ≡ length inlets
  pub of_lines : (c : ℕ) (i : RingInlet) (e : RequestsEnded) → c < length inlets
      → requests_ring_of (get_or ended c e) ≡ (line_of_inlet (get_or inlets c i)).0

-- the reader at each index is of the line at that index
pub record AreReadersOf (inlets : List RingInlet) (readers : List ClientReader) : Type 0 where
  pub as_many : length readers ≡ length inlets
  pub of_lines : (c : ℕ) (i : RingInlet) (r : ClientReader) → c < length inlets
      → words_ring_of_reader (get_or readers c r) ≡ (line_of_inlet (get_or inlets c i)).1

-- all that each client submitted was got
abbrev pub AllGot : List RingInlet → List RequestsEnded → Type 0
AllGot inlets ended = (c : ℕ) (i : RingInlet) (e : RequestsEnded) → c < length inlets
    → all_submitted (get_or ended c e) ≡ got_of (get_or inlets c i)

-- the reader is of the same line, and has read and found what it had before; it is settled, so what it has read
-- followed by what stands is all that was given
pub record IsReadOut (inlet : RingInlet) (before after : ClientReader) : Type 0 where
  pub line : words_ring_of_reader after ≡ words_ring_of_reader before
  pub read : read_by after ≡ read_by before
  pub found : found_by_reader after ≡ found_by_reader before
  pub settled : is_settled_reader after ≡ true
  pub all : read_by after ++ unread_by after ≡ given_of inlet

-- each reader is settled, so it can be read to its end
abbrev pub AllReadOut : List RingInlet → List ClientReader → List ClientReader → Type 0
AllReadOut inlets before after = (c : ℕ) (i : RingInlet) (r : ClientReader) → c < length inlets
    → IsReadOut (get_or inlets c i) (get_or before c r) (get_or after c r)

-- the lines, what was got and given, the facility and the outboxes are the same; what is known of a line may change
pub record KeepsLines (old new : DeskState RingInlet) : Type 0 where
  pub same_clients : clients_of new ≡ clients_of old
  pub same_facility : new.facility ≡ old.facility
  pub same_backlogs : new.backlogs ≡ old.backlogs
  pub same_lines : (c : ℕ) (i : RingInlet) → c < clients_of old
      → line_of_inlet (get_or new.inlets c i) ≡ line_of_inlet (get_or old.inlets c i)
  pub same_got : (c : ℕ) (i : RingInlet) → c < clients_of old
      → got_of (get_or new.inlets c i) ≡ got_of (get_or old.inlets c i)
  pub same_given : (c : ℕ) (i : RingInlet) → c < clients_of old
      → given_of (get_or new.inlets c i) ≡ given_of (get_or old.inlets c i)

-- the client has a held request or a word in its outbox, or a request stands in its line: fewer were got than
-- it submitted
abbrev pub IsWaiting : BacklogState → List Numbered → List Numbered → Type 0
IsWaiting backlog got submitted = (¬ IsIdle backlog) ⊎ (length got < length submitted)

-- something of this client waits, and nothing of a client before it
pub record IsFirstUnfinished (desk : DeskState RingInlet) (ended : List RequestsEnded) (c : ℕ) : Type 0 where
  pub client : c < clients_of desk
  pub waiting : (i : RingInlet) (e : RequestsEnded)
      → IsWaiting (backlog_at desk c) (got_of (get_or desk.inlets c i)) (all_submitted (get_or ended c e))
  pub idle_before : (k : ℕ) → k < c → IsIdle (backlog_at desk k)
  pub got_before : (k : ℕ) (i : RingInlet) (e : RequestsEnded) → k < c
      → all_submitted (get_or ended k e) ≡ got_of (get_or desk.inlets k i)
