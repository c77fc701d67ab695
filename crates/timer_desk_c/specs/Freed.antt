-- What a look for a freed line or desk leaves as it was. Whether the other end was freed is the ring's
-- answer, of which no clause speaks.
use Rattle.std.specs.Prelude.{ℕ, ◌≡◌, ◌≢◌, ◌↔◌, Bool, true, false, [], get_or, ◌+◌, ◌<◌, List, length, nat_lt}
use Rattle.timer_desk_c.specs.Types.{RingInlet, Line}
use Rattle.timer_desk.specs.declared.looks.Found.TheVariants.{Nothing}
use Rattle.timer_desk.specs.Looks.{MayFind}
use Rattle.timer_desk.specs.RingEnds.{found_by_inlet}
use Rattle.timer_desk_c.specs.DeskSlots.{RingDesk}
use Rattle.timer_desk_c.specs.Lines.{is_ended_line, seen_on}
use Rattle.std.specs.List.{list_any}
use Rattle.timer_desk.specs.Backlog.{BacklogState}
use Rattle.timer_desk.specs.Desk.{clients_of, backlog_at}
use Rattle.timer_desk.specs.Settlement.{HasLooked}
pub use Rattle.timer_desk.specs.Settlement.{OnlyLooks}

-- whether the client was seen to have freed its end: if it was before, it still is
pub record IsSeenFreed (freed : Bool) (client : ℕ) (old new : RingDesk) : Type 0 where
  pub seen : (i : RingInlet) → freed ≡ true ↔ (found_by_inlet (get_or new.inlets client i) ≢ Nothing)
  pub stays : (i : RingInlet) → MayFind (found_by_inlet (get_or old.inlets client i))
      (found_by_inlet (get_or new.inlets client i))

-- the words have not ended, and none was seen in the line, neither before nor now
abbrev pub HasNoWord : Line → Line → Type 0
HasNoWord old new = (is_ended_line old ≡ false) × (seen_on old ≡ []) × (seen_on new ≡ [])

-- The words to a client that is gone: those that its line does not take are dropped.

-- a client's line i and backlog b, and what they are after the words were dropped if the client was seen to have
-- freed its end, and otherwise kept
pub record IsDropped (i j : RingInlet) (b d : BacklogState) : Type 0 where
  pub looked : HasLooked i j
  pub stays : MayFind (found_by_inlet i) (found_by_inlet j)
  pub there : found_by_inlet j ≡ Nothing → d ≡ b
  pub gone : found_by_inlet j ≢ Nothing → d ≡ record b { outbox = [] }

-- so for this client, and nothing else has changed
pub record HasDropped (client : ℕ) (old new : RingDesk) : Type 0 where
  pub same_facility : new.facility ≡ old.facility
  pub same_clients : clients_of new ≡ clients_of old
  pub as_many_backlogs : length new.backlogs ≡ length old.backlogs
  pub other_inlets : (k : ℕ) (i : RingInlet) → k ≢ client → get_or new.inlets k i ≡ get_or old.inlets k i
  pub other_backlogs : (k : ℕ) (b : BacklogState) → k ≢ client
      → get_or new.backlogs k b ≡ get_or old.backlogs k b
  pub at : (i : RingInlet) → IsDropped (get_or old.inlets client i) (get_or new.inlets client i)
      (backlog_at old client) (backlog_at new client)

-- how many words wait for a client
abbrev pub waiting_at : RingDesk → ℕ → ℕ
waiting_at d c = length (backlog_at d c).outbox

-- so for each of the first `many` clients, of which so many words were dropped; and whether any was
pub record HasDroppedFirst (many : ℕ) (dropped : Bool) (old new : RingDesk) : Type 0 where
  pub counts : List ℕ
  pub as_many : length counts ≡ many
  pub same_facility : new.facility ≡ old.facility
  pub same_clients : clients_of new ≡ clients_of old
  pub as_many_backlogs : length new.backlogs ≡ length old.backlogs
  pub each : (c : ℕ) (i : RingInlet) → c < many → IsDropped (get_or old.inlets c i) (get_or new.inlets c i)
      (backlog_at old c) (backlog_at new c)
  pub counted : (c : ℕ) → c < many → get_or counts c 0 + waiting_at new c ≡ waiting_at old c
  pub dropped_is : dropped ≡ list_any (nat_lt 0) counts
