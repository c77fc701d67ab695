-- The line of a client that is gone, opened again.
use Rattle.std.specs.Prelude.{ℕ, ◌≡◌, ◌≢◌, ◌<◌, ◌≤◌, ◌⊎◌, get_or, slice_set}
use Rattle.timer_desk_c.specs.Types.{LAST, RingInlet, Line}
use Rattle.timer_facility.specs.State.{number_of, pending_of}
use Rattle.timer_desk.specs.declared.looks.Found.TheVariants.{Nothing}
use Rattle.timer_desk.specs.Desk.{clients_of, backlog_at, IsIdle}
use Rattle.timer_desk.specs.RingEnds.{found_by_inlet, IsOver}
use Rattle.timer_desk_c.specs.declared.desk_maker.TheConstants.{MIN_ITEMS, MAX_ITEMS}
use Rattle.timer_desk_c.specs.declared.status.TheConstants.{NO_CLIENT, OUT_OF_RANGE, NOT_FREED, LEFT, NUMBERS_SPENT, NO_MEMORY}
use Rattle.timer_desk_c.specs.DeskSlots.{RingDesk}
use Rattle.timer_desk_c.specs.Desks.{IsNewLine}
use Rattle.timer_desk_c.specs.Freed.{OnlyLooks}

-- a line has room for this many items each way
abbrev pub IsRoom : ℕ → Type 0
IsRoom room = (MIN_ITEMS ≤ room) × (room ≤ MAX_ITEMS)

-- nothing is held of the client, no word waits for it, and no timer of it is pending
pub record IsClear (client : ℕ) (d : RingDesk) : Type 0 where
  pub idle : IsIdle (backlog_at d client)
  pub none_pending : pending_of d.facility client ≡ 0

-- the client was seen to have freed its end, and then no request to stand in its line
abbrev pub IsSeenOver : ℕ → RingDesk → Type 0
IsSeenOver client d = (i : RingInlet) → IsOver (get_or d.inlets client i)

-- The client was seen to have freed its end, and then no request to stand in its line: so nothing of it was left.
-- It has another line, with new ends, whose first request has the number after that of its last; nothing else has
-- changed.
pub record HasOpened (client room : ℕ) (old new : RingDesk) (line : Line) : Type 0 where
  pub client_in_range : client < clients_of old
  pub room_in_range : IsRoom room
  pub clear : IsClear client old
  pub between : RingDesk
  pub looked : OnlyLooks client old between
  pub over : IsSeenOver client between
  pub number_in_range : number_of old.facility client ≤ LAST
  pub inlet : RingInlet
  pub new_line : IsNewLine (number_of old.facility client) room inlet line
  pub only : new ≡ record between { inlets = slice_set between.inlets client inlet }

-- why no line was opened: the first that holds
abbrev pub WhyNotOpened : ℕ → ℕ → RingDesk → RingDesk → ℕ → Type 0
WhyNotOpened client room old new status =
    ((status ≡ NO_CLIENT) × (clients_of old ≤ client))
    ⊎ ((status ≡ OUT_OF_RANGE) × (client < clients_of old) × (IsRoom room → ⊥))
    ⊎ ((status ≡ NOT_FREED) × (client < clients_of old) × IsRoom room
    × ((i : RingInlet) → found_by_inlet (get_or new.inlets client i) ≡ Nothing))
    ⊎ ((status ≡ LEFT) × (client < clients_of old) × IsRoom room
    × ((i : RingInlet) → found_by_inlet (get_or new.inlets client i) ≢ Nothing)
    × (IsClear client old → (i : RingInlet) → ¬ (IsOver (get_or new.inlets client i))))
    ⊎ ((status ≡ NUMBERS_SPENT) × (client < clients_of old) × IsRoom room × IsClear client old
    × IsSeenOver client new × (LAST < number_of old.facility client))
    ⊎ ((status ≡ NO_MEMORY) × (client < clients_of old) × IsRoom room × IsClear client old
    × IsSeenOver client new × (number_of old.facility client ≤ LAST))
