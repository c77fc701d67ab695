-- The state that the lists of a wheel represent: the first n are its buckets, and the next one has what is
-- due.
use Rattle.std.specs.Prelude.{◌≡◌, ℕ, ◌+◌, ◌<◌, ◌≤◌, zero, suc, List, [], ◌∷◌, ◌++◌, length, map}
use Rattle.std.specs.List.{AllByRecursion}
use Rattle.timer_base.specs.Layout.{Layout, OneWheel}
use Rattle.timer_base.specs.Order.{in_order, AreDistinct, AreRising}
use Rattle.timer_base.specs.Pending.{timer_of}
use Rattle.timer_base.specs.WheelState.{IsPending, IsDue}
use Rattle.timer_wheels.specs.Types.{LAST, Timer, Entry, WheelState, list_at, KeyedLists, Row, Rows}

-- the timer of a row
abbrev pub row_timer : Row → Timer
row_timer row = row.1.timer

-- the timers of the rows, in their order
abbrev pub row_timers : Rows → List Timer
row_timers rows = map row_timer rows

-- a row as an entry: a timer's place is the key of its row
abbrev pub entry_of : Row → Entry
entry_of row = record { place = row.0; timer = row.1.timer }

abbrev pub entries_of : Rows → List Entry
entries_of rows = map entry_of rows

-- the rows of the first n lists, list by list
abbrev pub rows_below : ℕ → KeyedLists → Rows
rows_below zero lists = []
rows_below (suc n) [] = []
rows_below (suc n) (rows ∷ lists) = rows ++ rows_below n lists

-- the rows' timers by deadline, and then by serial, each at its place
abbrev pub pending_in : Rows → List Entry
pending_in rows = in_order timer_of (entries_of rows)

-- how many slots one wheel has
abbrev pub slots_in : Layout → ℕ
slots_in (OneWheel n) = n
slots_in layout = 0

-- the state of one wheel with n buckets and no room
abbrev pub wheel_state : ℕ → ℕ → ℕ → ℕ → KeyedLists → WheelState
wheel_state n last_tick now last_serial lists = record {
  layout = OneWheel n;
  last_tick = last_tick;
  now = now;
  pending = pending_in (rows_below n lists);
  due = entries_of (list_at n lists);
  last_serial = last_serial;
  room = 0;
}

-- each row is of a pending timer
abbrev pub ArePending : ℕ → ℕ → ℕ → Rows → Type 0
ArePending last_tick now last_serial rows = AllByRecursion
    (λ row. IsPending last_tick now last_serial (row_timer row)) rows

-- each row of the first n lists is of a pending timer
abbrev pub ArePendingBelow : ℕ → ℕ → ℕ → ℕ → KeyedLists → Type 0
ArePendingBelow n last_tick now last_serial lists = ArePending last_tick now last_serial (rows_below n lists)

-- each of the first n lists has its rows in order of starting
abbrev pub AreInOrder : ℕ → KeyedLists → Type 0
AreInOrder n lists = (s : ℕ) → s < n → AreRising 0 (row_timers (list_at s lists))

-- each row is of a due timer
abbrev pub AreDue : ℕ → ℕ → Rows → Type 0
AreDue now last_serial rows = AllByRecursion (λ row. IsDue now last_serial (row_timer row)) rows

-- what always holds of n buckets, the list of due timers after them, and their clock
pub record AreBuckets (n last_tick now last_serial : ℕ) (lists : KeyedLists) : Type 0 where
  pub last_in_range : last_tick ≤ LAST
  pub tick_in_range : now ≤ last_tick
  pub serial_in_range : last_serial ≤ LAST
  pub has_lists : length lists ≡ n + 1
  pub pending : ArePendingBelow n last_tick now last_serial lists
  pub distinct : AreDistinct (row_timers (rows_below n lists))
  pub due : AreDue now last_serial (list_at n lists)
  pub due_in_order : AreRising 0 (row_timers (list_at n lists))

-- each row of the first n lists is as the fact says of its list
abbrev pub EachRow : (ℕ → Row → Type 0) → ℕ → KeyedLists → Type 0
EachRow fact n lists = (s : ℕ) → s < n → AllByRecursion (fact s) (list_at s lists)
