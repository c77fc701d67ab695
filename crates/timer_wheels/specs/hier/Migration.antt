-- The lists of a hierarchy of wheels after one bucket is emptied: each row, from the front, moves to its new
-- list.
use Rattle.std.specs.Prelude.{◌≡◌, ◌≢◌, ℕ, ◌≤◌, not, if◌then◌else◌, List, [], ◌∷◌, filter, slice_set, Option, Some, None}
use Rattle.timer_base.specs.Pending.{is_due_at}
use Rattle.timer_links.specs.Lists.{list_at, with_row, KeyedLists, Row, Rows}
use Rattle.timer_wheels.specs.Digits.{bucket, slots, last_of}
use Rattle.timer_wheels.specs.Types.{Timer}
use Rattle.timer_wheels.specs.BucketLists.{row_timer}

-- the list that a row moves to at this tick: that of the due timers at its deadline, else its bucket
abbrev pub target : List ℕ → ℕ → Row → ℕ
target table tick row = if is_due_at tick (row_timer row) then slots table else bucket table tick
    (row_timer row).deadline

-- the rows move, one after another, to the back of their lists
abbrev pub migrate_rows : List ℕ → ℕ → Rows → KeyedLists → KeyedLists
migrate_rows table tick [] lists = lists
migrate_rows table tick (row ∷ rows) lists = migrate_rows table tick rows
    (with_row (target table tick row) row lists)

-- one list is emptied from its front
abbrev pub migrated : List ℕ → ℕ → ℕ → KeyedLists → KeyedLists
migrated table tick l lists = migrate_rows table tick (list_at l lists) (slice_set lists l [])

-- the rows that are due at this tick
abbrev pub due_rows : ℕ → Rows → Rows
due_rows tick rows = filter (λ row. is_due_at tick (row_timer row)) rows

-- the rows that are not
abbrev pub left_rows : ℕ → Rows → Rows
left_rows tick rows = filter (λ row. not (is_due_at tick (row_timer row))) rows

-- a row that is due at this tick
abbrev pub IsOfTick : ℕ → Row → Type 0
IsOfTick tick row = (row_timer row).deadline ≡ tick

-- the deadline of the first row
abbrev pub first_deadline : Rows → Option ℕ
first_deadline [] = None
first_deadline (row ∷ rows) = Some (row_timer row).deadline

-- the timer of the first row
abbrev pub timer_in_front : Rows → Option Timer
timer_in_front [] = None
timer_in_front (row ∷ rows) = Some (row_timer row)

-- the timer of the second row
abbrev pub timer_behind : Rows → Option Timer
timer_behind [] = None
timer_behind (row ∷ rest) = timer_in_front rest

-- the deadline of the second row
abbrev pub second_deadline : Rows → Option ℕ
second_deadline [] = None
second_deadline (row ∷ rest) = first_deadline rest

-- a row of a list that is emptied at this tick: it moves to another list
pub record MayMigrate (table : List ℕ) (tick l : ℕ) (row : Row) : Type 0 where
  pub elsewhere : target table tick row ≢ l
  pub not_past : tick ≤ (row_timer row).deadline
  pub in_range : (row_timer row).deadline ≤ last_of table
