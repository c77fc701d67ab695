-- Pending timers, each with its place in the wheel, in one ordered list (Scheme 2 of Varghese and Lauck).
use Rattle.std.specs.Prelude.{ℕ, ◌<◌, Bool, ◌&&◌, ◌==◌, not, if◌then◌else◌, List, [], ◌∷◌, Option, Some, None, map, filter}
use Rattle.std.specs.List.{AllByRecursion}
use Rattle.timer_base.specs.Types.{Timer, Handle}
use Rattle.timer_base.specs.Order.{insert_by_deadline}

-- a held timer and its place; its handle is the place and the timer's serial
pub record Entry : Type 0 where
  pub place : ℕ
  pub timer : Timer

-- the timer of an entry
abbrev pub timer_of : Entry → Timer
timer_of entry = entry.timer

-- the timers of the entries, in their order
abbrev pub timers_of : List Entry → List Timer
timers_of entries = map timer_of entries

-- the entry goes before the first one with a later deadline, or last if there is none
abbrev pub put : Entry → List Entry → List Entry
put entry entries = insert_by_deadline timer_of entry entries

-- the entry has exactly this handle, place and serial
abbrev pub has_handle : Handle → Entry → Bool
has_handle handle entry = entry.place == handle.place && entry.timer.serial == handle.serial

-- the timer has this serial
abbrev pub has_serial : ℕ → Timer → Bool
has_serial serial t = t.serial == serial

-- the timer is due at this tick
abbrev pub is_due_at : ℕ → Timer → Bool
is_due_at tick t = t.deadline == tick

-- the first timer whose entry satisfies the test
abbrev pub first_timer : (Entry → Bool) → List Entry → Option Timer
first_timer test [] = None
first_timer test (entry ∷ entries) = if test entry then Some entry.timer else first_timer test entries

-- the entries except those with this serial
abbrev pub without_serial : ℕ → List Entry → List Entry
without_serial serial entries = filter (λ entry. not (has_serial serial entry.timer)) entries

-- the entries except the timer that was found, if one was
abbrev pub without_found : Option Timer → List Entry → List Entry
without_found None entries = entries
without_found (Some t) entries = without_serial t.serial entries

-- the entries except that of this handle
abbrev pub without_handle : Handle → List Entry → List Entry
without_handle handle entries = filter (λ entry. not (has_handle handle entry)) entries

-- the first of two timers, or the second if there is no first
abbrev pub first_found : Option Timer → Option Timer → Option Timer
first_found None second = second
first_found (Some t) second = Some t

-- the entries that are due at this tick
abbrev pub entries_due : ℕ → List Entry → List Entry
entries_due tick entries = filter (λ entry. is_due_at tick entry.timer) entries

-- the entries that are not
abbrev pub entries_left : ℕ → List Entry → List Entry
entries_left tick entries = filter (λ entry. not (is_due_at tick entry.timer)) entries

-- no pending timer's deadline is up to this tick
abbrev pub AreAfter : ℕ → List Entry → Type 0
AreAfter tick entries = AllByRecursion (λ entry. tick < entry.timer.deadline) entries
