-- Ticks to wake up at: how long the owner of a wheel may sleep.
use Rattle.std.specs.Prelude.{◌≡◌, ℕ, ◌<◌, ◌≤◌, List, [], ◌∷◌, Option, Some, None, length}
use Rattle.std.specs.List.{AllByRecursion}
use Rattle.timer_base.specs.Pending.{Entry}

-- an owner of these pending timers that wakes up at this tick misses nothing: there is one, the tick is after now, and
-- it is at most every deadline
pub record IsWakeUp (tick now : ℕ) (pending : List Entry) : Type 0 where
  pub some : 0 < length pending
  pub later : now < tick
  pub in_time : AllByRecursion (λ entry. tick ≤ entry.timer.deadline) pending

-- a tick to wake up at, and none exactly if nothing is pending
abbrev pub IsQuietUntil : Option ℕ → ℕ → List Entry → Type 0
IsQuietUntil None now pending = pending ≡ []
IsQuietUntil (Some tick) now pending = IsWakeUp tick now pending

-- the first deadline of the entries, if there is one
abbrev pub next_deadline : List Entry → Option ℕ
next_deadline [] = None
next_deadline (entry ∷ entries) = Some entry.timer.deadline
