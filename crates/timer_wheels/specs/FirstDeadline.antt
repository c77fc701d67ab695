-- The first deadline of timers, in whatever order they stand.
use Rattle.std.specs.Prelude.{◌≡◌, ◌≤◌, ℕ, List, [], map, Option, Some, None}
use Rattle.std.specs.List.{AllByRecursion}
use Rattle.timer_base.specs.declared.timer.Timer.{Timer}
use Rattle.timer_base.specs.Order.{IsMember}

-- one of the timers has this deadline
abbrev pub HasDeadline : ℕ → List Timer → Type 0
HasDeadline deadline timers = IsMember deadline (map (λ (t : Timer). t.deadline) timers)

-- one of the timers has this deadline, and none an earlier one
pub record IsLeast (deadline : ℕ) (timers : List Timer) : Type 0 where
  pub has : HasDeadline deadline timers
  pub none_earlier : AllByRecursion (λ t. deadline ≤ t.deadline) timers

-- the least deadline, and none exactly if there is no timer
abbrev pub IsLeastDeadline : Option ℕ → List Timer → Type 0
IsLeastDeadline None timers = timers ≡ []
IsLeastDeadline (Some deadline) timers = IsLeast deadline timers
