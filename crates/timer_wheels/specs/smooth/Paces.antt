-- The paces of a smooth wheel: how many timers of each wheel's next bucket move at a tick.
use Rattle.std.specs.Coded.{Π_prop, le_prop}
use Rattle.std.specs.Prelude.{◌≡◌, ◌≤◌, ◌⊎◌, ◌+◌, ◌-◌, ◌*◌, ◌/◌, ◌&&◌, nat_lt, if◌then◌else◌, zero, suc, ℕ, List, length, slice_index_or}
use Rattle.timer_wheels.specs.Types.{Ghosts, Table}
use Rattle.timer_wheels.specs.smooth.Wheels.{next_len}
use Rattle.timer_wheels.specs.Digits.{weight}
use Rattle.timer_wheels.specs.smooth.Smooth.{IsInTime}
use Rattle.timer_wheels.specs.Tables.{radices}
use Rattle.timer_wheels.specs.declared.buckets.Buckets.{Buckets}
use Rattle.timer_wheels.specs.declared.smooth.paces.TheConstants.{MOST_PACE}
use Rattle.timer_wheels.specs.declared.smooth.slot_lists.TheConstants.{MOST_WHEELS}

-- the pace of wheel k
abbrev pub pace_at : List ℕ → ℕ → ℕ
pace_at paces k = slice_index_or paces k 0

-- the sum of the first n paces
abbrev pub sum_below : List ℕ → ℕ → ℕ
sum_below paces zero = 0
sum_below paces (suc n) = sum_below paces n + pace_at paces n

-- the sum of all paces: the most moves of a tick
abbrev pub pace_sum : List ℕ → ℕ
pace_sum paces = sum_below paces MOST_WHEELS

-- a pace for each wheel, and their sum
pub record ArePaces (paces : List ℕ) (sum : ℕ) : Type 0 where
  pub size : length paces ≡ MOST_WHEELS
  pub sum_is : sum ≡ pace_sum paces
  pub each : (k : ℕ) → pace_at paces k ≤ MOST_PACE

-- the pace of wheel k that is fixed if n timers are held: it moves as many in half the time of a bucket
abbrev pub pace_for : List ℕ → ℕ → ℕ → ℕ
pace_for table n k = 2 * (n / weight k table + 1)

-- the most of it: only wheels above the lowest have one
abbrev pub most_pace : List ℕ → ℕ → ℕ → ℕ
most_pace table n k = if nat_lt 0 k && nat_lt k (length table) then pace_for table n k else 0

-- the paces were fixed when at most n timers were held
abbrev pub FitPaces : List ℕ → ℕ → List ℕ → Type 0
FitPaces table n paces = (k : ℕ) → pace_at paces k ≤ most_pace table n k

-- the most moves of a tick, if the paces were fixed for at most n timers
abbrev pub tick_bound : ℕ → ℕ
tick_bound n = 2 * n / 63 + 18

-- the next buckets are in time at these paces
abbrev pub AreInTime : {N : Type 0} {kept : Ghosts N} → Table → Buckets N kept → List ℕ → Type 0
AreInTime table b paces = IsInTime (radices table) b.tick (pace_at paces) b.links.lists

pub AreInTime-prop : {N : Type 0} {kept : Ghosts N} (table : Table) (b : Buckets N kept) (paces : List ℕ) → IsProp (AreInTime table b paces)
AreInTime-prop table b paces = Π_prop (λ k. Π_prop (λ z. Π_prop (λ l. le_prop)))

-- as many timers of a wheel's next bucket as its pace went, or all; and the pace is the same, or 0 if all are gone
pub record HasMoved {N : Type 0} {kept : Ghosts N} (table : Table) (old new : Buckets N kept) (paces paces2 : List ℕ) (k : ℕ) : Type 0 where
  pub fewer : next_len table new k ≤ next_len table old k - pace_at paces k
  pub pace : (pace_at paces2 k ≡ pace_at paces k) ⊎ ((pace_at paces2 k ≡ 0) × (next_len table new k ≡ 0))
