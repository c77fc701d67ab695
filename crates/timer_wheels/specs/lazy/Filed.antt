-- In which bucket of a lazy hierarchy each timer is: in one that is visited after now, and at most at the timer's deadline.
-- And how often timers may still be filed anew.
use Rattle.std.specs.Prelude.{◌≡◌, ◌<◌, ◌≤◌, ◌+◌, ℕ, zero, suc, ◌==◌, if◌then◌else◌, List, [], ◌∷◌}
use Rattle.std.proofs.Props.{props}
use Rattle.timer_wheels.specs.Types.{list_at, KeyedLists, Row, Rows}
use Rattle.timer_wheels.specs.BucketLists.{row_timer}
use Rattle.timer_wheels.specs.Digits.{level, bucket}
use Rattle.timer_wheels.specs.hier.Leap.{list_visit}

-- list s is the bucket of a tick that is later than now: the tick that visits it
pub record IsAhead (table : List ℕ) (now s : ℕ) : Type 0 where
  pub later : now < list_visit table s now
  pub is_bucket : bucket table now (list_visit table s now) ≡ s

-- a row of list s: the bucket is ahead, and visited by the timer's deadline
pub record IsFiled (table : List ℕ) (now s : ℕ) (row : Row) : Type 0 where
  pub ahead : IsAhead table now s
  pub in_time : list_visit table s now ≤ (row_timer row).deadline
  pub no_rounds : row.1.rounds ≡ 0
  -- so that those that become due at one tick rise strictly, once they are sorted
  pub numbered : 0 < (row_timer row).serial

IsAhead-prop : (table : List ℕ) (now s : ℕ) → IsProp (IsAhead table now s)
IsAhead-prop table now s = hlevel props

pub IsFiled-prop : (table : List ℕ) (now s : ℕ) (row : Row) → IsProp (IsFiled table now s row)
IsFiled-prop table now s row = hlevel (props, IsAhead-prop table now s)

-- how often a row of list s may still be filed anew: once in each wheel below that of its deadline, and once more if the list
-- isn't its deadline's bucket
abbrev pub filings_of : List ℕ → ℕ → ℕ → Row → ℕ
filings_of table now s row =
    level table now (row_timer row).deadline + (if bucket table now (row_timer row).deadline == s then 0 else 1)

-- a number of each row, added up
abbrev pub sum_of : (Row → ℕ) → Rows → ℕ
sum_of f [] = 0
sum_of f (row ∷ rows) = f row + sum_of f rows

-- the same of the rows of the first n lists
abbrev pub sum_below : (ℕ → Row → ℕ) → ℕ → KeyedLists → ℕ
sum_below f zero lists = 0
sum_below f (suc n) lists = sum_below f n lists + sum_of (f n) (list_at n lists)
