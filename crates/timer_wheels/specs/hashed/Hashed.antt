-- The slot and the rounds of a timer in a hashed wheel, what its `links` shows, and the invariant of its
-- rows.
use Rattle.std.specs.Prelude.{◌≡◌, ℕ, ◌+◌, ◌-◌, ◌/◌, ◌%◌, ◌<◌, ◌≤◌, [], length}
use Rattle.std.specs.Coded.{×_prop}
use Rattle.std.proofs.Props.{props}
use Rattle.timer_wheels.specs.Types.{Timer, WheelState, KeyedLists, Row}
use Rattle.timer_wheels.specs.BucketLaws.{EachRow-prop}
use Rattle.timer_wheels.specs.BucketLists.{row_timer, EachRow}
use Rattle.timer_wheels.specs.Shown.{entries_at, ShowsBuckets}

-- the slot of a timer
abbrev pub slot_of : ℕ → Timer → ℕ
slot_of n t = t.deadline % n

-- how many more times the clock passes the slot of a pending timer before the timer is due
abbrev pub rounds_of : ℕ → ℕ → Timer → ℕ
rounds_of n now t = (t.deadline - now - 1) / n

-- list s, for s below n, has the pending timers with deadline mod n = s, by serial, each under its place with
-- its rounds, and list n has what is due
abbrev pub IsHashed : ℕ → WheelState → KeyedLists → Type 0
IsHashed n w lists = ShowsBuckets n (slot_of n) (rounds_of n w.now) w lists

-- the next tick that sweeps a bucket with a timer
pub record IsNextSweep (n tick : ℕ) (w : WheelState) : Type 0 where
  -- it is at most one revolution ahead
  pub in_turn : tick ≤ w.now + n
  -- a pending timer has its slot
  pub some : 0 < length (entries_at (slot_of n) (tick % n) w.pending)
  -- and none has the slot of a tick before it
  pub none_before : (t : ℕ) → w.now < t → t < tick → entries_at (slot_of n) (t % n) w.pending ≡ []

-- a row of bucket s
abbrev pub IsInBucket : ℕ → ℕ → ℕ → Row → Type 0
IsInBucket n now s row = (slot_of n (row_timer row) ≡ s) × (row.1.rounds ≡ rounds_of n now (row_timer row))

-- each row stands in its bucket, with its rounds
abbrev pub AreInBuckets : ℕ → ℕ → KeyedLists → Type 0
AreInBuckets n now lists = EachRow (IsInBucket n now) n lists

IsInBucket-prop : (n now s : ℕ) (row : Row) → IsProp (IsInBucket n now s row)
IsInBucket-prop n now s row = ×_prop (hlevel props) (hlevel props)

pub AreInBuckets-prop : (n now : ℕ) (lists : KeyedLists) → IsProp (AreInBuckets n now lists)
AreInBuckets-prop n now lists = EachRow-prop (IsInBucket n now) (IsInBucket-prop n now) n lists
