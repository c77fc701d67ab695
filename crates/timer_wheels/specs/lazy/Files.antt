-- The invariant of the buckets of a lazy hierarchy and of their bits, and what was counted.
use Rattle.std.specs.Prelude.{◌≡◌, ◌<◌, ◌≤◌, ◌+◌, ◌*◌, ℕ, List, Option, Some, None, length}
use Rattle.std.proofs.Props.{props}
use Rattle.timer_base.specs.WheelState.{held_at}
use Rattle.timer_links.specs.Lists.{SetsNode}
use Rattle.timer_wheels.specs.Types.{Handle, Timer, WheelState, Ghosts, list_at, KeyedLists, Table}
use Rattle.timer_wheels.specs.BucketLaws.{EachRow-prop}
use Rattle.timer_wheels.specs.BucketLists.{EachRow}
use Rattle.timer_wheels.specs.Digits.{slots, last_of, emptied}
use Rattle.timer_wheels.specs.lazy.Filed.{IsFiled, IsFiled-prop, filings_of, sum_below}
use Rattle.timer_wheels.specs.hier.Leap.{list_visit}
use Rattle.timer_wheels.specs.hier.Migration.{left_rows}
use Rattle.timer_wheels.specs.Occupied.{AreMarked, AreMarked-prop}
use Rattle.timer_wheels.specs.Tables.{radices}
use Rattle.timer_wheels.specs.declared.buckets.Buckets.{Buckets}
use Rattle.timer_wheels.specs.declared.lazy.files.FilingCounts.{FilingCounts}

-- each row is in a bucket that is visited by its deadline
abbrev pub RowsAreFiled : {N : Type 0} {kept : Ghosts N} → Table → Buckets N kept → Type 0
RowsAreFiled table b = EachRow (IsFiled (radices table) b.tick) b.slots b.links.lists

pub record AreFiles {N : Type 0} {kept : Ghosts N} (table : Table) (b : Buckets N kept) (words : List ℕ) : Type 0 where
  -- the lists after those of the table are empty: no row can be filed there
  pub has_slots : b.slots ≡ slots (radices table) + 35
  pub clock : b.last_tick ≡ last_of (radices table)
  pub filed : RowsAreFiled table b
  -- the bits mark which buckets have timers
  pub marked : AreMarked (slots (radices table)) words b.links.lists

RowsAreFiled-prop : {N : Type 0} {kept : Ghosts N} (table : Table) (b : Buckets N kept) → IsProp (RowsAreFiled table b)
RowsAreFiled-prop table b = EachRow-prop (IsFiled (radices table) b.tick) (IsFiled-prop (radices table) b.tick) b.slots b.links.lists

pub AreFiles-prop : {N : Type 0} {kept : Ghosts N} (table : Table) (b : Buckets N kept) (words : List ℕ) → IsProp (AreFiles table b words)
AreFiles-prop table b words = hlevel (props, RowsAreFiled-prop table b, AreMarked-prop (slots (radices table)) words b.links.lists)

-- if a restart pushes a pending timer back, its node alone changes, where it stands: no link does
abbrev pub StaysInPlace : Handle → Timer → WheelState → KeyedLists → KeyedLists → Type 0
StaysInPlace handle timer w old new = (t : Timer) → held_at handle w ≡ Some t → w.now < t.deadline → t.deadline ≤ timer.deadline
    → SetsNode handle.place (record { timer = timer; rounds = 0 }) old new

-- no bucket with a timer is visited before this tick
abbrev pub AreVisitedFrom : List ℕ → ℕ → ℕ → ℕ → KeyedLists → Type 0
AreVisitedFrom table visit now n lists = EachRow (λ s row. visit ≤ list_visit table s now) n lists

-- there is a deadline, and it is not after this tick
abbrev pub IsBy : ℕ → Option ℕ → Type 0
IsBy tick None = ⊥
IsBy tick (Some deadline) = deadline ≤ tick

-- the counts after one more start or restart
abbrev pub with_start : FilingCounts → FilingCounts
with_start counts = record counts { starts = counts.starts + 1 }

-- the counts after n timers were filed anew
abbrev pub with_filings : ℕ → FilingCounts → FilingCounts
with_filings n counts = record counts { filings = counts.filings + n }

-- how often the pending timers may still be filed anew
abbrev pub filings_left : {N : Type 0} {kept : Ghosts N} → Table → Buckets N kept → ℕ
filings_left table b = sum_below (filings_of (radices table) b.tick) (slots (radices table)) b.links.lists

-- how many timers the next tick files anew: those of the bucket that it visits, but for what is due then
abbrev pub filed_next : {N : Type 0} {kept : Ghosts N} → Table → Buckets N kept → ℕ
filed_next table b = length (left_rows (b.tick + 1) (list_at (emptied (radices table) (b.tick + 1)) b.links.lists))

-- A start allows one filing for each wheel: each files a timer into a lower wheel, or after a push back into its own bucket.
-- So what is left to file is paid for, too.
abbrev pub ArePaid : {N : Type 0} {kept : Ghosts N} → Table → Buckets N kept → FilingCounts → Type 0
ArePaid table b counts = counts.filings + filings_left table b ≤ length (radices table) * counts.starts
