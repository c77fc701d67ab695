-- The names in the public clauses of `LazyWheel`.
use Rattle.std.specs.Prelude.{◌≡◌, ◌+◌, ℕ, List}
use Rattle.timer_base.specs.WellFormed.{with_layout-well_formed}
use Rattle.timer_base.specs.WheelState.{IsWellFormed, with_layout}
use Rattle.timer_wheels.specs.Types.{WheelState, Ghosts, list_at, KeyedLists, Table}
use Rattle.timer_wheels.specs.BucketLists.{entries_of, rows_below, pending_in, EachRow}
use Rattle.timer_wheels.specs.Buckets.{state_of, state_of-well_formed}
use Rattle.timer_wheels.specs.Digits.{slots}
use Rattle.timer_wheels.specs.lazy.Filed.{IsFiled}
use Rattle.timer_wheels.specs.lazy.Files.{filings_left, filed_next}
use Rattle.timer_wheels.specs.Tables.{layout_of_table}
use Rattle.timer_wheels.specs.declared.lazy.LazyWheel.{LazyWheel}
use Rattle.timer_wheels.specs.declared.lazy.files.FilingCounts.{FilingCounts}

-- the state of the wheel
abbrev pub lazy_state : {N : Type 0} {kept : Ghosts N} → LazyWheel N kept → WheelState
lazy_state wheel = with_layout (layout_of_table wheel.files.table) (state_of wheel.files.buckets)

pub lazy-well_formed : {N : Type 0} {kept : Ghosts N} (wheel : LazyWheel N kept) → IsWellFormed (lazy_state wheel)
lazy-well_formed wheel =
    with_layout-well_formed (layout_of_table wheel.files.table) (state_of wheel.files.buckets) (state_of-well_formed wheel.files.buckets)

-- the table by which it reads its digits
abbrev pub lazy_table : {N : Type 0} {kept : Ghosts N} → LazyWheel N kept → Table
lazy_table wheel = wheel.files.table

-- its lists: the buckets, lists that are empty, and the due timers
abbrev pub lazy_lists : {N : Type 0} {kept : Ghosts N} → LazyWheel N kept → KeyedLists
lazy_lists wheel = wheel.files.buckets.links.lists

-- what it counted: how many timers were started or restarted, and how many times one was filed anew
abbrev pub lazy_counts : {N : Type 0} {kept : Ghosts N} → LazyWheel N kept → FilingCounts
lazy_counts wheel = wheel.files.counts

-- how often its pending timers may still be filed anew: each of them once in each wheel below that of its deadline, and once more
-- if it doesn't stand in its deadline's bucket
abbrev pub lazy_left : {N : Type 0} {kept : Ghosts N} → LazyWheel N kept → ℕ
lazy_left wheel = filings_left wheel.files.table wheel.files.buckets

-- how many timers the next tick files anew: those of the bucket that it visits, but for what is due then
abbrev pub lazy_filed_next : {N : Type 0} {kept : Ghosts N} → LazyWheel N kept → ℕ
lazy_filed_next wheel = filed_next wheel.files.table wheel.files.buckets

-- each pending timer stands in a bucket that is visited by its deadline, and the last list has what is due
pub record ShowsFiled (table : List ℕ) (w : WheelState) (lists : KeyedLists) : Type 0 where
  pub filed : EachRow (IsFiled table w.now) (slots table + 35) lists
  pub pending : w.pending ≡ pending_in (rows_below (slots table + 35) lists)
  pub due : w.due ≡ entries_of (list_at (slots table + 35) lists)
