-- The names in the public clauses of `HierWheel`.
use Rattle.std.specs.Prelude.{◌≡◌, ◌⊎◌, ℕ, ◌+◌, ◌-◌, ◌<◌, ◌≤◌}
use Rattle.timer_base.specs.declared.fault.MakeFault.{MakeFault}
use Rattle.timer_base.specs.declared.fault.MakeFault.TheVariants.{FirstTick, OutOfMemory}
use Rattle.timer_base.specs.Counts.{WheelCounts}
use Rattle.timer_base.specs.WellFormed.{with_layout-well_formed}
use Rattle.timer_base.specs.WheelState.{IsWellFormed, with_layout}
use Rattle.timer_wheels.specs.Types.{WheelState, Ghosts, Table}
use Rattle.timer_wheels.specs.Buckets.{state_of, state_of-well_formed}
use Rattle.timer_wheels.specs.declared.hier.HierWheel.{HierWheel}
use Rattle.timer_wheels.specs.Digits.{lowest_radix}
use Rattle.timer_wheels.specs.hier.Placement.{hops_of, visited_between, has_any}
use Rattle.timer_wheels.specs.Tables.{layout_of_table, radices_of}

-- the state of the wheel
abbrev pub hier_state : {N : Type 0} {kept : Ghosts N} → HierWheel N kept → WheelState
hier_state wheel = with_layout (layout_of_table wheel.wheels.table) (state_of wheel.wheels.buckets)

pub hier-well_formed : {N : Type 0} {kept : Ghosts N} (wheel : HierWheel N kept) → IsWellFormed (hier_state wheel)
hier-well_formed wheel =
    with_layout-well_formed (layout_of_table wheel.wheels.table) (state_of wheel.wheels.buckets) (state_of-well_formed wheel.wheels.buckets)

-- the table by which it reads its digits
abbrev pub table_of : {N : Type 0} {kept : Ghosts N} → HierWheel N kept → Table
table_of wheel = wheel.wheels.table

-- the error of `new` and `with_table`: the first tick is after the last one, or out of memory
abbrev pub IsHierFault : ℕ → ℕ → MakeFault → Type 0
IsHierFault last first_tick fault =
    ((fault ≡ FirstTick) × (last < first_tick)) ⊎ ((fault ≡ OutOfMemory) × (first_tick ≤ last))

-- its counts; each tick since it was made visited a bucket, except for those that it skipped
abbrev pub counts_of : {N : Type 0} {kept : Ghosts N} → HierWheel N kept → WheelCounts
counts_of wheel = record {
  starts = wheel.counts.starts;
  moves = wheel.counts.moves;
  visits = wheel.wheels.buckets.tick - wheel.counts.skipped;
}

-- the counts after one more start or restart
abbrev pub with_counted_start : WheelCounts → WheelCounts
with_counted_start counts = record counts { starts = counts.starts + 1 }

-- the counts after some ticks, with their moves and visits
abbrev pub with_ticks : ℕ → ℕ → WheelCounts → WheelCounts
with_ticks moves visits counts = record counts {
  moves = counts.moves + moves;
  visits = counts.visits + visits;
}

-- the counts after a tick from this state: one bucket is visited
abbrev pub counts_of_tick : WheelState → WheelCounts → WheelCounts
counts_of_tick old counts = with_ticks (hops_of (radices_of old.layout) old.now 1 old.pending) 1 counts

-- the counts after an advance from the first state to the second
abbrev pub counts_of_advance : WheelState → WheelState → WheelCounts → WheelCounts
counts_of_advance old new counts =
    with_ticks (hops_of (radices_of old.layout) old.now (new.now - old.now) old.pending)
    (visited_between (lowest_radix (radices_of old.layout)) old.now new.now (has_any new.due)) counts
