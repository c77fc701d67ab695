use Rattle.std.proofs.Common.{◌≡◌, ◌≤◌}
use Rattle.timer_wheels.specs.smooth.Smooth.{descend_by}
use Rattle.timer_wheels.specs.Tables.{radices}
use Rattle.timer_wheels.specs.declared.table.Table.TheVariants.{Wide}
use Rattle.timer_wheels.proofs.smooth.slot_lists.descend.Given as goal

abbrev pub invariant-loop-wheel : goal.invariant-loop-wheel
invariant-loop-wheel l = (l.wheel ≤ l.from) × (descend_by (radices Wide) l.now l.filled l.deadline l.wheel
    ≡ descend_by (radices Wide) l.now l.filled l.deadline l.from)

abbrev pub decreases-loop-wheel : goal.decreases-loop-wheel
decreases-loop-wheel l = l.wheel
