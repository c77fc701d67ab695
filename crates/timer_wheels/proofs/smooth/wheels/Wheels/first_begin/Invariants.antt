use Rattle.std.proofs.Common.{◌≤◌, ◌-◌}
use Rattle.timer_wheels.specs.smooth.WakeUps.{IsFoundBelow, IsBegin}
use Rattle.timer_wheels.specs.declared.table.Table.TheVariants.{Wide}
use Rattle.timer_wheels.proofs.smooth.wheels.Wheels.first_begin.Given as goal

abbrev pub invariant-loop-wheel : goal.invariant-loop-wheel
invariant-loop-wheel g l = record {
  most : l.wheel ≤ l.count;
  found : IsFoundBelow (IsBegin Wide l.self.buckets) Wide l.self.buckets l.wheel l.first;
}

abbrev pub decreases-loop-wheel : goal.decreases-loop-wheel
decreases-loop-wheel g l = l.count - l.wheel
