use Rattle.std.proofs.Common.{◌<◌, ◌≤◌, ◌-◌}
use Rattle.timer_wheels.specs.declared.table.Table.TheVariants.{Wide}
use Rattle.timer_wheels.proofs.smooth_lemmas.PaceSums.{AreFixed}
use Rattle.timer_wheels.proofs.smooth.early_moves.fix_each.Given as goal

abbrev pub invariant-loop-wheel : goal.invariant-loop-wheel
invariant-loop-wheel g l = record {
  some : 0 < l.wheel;
  most : l.wheel ≤ l.count;
  fixed : AreFixed Wide l.wheels.buckets l.initial.paces l.paces l.wheel;
}

abbrev pub decreases-loop-wheel : goal.decreases-loop-wheel
decreases-loop-wheel g l = l.count - l.wheel
