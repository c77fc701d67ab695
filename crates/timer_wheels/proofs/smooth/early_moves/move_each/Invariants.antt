use Rattle.std.proofs.Common.{◌≡◌, ◌<◌, ◌≤◌, ◌+◌, ◌-◌}
use Rattle.timer_wheels.specs.Buckets.{state_of}
use Rattle.timer_wheels.specs.declared.table.Table.TheVariants.{Wide}
use Rattle.timer_wheels.proofs.smooth_lemmas.PaceSums.{AreMoving, next_lens}
use Rattle.timer_wheels.proofs.smooth.early_moves.move_each.Given as goal

abbrev pub invariant-loop-wheel : goal.invariant-loop-wheel
invariant-loop-wheel g l = record {
  state : state_of l.wheels.buckets ≡ state_of l.initial.wheels.buckets;
  tick : l.wheels.buckets.tick ≡ l.initial.wheels.buckets.tick;
  some : 0 < l.wheel;
  most : l.wheel ≤ l.count;
  counted : l.moves + next_lens Wide l.wheels.buckets (l.wheel - 1)
      ≤ next_lens Wide l.initial.wheels.buckets (l.wheel - 1);
  moving : AreMoving Wide l.initial.wheels.buckets l.wheels.buckets l.initial.paces l.paces l.moves l.wheel;
}

abbrev pub decreases-loop-wheel : goal.decreases-loop-wheel
decreases-loop-wheel g l = l.count - l.wheel
