use Rattle.timer_base.specs.WheelState.{IsPassing}
use Rattle.timer_wheels.specs.Buckets.{state_of}
use Rattle.timer_wheels.proofs.hashed.HashedWheel.tick_until_due.Given as goal

abbrev pub invariant-loop-passed : goal.invariant-loop-passed
invariant-loop-passed l = record {
  passing : IsPassing l.passed (state_of l.initial.self.buckets) (state_of l.self.buckets);
}
