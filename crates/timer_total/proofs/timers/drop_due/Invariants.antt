use Rattle.std.proofs.Common.{◌≡◌, length}
use Rattle.timer_total.specs.TimersState.{without_due}
use Rattle.timer_total.proofs.timers.drop_due.Given as goal

-- but for what is due, the wheel is as it was
abbrev pub invariant-loop : goal.invariant-loop
invariant-loop g l = record {
  rest : without_due (g.W.Wheel.state l.wheel) ≡ without_due (g.W.Wheel.state l.initial.wheel);
  counts : g.W.Wheel.counts l.wheel ≡ g.W.Wheel.counts l.initial.wheel;
}

abbrev pub decreases-loop : goal.decreases-loop
decreases-loop g l = length (g.W.Wheel.state l.wheel).due
