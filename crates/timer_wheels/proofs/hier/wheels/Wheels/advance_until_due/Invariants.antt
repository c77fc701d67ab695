use Rattle.std.proofs.Common.{◌-◌}
use Rattle.timer_wheels.proofs.hier_lemmas.Leaps.{IsAdvancing}
use Rattle.timer_wheels.proofs.hier.wheels.Wheels.advance_until_due.Given as goal

abbrev pub invariant-loop-self : goal.invariant-loop-self
invariant-loop-self g l = IsAdvancing l.most l.moves l.initial.self l.self

abbrev pub decreases-loop-self : goal.decreases-loop-self
decreases-loop-self g l = l.end - l.self.buckets.tick
