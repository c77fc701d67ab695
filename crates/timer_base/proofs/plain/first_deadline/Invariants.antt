use Rattle.std.proofs.Common.{◌≡◌, drop}
use Rattle.timer_base.specs.PlainState.{earliest, first_after}
use Rattle.timer_base.proofs.plain.first_deadline.Given as goal

abbrev pub invariant-loop-timer : goal.invariant-loop-timer
invariant-loop-timer l = earliest l.first (first_after l.tick (drop l.timer-index l.timers)) ≡ first_after l.tick l.timers
