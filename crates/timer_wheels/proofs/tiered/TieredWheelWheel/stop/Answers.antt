use Rattle.std.proofs.Common.{sym, ap, ◌∙◌}
use Rattle.timer_base.proofs.HeldLaws.{none_removed}
use Rattle.timer_base.specs.WheelState.{held_at}
use Rattle.timer_wheels.specs.Buckets.{state_of}
use Rattle.timer_wheels.specs.TieredWheel.{tiered_state}
use Rattle.timer_wheels.proofs.tiered.TieredWheelWheel.stop.Goals as goal

pub returns-in_err-timer-clause-stopped : goal.returns-in_err-timer-clause-stopped
returns-in_err-timer-clause-stopped g c =
    none_removed c.args.handle (tiered_state c.args.self.now)
    (ap (λ b. held_at c.args.handle (state_of b)) (sym c.buckets.ensures) ∙ sym c.in_err-timer.ensures.timer)
