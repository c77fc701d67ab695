use Rattle.timer_base.proofs.TickLaws.{quiet_before_wake_up}
use Rattle.timer_base.proofs.laws.nothing_is_due_before_the_wake_up.Goals as goal

pub returns : goal.returns
returns c = quiet_before_wake_up
