use Rattle.timer_facility.proofs.ClockLemmas.{quiet_ticks}
use Rattle.timer_facility.proofs.laws.nothing_is_handed_out_before_the_wake_up.Goals as goal

pub returns : goal.returns
returns c s tick n w h = quiet_ticks tick n s w.in_time h
