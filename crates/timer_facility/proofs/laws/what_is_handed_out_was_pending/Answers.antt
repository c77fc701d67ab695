use Rattle.timer_facility.proofs.HandedOverLemmas.{hands_over_tick, hands_over_close}
use Rattle.timer_facility.proofs.laws.what_is_handed_out_was_pending.Goals as goal

pub returns-clause-tick : goal.returns-clause-tick
returns-clause-tick c = λ s. hands_over_tick s 0

pub returns-clause-close : goal.returns-clause-close
returns-clause-close c = λ s. hands_over_close s 0
