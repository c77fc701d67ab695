use Rattle.timer_facility.proofs.OwedLemmas.{started-numbered}
use Rattle.timer_facility.proofs.laws.serials_rise_in_the_order_of_starting.Goals as goal

pub returns : goal.returns
returns c = started-numbered
