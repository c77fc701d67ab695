use Rattle.timer_facility.proofs.HandedOverLemmas.{adds_at_most_one}
use Rattle.timer_facility.proofs.laws.a_request_adds_at_most_one.Goals as goal

pub returns : goal.returns
returns c = adds_at_most_one
