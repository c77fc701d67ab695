use Rattle.timer_facility.proofs.RestoredLemmas.{restored_goes_on}
use Rattle.timer_facility.proofs.laws.a_dump_says_how_to_go_on.Goals as goal

pub returns : goal.returns
returns c = λ s t config last v sound configured lines same. restored_goes_on s t config last v same sound configured lines
