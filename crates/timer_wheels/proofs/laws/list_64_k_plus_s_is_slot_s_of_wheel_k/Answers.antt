use Rattle.timer_wheels.proofs.table_lemmas.WideDigits.{list_is_slot}
use Rattle.timer_wheels.proofs.laws.list_64_k_plus_s_is_slot_s_of_wheel_k.Goals as goal

pub returns : goal.returns
returns c = list_is_slot
