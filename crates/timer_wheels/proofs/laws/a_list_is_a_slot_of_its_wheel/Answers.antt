use Rattle.timer_wheels.proofs.table_lemmas.SlotLaws.{list_by_slot}
use Rattle.timer_wheels.proofs.laws.a_list_is_a_slot_of_its_wheel.Goals as goal

pub returns : goal.returns
returns c = list_by_slot
