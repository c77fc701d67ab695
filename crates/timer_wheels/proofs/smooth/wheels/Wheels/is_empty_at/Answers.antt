use Rattle.timer_wheels.specs.declared.table.Table.TheVariants.{Wide}
use Rattle.timer_wheels.proofs.table_lemmas.TableLaws.{of_table}
use Rattle.timer_wheels.proofs.smooth.wheels.Wheels.is_empty_at.Goals as goal

pub list_of_slot-requires : goal.list_of_slot-requires
list_of_slot-requires g c = (of_table Wide).more_wheels
