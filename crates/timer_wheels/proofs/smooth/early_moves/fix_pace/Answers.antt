use Rattle.timer_wheels.specs.declared.table.Table.TheVariants.{Wide}
use Rattle.timer_wheels.proofs.smooth_lemmas.PaceSums.{few_wheels}
use Rattle.timer_wheels.proofs.smooth.early_moves.fix_pace.Goals as goal

pub set-requires-clause-wheel : goal.set-requires-clause-wheel
set-requires-clause-wheel g c = few_wheels Wide c.args.wheel c.requires.wheel
