use Rattle.timer_wheels.specs.declared.table.Table.TheVariants.{Wide}
use Rattle.timer_wheels.proofs.smooth_lemmas.PaceSums.{few_wheels}
use Rattle.timer_wheels.proofs.smooth.early_moves.move_next.Goals as goal

pub at-pace-requires : goal.at-pace-requires
at-pace-requires g c = few_wheels Wide c.args.wheel c.requires.wheel

pub set-requires-clause-wheel : goal.set-requires-clause-wheel
set-requires-clause-wheel g c = few_wheels Wide c.args.wheel c.requires.wheel
