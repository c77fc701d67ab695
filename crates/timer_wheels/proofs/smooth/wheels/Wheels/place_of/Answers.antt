use Rattle.timer_wheels.specs.declared.table.Table.TheVariants.{Wide}
use Rattle.timer_wheels.proofs.smooth_lemmas.NextBuckets.{next_of_due}
use Rattle.timer_wheels.proofs.smooth.wheels.Wheels.place_of.Goals as goal

pub returns-then-deadline-self-clause-next : goal.returns-then-deadline-self-clause-next
returns-then-deadline-self-clause-next g c =
    let w = c.args.self.now in
    next_of_due Wide w.buckets w.filled w.wheels
