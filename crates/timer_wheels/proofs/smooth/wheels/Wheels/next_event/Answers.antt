use Rattle.timer_wheels.specs.declared.table.Table.TheVariants.{Wide}
use Rattle.timer_wheels.proofs.smooth_lemmas.WakeUps.{events_rest}
use Rattle.timer_wheels.proofs.smooth.wheels.Wheels.next_event.Goals as goal

pub returns-then-is_in_present-clause-events : goal.returns-then-is_in_present-clause-events
returns-then-is_in_present-clause-events g c =
    let w = c.args.self.now in
    let i = c.loop-wheel.invariant in
    events_rest Wide w.buckets w.filled w.wheels c.loop-wheel.event c.loop-wheel.wheel c.requires.open i.above i.later
    (c.is_in_present.ensures c.if-is_in_present.true) i.events
