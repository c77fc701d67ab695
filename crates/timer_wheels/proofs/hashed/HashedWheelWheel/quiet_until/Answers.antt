use Rattle.timer_wheels.specs.Buckets.{state_of, state_of-well_formed}
use Rattle.timer_wheels.proofs.hashed_lemmas.ExactWakeUps.{earliest_sweep_is}
use Rattle.timer_wheels.proofs.hashed.HashedWheelWheel.quiet_until.Goals as goal

pub returns-clause-exact : goal.returns-clause-exact
returns-clause-exact c =
    let w = c.args.self.now in
    let e = c.next_sweep in
    earliest_sweep_is w.buckets.slots (state_of w.buckets) e.result w.has_slots (state_of-well_formed w.buckets).each e.ensures.quiet
    e.ensures.next
