use Rattle.std.proofs.Common.{ap}
use Rattle.timer_base.specs.WheelState.{WheelState}
use Rattle.timer_wheels.specs.Tables.{radices}
use Rattle.timer_wheels.proofs.hier_lemmas.Invariant.{paid_at, paid_without}
use Rattle.timer_wheels.proofs.hier.HierWheelWheel.stop.Goals as goal

pub invariant_of-self-clause-paid : goal.invariant_of-self-clause-paid
invariant_of-self-clause-paid g c =
    let w = c.args.self.now in
    let n = c.stop.new.self in
    paid_at w.counts.starts w.counts.moves n.buckets w.wheels.table n.table c.stop.ensures.table
    (paid_without (radices w.wheels.table) w.wheels.buckets n.buckets w.counts.starts w.counts.moves w.paid c.args.handle
    (ap (λ (v : WheelState). v.now) c.stop.ensures.stopped) (ap (λ (v : WheelState). v.pending) c.stop.ensures.stopped))
