use Rattle.std.proofs.Common.{◌+◌, refl, arith}
use Rattle.timer_base.specs.WheelState.{after_removal}
use Rattle.timer_wheels.specs.Buckets.{state_of}
use Rattle.timer_wheels.specs.Tables.{radices}
use Rattle.timer_wheels.proofs.hier_lemmas.Invariant.{levels-without, paid_at, paid_start, few_starts}
use Rattle.timer_wheels.proofs.table_lemmas.TableLaws.{of_table}
use Rattle.timer_wheels.proofs.hier.HierWheelWheel.restart.Goals as goal

pub invariant_of-self-2-clause-few_starts : goal.invariant_of-self-2-clause-few_starts
invariant_of-self-2-clause-few_starts g c =
    let w = c.args.self.now in
    few_starts w.wheels.buckets c.restart.new.self.buckets c.in_ok-restarted.restarted.0.place w.counts.starts c.args.timer
    (after_removal c.args.handle (state_of w.wheels.buckets)) w.few_starts c.requires.fresh
    c.in_ok-restarted.ensures.restarted

pub invariant_of-self-2-clause-paid : goal.invariant_of-self-2-clause-paid
invariant_of-self-2-clause-paid g c =
    let w = c.args.self.now in
    let b = w.wheels.buckets in
    let n = c.restart.new.self in
    let t = radices w.wheels.table in
    paid_at (w.counts.starts + 1) w.counts.moves n.buckets w.wheels.table n.table c.restart.ensures.table
    (paid_start t b n.buckets w.counts.starts w.counts.moves w.paid c.in_ok-restarted.restarted.0.place c.args.timer
    (after_removal c.args.handle (state_of b)) (levels-without t b.tick c.args.handle (state_of b).pending) refl
    (of_table w.wheels.table) c.requires.not_past (omega (arith, w.wheels.hier.clock, c.requires.deadline)) c.in_ok-restarted.ensures.restarted)
