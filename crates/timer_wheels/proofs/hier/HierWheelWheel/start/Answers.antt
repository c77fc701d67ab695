use Rattle.std.proofs.Common.{◌+◌, refl, arith}
use Rattle.timer_wheels.specs.Buckets.{state_of}
use Rattle.timer_wheels.specs.Tables.{radices}
use Rattle.timer_wheels.proofs.hier_lemmas.Invariant.{paid_at, paid_start, few_starts}
use Rattle.timer_wheels.proofs.table_lemmas.TableLaws.{of_table}
use Rattle.timer_wheels.proofs.hier.HierWheelWheel.start.Goals as goal

pub invariant_of-self-2-clause-few_starts : goal.invariant_of-self-2-clause-few_starts
invariant_of-self-2-clause-few_starts g c =
    let w = c.args.self.now in
    few_starts w.wheels.buckets c.start.new.self.buckets c.in_ok-handle.handle.place w.counts.starts c.args.timer
    (state_of w.wheels.buckets) w.few_starts c.requires.fresh
    c.in_ok-handle.ensures.started

pub invariant_of-self-2-clause-paid : goal.invariant_of-self-2-clause-paid
invariant_of-self-2-clause-paid g c =
    let w = c.args.self.now in
    let b = w.wheels.buckets in
    let n = c.start.new.self in
    let t = radices w.wheels.table in
    paid_at (w.counts.starts + 1) w.counts.moves n.buckets w.wheels.table n.table c.start.ensures.table
    (paid_start t b n.buckets w.counts.starts w.counts.moves w.paid c.in_ok-handle.handle.place c.args.timer (state_of b) (omega arith) refl
    (of_table w.wheels.table) c.requires.not_past (omega (arith, w.wheels.hier.clock, c.requires.deadline)) c.in_ok-handle.ensures.started)
