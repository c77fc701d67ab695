use Rattle.std.proofs.Common.{◌-◌, ◌∙◌, ap, arith}
use Rattle.timer_base.proofs.TickLaws.{after_ticks-last, not_due}
use Rattle.timer_wheels.specs.Types.{WheelState}
use Rattle.timer_wheels.specs.Buckets.{state_of}
use Rattle.timer_wheels.proofs.smooth_lemmas.Leaps.{passing_pass, advance_stops}
use Rattle.timer_wheels.proofs.lazy.files.Files.advance_far.Goals as goal

pub returns-then-has_due-clause-advances : goal.returns-then-has_due-clause-advances
returns-then-has_due-clause-advances g c =
    let w = c.loop-self.invariant in
    advance_stops c.args.most (state_of c.args.self.now.buckets) (state_of c.loop-self.self.buckets) (state_of c.pass.new.self.buckets) w.later
    w.passing c.pass.ensures.passes c.pass.ensures.end (c.has_due.ensures.0 c.if-has_due.true)

pub loop-self-preserved : goal.loop-self-preserved
loop-self-preserved g c =
    let w = c.loop-self.invariant in
    let old = state_of c.args.self.now.buckets in
    let mid = state_of c.loop-self.self.buckets in
    let new = state_of c.pass.new.self.buckets in
    let p = c.pass.ensures.passes in
    let a = p.later in
    record {
      later = omega (arith, w.later);
      at_most = c.pass.ensures.end;
      passing = passing_pass old mid new w.later w.passing p (not_due new.due c.has_due.result c.has_due.ensures c.if-has_due.false);
      last_tick = (ap (λ (u : WheelState). u.last_tick) p.ticked ∙ after_ticks-last (new.now - mid.now) mid) ∙ w.last_tick;
      starts = c.pass.ensures.starts ∙ w.starts;
      counted = omega (arith, c.pass.ensures.counted, w.counted);
      table = c.pass.ensures.table ∙ w.table;
    }
