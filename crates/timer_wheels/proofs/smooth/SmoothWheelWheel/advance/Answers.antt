use Rattle.std.proofs.Common.{◌-◌, ◌∙◌, ap, arith}
use Rattle.timer_base.proofs.TickLaws.{after_ticks-last, not_due}
use Rattle.timer_wheels.specs.Types.{WheelState}
use Rattle.timer_wheels.specs.smooth.Paces.{tick_bound}
use Rattle.timer_wheels.specs.smooth.SmoothWheel.{smooth_state, moves_of}
use Rattle.timer_wheels.proofs.smooth_lemmas.Leaps.{passing_pass, advance_stops, moves_more}
use Rattle.timer_wheels.proofs.smooth.SmoothWheelWheel.advance.Goals as goal

pub returns-then-has_due-clause-advances : goal.returns-then-has_due-clause-advances
returns-then-has_due-clause-advances g c =
    let w = c.loop-self.invariant in
    advance_stops c.args.most (smooth_state c.args.self.now) (smooth_state c.loop-self.self) (smooth_state c.pass.new.self) w.later w.passing
    c.pass.ensures.passes c.pass.ensures.end (c.has_due.ensures.0 c.if-has_due.true)

pub returns-then-has_due-clause-bound : goal.returns-then-has_due-clause-bound
returns-then-has_due-clause-bound g c =
    let w = c.loop-self.invariant in
    let old = c.args.self.now in
    let mid = c.loop-self.self in
    λ n h f. moves_more old.wheels.buckets.tick mid.wheels.buckets.tick c.pass.new.self.wheels.buckets.tick (moves_of old) (moves_of mid)
    (moves_of c.pass.new.self) (tick_bound n) w.later c.pass.ensures.passes.later (w.bound n h f)
    (c.pass.ensures.bound n (w.paced n h f))

pub returns-then-has_due-clause-paced : goal.returns-then-has_due-clause-paced
returns-then-has_due-clause-paced g c =
    let w = c.loop-self.invariant in
    λ n h f. c.pass.ensures.paced n (omega (arith, w.held, h)) (w.paced n h f)

pub loop-self-preserved : goal.loop-self-preserved
loop-self-preserved g c =
    let w = c.loop-self.invariant in
    let old = c.args.self.now in
    let mid = c.loop-self.self in
    let new = c.pass.new.self in
    let p = c.pass.ensures.passes in
    let a = p.later in
    record {
      later = omega (arith, w.later);
      at_most = c.pass.ensures.end;
      passing = passing_pass (smooth_state old) (smooth_state mid) (smooth_state new) w.later w.passing p
          (not_due (smooth_state new).due c.has_due.result c.has_due.ensures c.if-has_due.false);
      last_tick = (ap (λ (u : WheelState). u.last_tick) p.ticked
          ∙ after_ticks-last ((smooth_state new).now - (smooth_state mid).now) (smooth_state mid)) ∙ w.last_tick;
      held = c.pass.ensures.held ∙ w.held;
      bound = λ n h f. moves_more old.wheels.buckets.tick mid.wheels.buckets.tick new.wheels.buckets.tick (moves_of old) (moves_of mid)
          (moves_of new) (tick_bound n) w.later p.later (w.bound n h f)
          (c.pass.ensures.bound n (w.paced n h f));
      starts = c.pass.ensures.starts ∙ w.starts;
      counted = c.pass.ensures.counted ∙ w.counted;
      paced = λ n h f. c.pass.ensures.paced n (omega (arith, w.held, h)) (w.paced n h f);
    }
