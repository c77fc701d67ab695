use Rattle.std.proofs.Common.{◌≡◌, ◌-◌, ◌∙◌, arith}
use Rattle.timer_base.proofs.TickLaws.{nothing_due}
use Rattle.timer_base.specs.WheelState.{held_count}
use Rattle.timer_wheels.specs.smooth.SmoothWheel.{smooth_state}
use Rattle.timer_wheels.proofs.smooth_lemmas.Leaps.{leap_and_tick, held_ticked}
use Rattle.timer_wheels.proofs.smooth.SmoothWheel.pass.Goals as goal

pub returns-clause-passes : goal.returns-clause-passes
returns-clause-passes g c = leap_and_tick (smooth_state c.args.self.now) (smooth_state c.leap.new.self) (smooth_state c.per_tick.new.self)
    c.leap.ensures.later c.leap.ensures.passing c.per_tick.ensures.ticked

pub returns-clause-held : goal.returns-clause-held
returns-clause-held g c =
    let old = smooth_state c.args.self.now in
    let mid = smooth_state c.leap.new.self in
    held_ticked mid (smooth_state c.per_tick.new.self) (nothing_due (mid.now - old.now) old mid c.leap.ensures.passing) c.per_tick.ensures.ticked
    ∙ c.leap.ensures.held

pub returns-clause-bound : goal.returns-clause-bound
returns-clause-bound g c = λ n f. omega (arith, c.per_tick.ensures.bound n (c.leap.ensures.paced n f), c.leap.ensures.moves)

pub returns-clause-paced : goal.returns-clause-paced
returns-clause-paced g c =
    let old = smooth_state c.args.self.now in
    let mid = smooth_state c.leap.new.self in
    let held : held_count (smooth_state c.per_tick.new.self) ≡ held_count old =
    held_ticked mid (smooth_state c.per_tick.new.self) (nothing_due (mid.now - old.now) old mid c.leap.ensures.passing) c.per_tick.ensures.ticked
    ∙ c.leap.ensures.held in
    λ n h f. c.per_tick.ensures.paced n (omega (arith, held, h)) (c.leap.ensures.paced n f)
