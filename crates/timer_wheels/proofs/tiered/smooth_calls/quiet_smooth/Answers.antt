use Rattle.std.proofs.Common.{◌≡◌, ℕ, ◌∙◌, sym, subst, Option, Some}
use Rattle.timer_base.specs.WakeUps.{IsQuietUntil}
use Rattle.timer_wheels.specs.smooth.SmoothWheel.{smooth_state, smooth-well_formed}
use Rattle.timer_wheels.specs.TieredWheel.{option_of}
use Rattle.timer_wheels.proofs.TieredLemmas.{some_tick, wake_in_clock}
use Rattle.timer_wheels.proofs.tiered.smooth_calls.quiet_smooth.Goals as goal

pub returns-in-Some-clause-quiet : goal.returns-in-Some-clause-quiet
returns-in-Some-clause-quiet g c =
    let w = smooth_state c.args.wheel.now in
    let some : option_of c.in-Some.tick ≡ Some c.in-Some.tick =
    some_tick c.in-Some.tick (wake_in_clock w c.in-Some.tick (smooth-well_formed c.args.wheel.now) c.in-Some.ensures.quiet) in
    subst (λ (o : Option ℕ). IsQuietUntil o w.now w.pending) (sym some) c.in-Some.ensures.quiet

pub returns-in-Some-clause-exact : goal.returns-in-Some-clause-exact
returns-in-Some-clause-exact g c =
    let w = smooth_state c.args.wheel.now in
    some_tick c.in-Some.tick (wake_in_clock w c.in-Some.tick (smooth-well_formed c.args.wheel.now) c.in-Some.ensures.quiet)
    ∙ c.in-Some.ensures.wakes
