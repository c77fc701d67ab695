use Rattle.std.proofs.Common.{◌≤◌, ◌≡◌, ◌⊎◌, subst, rules}
use Rattle.timer_facility.specs.Played.{ticks_left}
use Rattle.timer_facility.specs.State.{FacilityState}
use Rattle.timer_script.proofs.StepLemmas.{steps_none, steps_more, grown_join, cut_back}
use Rattle.timer_script.proofs.steps.play_steps.Goals as goal

pub loop-left-init : goal.loop-left-init
loop-left-init g c = steps_none _ (g.met.D.Decorator.is_lawful c.args.decorator.now) _ c.args.count _

pub loop-left-preserved : goal.loop-left-preserved
loop-left-preserved g c =
    let m : FacilityState = c.loop-left.session.player in
    let n = c.step_of-step.result in
    let here = c.facility.ensures.state in
    let now : m.now ≤ m.last =
    subst (λ (f : FacilityState). f.now ≤ f.last) here c.step_of-step.ensures.sound.now_in_range in
    let accepted : (n ≡ c.loop-left.left) ⊎ (n ≤ ticks_left m) =
    subst (λ f. (n ≡ c.loop-left.left) ⊎ (n ≤ ticks_left f)) here c.step_of-step.ensures.accepted in
    steps_more (g.met.D.Decorator.is_lawful c.args.decorator.now) _ n _ now (search rules) c.step_of-step.ensures.within accepted c.loop-left.invariant
    c.in-Ok.ensures.answer

pub returns-in_default-clause-nothing : goal.returns-in_default-clause-nothing
returns-in_default-clause-nothing g c = cut_back c.args.text.now.items c.play_step.new.text.items c.truncate.new.self.items
    (grown_join _ _ _ c.loop-left.invariant.kept c.play_step.ensures.kept) (search rules)
