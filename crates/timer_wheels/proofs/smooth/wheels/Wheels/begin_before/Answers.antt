use Rattle.std.proofs.Common.{◌+◌, ◌*◌, ℕ, sym, ap, ◌∙◌, subst, Option, Some}
use Rattle.timer_base.specs.PlainState.{earliest}
use Rattle.timer_wheels.specs.smooth.WakeUps.{IsFoundBelow, IsBegin}
use Rattle.timer_wheels.specs.declared.table.Table.TheVariants.{Wide}
use Rattle.timer_wheels.proofs.smooth_lemmas.Firsts.{found_without, found_begin}
use Rattle.timer_wheels.proofs.smooth.wheels.Wheels.begin_before.Goals as goal

pub returns-in-Some : goal.returns-in-Some
returns-in-Some g c =
    let w = c.args.self.now in
    subst (λ (o : Option ℕ). IsFoundBelow (IsBegin Wide w.buckets) Wide w.buckets (c.args.wheel + 1) o)
    (sym (c.earlier.ensures ∙ ap (λ (x : ℕ). earliest c.args.first (Some (c.in-Some.slot * x))) c.weight_of.ensures))
    (found_begin Wide w.buckets w.filled w.wheels c.args.wheel c.in-Some.slot c.args.first c.requires.wheel c.requires.below
    c.in-Some.ensures.first c.in-Some.ensures.begins)

pub returns-in-None : goal.returns-in-None
returns-in-None g c =
    let w = c.args.self.now in
    found_without Wide w.buckets w.filled w.wheels (IsBegin Wide w.buckets) c.args.wheel c.args.first c.requires.wheel c.requires.below
    c.in-None.ensures.first
