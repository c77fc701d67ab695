use Rattle.std.proofs.Common.{◌≡◌, ◌*◌, ℕ, sym, ap, ◌∙◌}
use Rattle.timer_wheels.specs.Digits.{weight, level}
use Rattle.timer_wheels.specs.smooth.Smooth.{slot_in}
use Rattle.timer_wheels.specs.Tables.{radices}
use Rattle.timer_wheels.specs.WakeUps.{next_visit}
use Rattle.timer_wheels.specs.declared.table.Table.TheVariants.{Wide}
use Rattle.timer_wheels.proofs.smooth_lemmas.Firsts.{none_visited, visit_is, visit_wakes}
use Rattle.timer_wheels.proofs.smooth.wheels.Wheels.next_visit.Goals as goal

pub returns-in-None-clause-quiet : goal.returns-in-None-clause-quiet
returns-in-None-clause-quiet g c =
    let w = c.args.self.now in
    none_visited Wide w.buckets w.filled w.wheels c.in-None.ensures

pub returns-in-None-clause-exact : goal.returns-in-None-clause-exact
returns-in-None-clause-exact g c =
    let w = c.args.self.now in
    sym (ap (next_visit (radices Wide) w.buckets.tick) (none_visited Wide w.buckets w.filled w.wheels c.in-None.ensures))

pub returns-in-Some-clause-quiet : goal.returns-in-Some-clause-quiet
returns-in-Some-clause-quiet g c =
    let w = c.args.self.now in
    let b = c.in-Some.begins in
    let e : c.slot_of.result * c.weight_of.result ≡ slot_in (radices Wide) (level (radices Wide) w.buckets.tick b) b
    * weight (level (radices Wide) w.buckets.tick b) (radices Wide) =
    ap (λ (x : ℕ). x * c.weight_of.result) c.slot_of.ensures
    ∙ (ap (λ (x : ℕ). slot_in (radices Wide) c.level_of-level.result b * x) c.weight_of.ensures
    ∙ ap (λ (x : ℕ). slot_in (radices Wide) x b * weight x (radices Wide)) c.level_of-level.ensures.value) in
    visit_wakes Wide w.buckets w.filled w.wheels b c.in-Some.ensures (c.slot_of.result * c.weight_of.result) e

pub returns-in-Some-clause-exact : goal.returns-in-Some-clause-exact
returns-in-Some-clause-exact g c =
    let w = c.args.self.now in
    let b = c.in-Some.begins in
    let e : c.slot_of.result * c.weight_of.result ≡ slot_in (radices Wide) (level (radices Wide) w.buckets.tick b) b
    * weight (level (radices Wide) w.buckets.tick b) (radices Wide) =
    ap (λ (x : ℕ). x * c.weight_of.result) c.slot_of.ensures
    ∙ (ap (λ (x : ℕ). slot_in (radices Wide) c.level_of-level.result b * x) c.weight_of.ensures
    ∙ ap (λ (x : ℕ). slot_in (radices Wide) x b * weight x (radices Wide)) c.level_of-level.ensures.value) in
    visit_is Wide w.buckets w.filled w.wheels b c.in-Some.ensures (c.slot_of.result * c.weight_of.result) e
