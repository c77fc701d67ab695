use Rattle.std.proofs.Common.{◌≡◌, ◌+◌, ◌*◌, ℕ, sym, subst, arith, Option}
use Rattle.timer_links.specs.Lists.{list_at}
use Rattle.timer_wheels.specs.BucketLists.{row_timers}
use Rattle.timer_wheels.specs.FirstDeadline.{IsLeastDeadline}
use Rattle.timer_wheels.specs.Digits.{weight}
use Rattle.timer_wheels.specs.smooth.WakeUps.{IsFoundBelow, IsPendingDeadline, IsFirstFilledSlot, IsNotBefore}
use Rattle.timer_wheels.specs.smooth.Smooth.{smooth_list}
use Rattle.timer_wheels.specs.Tables.{radices}
use Rattle.timer_wheels.specs.declared.table.Table.TheVariants.{Wide}
use Rattle.timer_wheels.proofs.smooth_lemmas.Firsts.{found_without, found_low, found_high, found_skip}
use Rattle.timer_wheels.proofs.smooth.wheels.Wheels.deadline_before.Goals as goal

pub returns-in_default : goal.returns-in_default
returns-in_default g c =
    let w = c.args.self.now in
    found_without Wide w.buckets w.filled w.wheels (IsPendingDeadline w.buckets) c.args.wheel c.args.first c.requires.wheel c.requires.below
    c.in_default.ensures.first

pub returns-then-wheel-eq0 : goal.returns-then-wheel-eq0
returns-then-wheel-eq0 g c =
    let w = c.args.self.now in
    let z : 0 ≡ c.args.wheel = (let e = c.if-wheel-eq0.true in omega arith) in
    let at : IsFoundBelow (IsPendingDeadline w.buckets) Wide w.buckets 0 c.args.first =
    subst (λ (x : ℕ). IsFoundBelow (IsPendingDeadline w.buckets) Wide w.buckets x c.args.first) (sym z) c.requires.below in
    let f : IsFirstFilledSlot (radices Wide) w.buckets.tick 0 w.buckets.links.lists c.in-Some.slot =
    subst (λ (x : ℕ). IsFirstFilledSlot (radices Wide) w.buckets.tick x w.buckets.links.lists c.in-Some.slot) (sym z) c.in-Some.ensures.first in
    subst (λ (x : ℕ). IsFoundBelow (IsPendingDeadline w.buckets) Wide w.buckets (x + 1) c.earlier.result) z
    (subst (λ (o : Option ℕ). IsFoundBelow (IsPendingDeadline w.buckets) Wide w.buckets 1 o) (sym c.earlier.ensures)
    (found_low Wide w.buckets w.filled w.wheels c.in-Some.slot c.args.first at f))

pub returns-then-is_after : goal.returns-then-is_after
returns-then-is_after g c =
    let w = c.args.self.now in
    let least : IsLeastDeadline c.least_in.result (row_timers (list_at (smooth_list (radices Wide) c.args.wheel c.in-Some.slot) w.buckets.links.lists)) =
    subst (λ (x : ℕ). IsLeastDeadline c.least_in.result (row_timers (list_at x w.buckets.links.lists))) c.list_of_slot.ensures.value
    c.least_in.ensures in
    subst (λ (o : Option ℕ). IsFoundBelow (IsPendingDeadline w.buckets) Wide w.buckets (c.args.wheel + 1) o) (sym c.earlier-then-is_after.ensures)
    (found_high Wide w.buckets w.filled w.wheels c.args.wheel c.in-Some.slot c.args.first c.least_in.result c.requires.wheel c.requires.below
    c.in-Some.ensures.first least)

pub returns-else-is_after : goal.returns-else-is_after
returns-else-is_after g c =
    let w = c.args.self.now in
    let n : IsNotBefore c.args.first (c.in-Some.slot * c.weight_of.result) = c.is_after.ensures c.if-is_after.false in
    let n2 : IsNotBefore c.args.first (c.in-Some.slot * weight c.args.wheel (radices Wide)) =
    subst (λ (x : ℕ). IsNotBefore c.args.first (c.in-Some.slot * x)) c.weight_of.ensures n in
    found_skip Wide w.buckets w.filled w.wheels (IsPendingDeadline w.buckets) c.args.wheel c.in-Some.slot c.args.first c.requires.wheel
    c.requires.below c.in-Some.ensures.first n2
