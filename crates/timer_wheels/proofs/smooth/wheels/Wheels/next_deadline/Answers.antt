use Rattle.std.proofs.Common.{◌≡◌, length, arith, subst, ℕ}
use Rattle.timer_wheels.specs.smooth.WakeUps.{IsFoundBelow, IsPendingDeadline}
use Rattle.timer_wheels.specs.Tables.{radices}
use Rattle.timer_wheels.specs.declared.table.Table.TheVariants.{Wide}
use Rattle.timer_wheels.proofs.smooth_lemmas.Firsts.{found_none, found_rest, first_found}
use Rattle.timer_wheels.proofs.smooth.wheels.Wheels.next_deadline.Goals as goal

pub loop-wheel-init : goal.loop-wheel-init
loop-wheel-init g c =
    let w = c.args.self.now in
    record { most = omega arith; found = found_none Wide w.buckets w.filled w.wheels (IsPendingDeadline w.buckets) }

pub returns-then-is_settled : goal.returns-then-is_settled
returns-then-is_settled g c =
    let w = c.args.self.now in
    first_found Wide w.buckets w.filled w.wheels c.loop-wheel.first
    (found_rest Wide w.buckets w.filled w.wheels (IsPendingDeadline w.buckets) c.loop-wheel.wheel c.loop-wheel.first
    c.loop-wheel.invariant.found (c.is_settled.ensures c.if-is_settled.true))

pub returns : goal.returns
returns g c =
    let w = c.args.self.now in
    let e : c.loop-wheel.wheel ≡ length (radices Wide) =
    omega (arith, c.wheel_count-count.ensures.value, c.loop-wheel.invariant.most, c.loop-wheel-test.false) in
    first_found Wide w.buckets w.filled w.wheels c.loop-wheel.first
    (subst (λ (x : ℕ). IsFoundBelow (IsPendingDeadline w.buckets) Wide w.buckets x c.loop-wheel.first) e c.loop-wheel.invariant.found)
