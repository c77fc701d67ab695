use Rattle.std.proofs.Common.{◌≡◌, ◌+◌, ◌<◌, ◌∙◌, length, sym, subst, arith}
use Rattle.std.specs.Prelude.{Some, slice_set}
use Rattle.timer_base.specs.WheelState.{first_due}
use Rattle.timer_c.specs.declared.layout.Expired.{Expired}
use Rattle.timer_c.proofs.Batches.{AreTaken, taken_none, taken_next}
use Rattle.timer_c.proofs.clock_exports.timers_expire_batch.Goals as goal

pub loop-count-init : goal.loop-count-init
loop-count-init c = record { taken = taken_none c.args.out.now c.in-Some.timers.now }

pub loop-count-preserved : goal.loop-count-preserved
loop-count-preserved c =
    let n = c.loop-count.count in let out = c.loop-count.out in let old = c.in-Some.timers.now in
    let test = c.loop-count-test.true in
    let room : n < length c.args.out.now = omega arith in
    let first : first_due c.loop-count.timers.wheel ≡ Some c.in-Some-expire.timer =
    sym c.expire.ensures.first ∙ c.in-Some-expire.is in
    let next = taken_next n c.args.out.now out old c.loop-count.timers c.expire.new.self c.in-Some-expire.timer
    c.loop-count.invariant.taken first room c.expire.ensures.rest in
    record {
      taken = subst (λ (e : Expired). AreTaken (n + 1) c.args.out.now old (slice_set out n e) c.expire.new.self)
          (sym c.to_c_expired.ensures) next;
    }
