use Rattle.std.proofs.Common.{◌≡◌, ◌<◌, ◌+◌, ℕ, length, ap, arith}
use Rattle.timer_wheels.specs.Types.{WheelState, list_at, Rows}
use Rattle.timer_wheels.specs.BucketLists.{slots_in}
use Rattle.timer_wheels.specs.smooth.Smooth.{slot_in, smooth_list}
use Rattle.timer_wheels.specs.Tables.{radices}
use Rattle.timer_wheels.specs.declared.table.Table.TheVariants.{Wide}
use Rattle.timer_wheels.proofs.smooth_lemmas.Wheels.{lists_in_range}
use Rattle.timer_wheels.proofs.smooth_lemmas.Totals.{heights_none}
use Rattle.timer_wheels.proofs.smooth.SmoothWheelWheel.clear.Goals as goal

pub invariant_of-self : goal.invariant_of-self
invariant_of-self g c =
    let w = c.args.self.now in
    let n = c.clear.new.self in
    let slots : n.buckets.slots ≡ w.wheels.buckets.slots = ap (λ (u : WheelState). slots_in u.layout) c.clear.ensures.cleared in
    let serial : n.buckets.last_serial ≡ w.wheels.buckets.last_serial = ap (λ (u : WheelState). u.last_serial) c.clear.ensures.cleared in
    let empty : (s : ℕ) → s < n.buckets.slots → length (list_at s n.buckets.links.lists) ≡ 0 =
    λ s l. ap (λ (r : Rows). length r) (c.clear.ensures.empty s (omega arith)) in
    record {
      in_time = λ k z l. omega (
        arith,
        empty (smooth_list (radices Wide) k (slot_in (radices Wide) k n.buckets.tick + 1))
            (rw n.wheels.has_slots (lists_in_range Wide k (slot_in (radices Wide) k n.buckets.tick + 1) l)),
      );
      few_starts = omega (arith, w.few_starts);
      paid = omega (
        arith,
        w.paid,
        heights_none (radices Wide) n.buckets.slots n.buckets.links.lists (λ s l. c.clear.ensures.empty s (omega arith)),
      );
    }
