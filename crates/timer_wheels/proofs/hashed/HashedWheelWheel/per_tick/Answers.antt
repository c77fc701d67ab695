use Rattle.std.proofs.Common.{◌≡◌, ◌+◌, ◌%◌, ℕ, sym, ◌∙◌, ap}
use Rattle.timer_wheels.proofs.hashed_lemmas.Ticks.{next_slot}
use Rattle.timer_wheels.proofs.hashed.HashedWheelWheel.per_tick.Goals as goal

pub sweep_tick-requires-clause-slot : goal.sweep_tick-requires-clause-slot
sweep_tick-requires-clause-slot c =
    let w = c.args.self.now in
    next_slot w.buckets.slots w.buckets.tick w.slot c.slot_after-slot.result w.at_tick c.slot_after-slot.ensures

-- another name for the number of slots and the tick
slot_at : (n tick m next slot : ℕ) → m ≡ n → next ≡ tick + 1 → slot ≡ (tick + 1) % n → slot ≡ next % m
slot_at n tick m next slot e f s = s ∙ (ap (λ (k : ℕ). k % n) (sym f) ∙ ap (λ (k : ℕ). next % k) (sym e))

pub invariant_of-self-clause-at_tick : goal.invariant_of-self-clause-at_tick
invariant_of-self-clause-at_tick c =
    let w = c.args.self.now in
    slot_at w.buckets.slots w.buckets.tick c.sweep_tick.new.buckets.slots c.sweep_tick.new.buckets.tick c.slot_after-slot.result
    c.sweep_tick.ensures.slots c.sweep_tick.ensures.tick (next_slot w.buckets.slots w.buckets.tick w.slot c.slot_after-slot.result
    w.at_tick c.slot_after-slot.ensures)

pub invariant_of-self-clause-in_buckets : goal.invariant_of-self-clause-in_buckets
invariant_of-self-clause-in_buckets c = c.sweep_tick.ensures.in_buckets

pub invariant_of-self-clause-in_order : goal.invariant_of-self-clause-in_order
invariant_of-self-clause-in_order c = c.sweep_tick.ensures.in_order
