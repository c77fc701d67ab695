use Rattle.std.proofs.Common.{◌≡◌, ◌<◌, sym, ◌∙◌, ap, arith, Some}
use Rattle.timer_base.specs.WheelState.{held_at}
use Rattle.timer_wheels.specs.Buckets.{state_of, taken_timer}
use Rattle.timer_wheels.specs.hier.Placement.{IsPlaced}
use Rattle.timer_wheels.specs.Tables.{radices}
use Rattle.timer_wheels.specs.declared.table.TheConstants.{MOST_BUCKETS}
use Rattle.timer_wheels.proofs.bucket_lemmas.BitLemmas.{of_emptied, left_marked}
use Rattle.timer_wheels.proofs.bucket_lemmas.Calls.{each-without_key}
use Rattle.timer_wheels.proofs.bucket_lemmas.OrderedLists.{ordered-without_key}
use Rattle.timer_wheels.proofs.bucket_lemmas.WheelUpdates.{in_word_of}
use Rattle.timer_wheels.proofs.hier.wheels.Wheels.stop.Goals as goal

pub leave-requires : goal.leave-requires
leave-requires g c =
    let w = c.args.self.now in
    let b = w.buckets in
    let found : held_at c.args.handle (state_of b) ≡ Some c.in_ok-timer.timer = sym c.take.ensures.timer ∙ ap taken_timer c.in_ok-timer.was in
    rw c.take.ensures.frame.slots (of_emptied b.sound c.args.handle c.lemma_keys_unique.ensures c.in_ok-timer.timer found c.in_ok-timer.emptied
    c.in_ok-timer.ensures.emptied (λ l. l < b.slots → l < MOST_BUCKETS) (λ l front row rest k at m. in_word_of w.hier l m))

pub invariant_of-self-2 : goal.invariant_of-self-2
invariant_of-self-2 g c =
    let w = c.args.self.now in
    let b = w.buckets in
    let handle = c.args.handle in
    let f = c.take.ensures.frame in
    let e = c.in_ok-timer.ensures.lists in
    let found : held_at handle (state_of b) ≡ Some c.in_ok-timer.timer = sym c.take.ensures.timer ∙ ap taken_timer c.in_ok-timer.was in
    let marked = left_marked b.sound handle c.lemma_keys_unique.ensures c.in_ok-timer.timer found c.in_ok-timer.emptied
    c.in_ok-timer.ensures.emptied b.slots (omega arith) (λ l front row rest k at m. m) w.occupied c.leave.new.occupied w.hier.marked
    (rw (← f.slots) c.leave.ensures) in
    record {
      hier = record {
        has_slots = f.slots ∙ w.hier.has_slots;
        clock = f.last_tick ∙ w.hier.clock;
        placed = rw (f.tick, f.slots, e) (each-without_key (IsPlaced (radices w.table) b.tick) b.slots handle.place b.links.lists w.hier.placed);
        in_order = rw (f.slots, e) (ordered-without_key b.slots handle.place b.links.lists w.hier.in_order);
        marked = rw (f.slots, e) marked;
      };
    }
