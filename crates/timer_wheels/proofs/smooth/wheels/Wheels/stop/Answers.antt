use Rattle.std.proofs.Common.{◌≡◌, sym, ◌∙◌, ap, arith, map, length, Some}
use Rattle.timer_base.specs.WheelState.{held_at}
use Rattle.timer_links.specs.Lists.{list_at, without_key, KeyedLists}
use Rattle.timer_wheels.specs.BucketLists.{AreBuckets}
use Rattle.timer_wheels.specs.Buckets.{state_of, taken_timer}
use Rattle.timer_wheels.specs.declared.table.Table.TheVariants.{Wide}
use Rattle.timer_wheels.proofs.smooth_lemmas.NextBuckets.{all_shrink, potential_falls, without_shorter}
use Rattle.timer_wheels.proofs.smooth_lemmas.Removals.{stopped_placed, stopped_marked}
use Rattle.timer_wheels.proofs.bucket_lemmas.OrderedLists.{ordered-without_key}
use Rattle.timer_wheels.proofs.smooth_lemmas.Descent.{few_lists}
use Rattle.timer_wheels.proofs.smooth.wheels.Wheels.stop.Goals as goal

pub leave-requires : goal.leave-requires
leave-requires g c = omega (arith, c.take.ensures.frame.slots, c.args.self.now.wheels.has_slots, few_lists Wide)

pub invariant_of-self-2 : goal.invariant_of-self-2
invariant_of-self-2 g c =
    let w = c.args.self.now in
    let b = w.buckets in
    let handle = c.args.handle in
    let timer = c.in_ok-timer.timer in
    let new = c.take.new.self in
    let f = c.take.ensures.frame in
    let e = c.in_ok-timer.ensures.lists in
    let found : held_at handle (state_of b) ≡ Some timer = sym c.take.ensures.timer ∙ ap taken_timer c.in_ok-timer.was in
    let sound : AreBuckets b.slots b.last_tick b.tick new.last_serial (map (without_key handle.place) b.links.lists) =
    rw (← f.slots, ← f.last_tick, ← f.tick, ← e) new.sound in
    let placed = stopped_placed Wide b w.filled w.wheels handle new.last_serial sound in
    let marked = stopped_marked Wide b w.filled w.wheels handle c.lemma_keys_unique.ensures timer found c.in_ok-timer.emptied
    c.in_ok-timer.ensures.emptied c.leave.new.filled (rw (← f.slots) c.leave.ensures) in
    record {
      wheels = record {
        has_slots = f.slots ∙ w.wheels.has_slots;
        clock = f.last_tick ∙ w.wheels.clock;
        placed = rw (f.tick, f.slots, e) placed;
        in_order = rw (f.slots, e) (ordered-without_key b.slots handle.place b.links.lists w.wheels.in_order);
        marked = rw (f.slots, e) marked;
      };
    }

pub returns-clause-shrinks : goal.returns-clause-shrinks
returns-clause-shrinks g c =
    let w = c.args.self.now in
    all_shrink Wide w.buckets w.filled w.wheels c.take.new.self c.take.ensures.frame
    (λ s l. omega (
      arith,
      ap (λ (x : KeyedLists). length (list_at s x)) c.in_ok-timer.ensures.lists,
      without_shorter c.args.handle.place s w.buckets.links.lists,
    ))

pub returns-clause-falls : goal.returns-clause-falls
returns-clause-falls g c =
    let w = c.args.self.now in
    potential_falls Wide w.buckets w.filled w.wheels c.take.new.self c.take.ensures.frame
    (λ s l. omega (
      arith,
      ap (λ (x : KeyedLists). length (list_at s x)) c.in_ok-timer.ensures.lists,
      without_shorter c.args.handle.place s w.buckets.links.lists,
    ))
