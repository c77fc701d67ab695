use Rattle.std.proofs.Common.{◌∙◌, ap, arith, length}
use Rattle.timer_links.specs.Lists.{Rows}
use Rattle.timer_wheels.specs.BucketLists.{AreBuckets, EachRow}
use Rattle.timer_wheels.specs.Occupied.{AreMarked}
use Rattle.timer_wheels.specs.smooth.Smooth.{mark, IsByLaw}
use Rattle.timer_wheels.specs.Tables.{radices}
use Rattle.timer_wheels.specs.declared.table.Table.TheVariants.{Wide}
use Rattle.timer_wheels.proofs.smooth_lemmas.Wheels.{same_placed}
use Rattle.timer_wheels.proofs.smooth_lemmas.NextBuckets.{all_shrink, potential_falls}
use Rattle.timer_wheels.proofs.bucket_lemmas.OccupiedLemmas.{marked_same}
use Rattle.timer_wheels.proofs.bucket_lemmas.OrderedLists.{ordered-same}
use Rattle.timer_wheels.proofs.smooth.wheels.Wheels.expire.Goals as goal

pub invariant_of-self : goal.invariant_of-self
invariant_of-self g c =
    let w = c.args.self.now in
    let b = w.buckets in
    let new = c.expire.new.self in
    let f = c.expire.ensures.frame in
    let sound : AreBuckets b.slots b.last_tick b.tick new.last_serial new.links.lists = rw (← f.slots, ← f.last_tick, ← f.tick) new.sound in
    let placed : EachRow (IsByLaw (radices Wide) b.tick (mark (radices Wide) b.tick new.links.lists)) b.slots new.links.lists =
    same_placed Wide b w.filled w.wheels new.last_serial new.links.lists sound c.expire.ensures.lists in
    let marked : AreMarked b.slots w.filled new.links.lists =
    marked_same b.slots w.filled b.links.lists new.links.lists c.expire.ensures.lists w.wheels.marked in
    record {
      wheels = record {
        has_slots = f.slots ∙ w.wheels.has_slots;
        clock = f.last_tick ∙ w.wheels.clock;
        placed = rw (f.tick, f.slots) placed;
        in_order = rw f.slots (ordered-same b.slots b.links.lists new.links.lists c.expire.ensures.lists w.wheels.in_order);
        marked = rw f.slots marked;
      };
    }

pub returns-clause-shrinks : goal.returns-clause-shrinks
returns-clause-shrinks g c =
    let w = c.args.self.now in
    all_shrink Wide w.buckets w.filled w.wheels c.expire.new.self c.expire.ensures.frame
    (λ s l. omega (arith, ap (λ (r : Rows). length r) (c.expire.ensures.lists s l)))

pub returns-clause-falls : goal.returns-clause-falls
returns-clause-falls g c =
    let w = c.args.self.now in
    potential_falls Wide w.buckets w.filled w.wheels c.expire.new.self c.expire.ensures.frame
    (λ s l. omega (arith, ap (λ (r : Rows). length r) (c.expire.ensures.lists s l)))
