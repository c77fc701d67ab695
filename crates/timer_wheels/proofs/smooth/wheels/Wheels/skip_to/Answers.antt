use Rattle.timer_links.specs.Lists.{list_at}
use Rattle.timer_wheels.specs.declared.table.Table.TheVariants.{Wide}
use Rattle.timer_wheels.proofs.bucket_lemmas.Calls.{no_rows}
use Rattle.timer_wheels.proofs.smooth_lemmas.Skips.{skip_sound, skip_by_law}
use Rattle.timer_wheels.proofs.smooth.wheels.Wheels.skip_to.Goals as goal

pub invariant_of-buckets : goal.invariant_of-buckets
invariant_of-buckets g c =
    let w = c.args.self.now in
    record { sound = skip_sound Wide w.buckets w.filled w.wheels c.args.tick c.requires.later c.requires.in_range (no_rows (list_at w.buckets.slots w.buckets.links.lists) c.requires.nothing_due) c.requires.ahead }

pub invariant_of-self : goal.invariant_of-self
invariant_of-self g c =
    let w = c.args.self.now in
    record {
      wheels = record {
        has_slots = w.wheels.has_slots;
        clock = w.wheels.clock;
        placed = skip_by_law Wide w.buckets w.filled w.wheels c.args.tick c.requires.later c.requires.in_range (no_rows (list_at w.buckets.slots w.buckets.links.lists) c.requires.nothing_due) c.requires.ahead;
        in_order = w.wheels.in_order;
        marked = w.wheels.marked;
      };
    }
