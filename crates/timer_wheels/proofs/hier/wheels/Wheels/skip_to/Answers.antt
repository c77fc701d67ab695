use Rattle.timer_links.specs.Lists.{list_at}
use Rattle.timer_wheels.proofs.hier_lemmas.Leaps.{skipped}
use Rattle.timer_wheels.proofs.bucket_lemmas.Calls.{none_past}
use Rattle.timer_wheels.proofs.hier.wheels.Wheels.skip_to.Goals as goal

pub invariant_of-buckets : goal.invariant_of-buckets
invariant_of-buckets g c =
    let b = c.args.self.now.buckets in
    record {
      sound = record {
        last_in_range = b.sound.last_in_range;
        tick_in_range = c.requires.in_range;
        serial_in_range = b.sound.serial_in_range;
        has_lists = b.sound.has_lists;
        distinct = b.sound.distinct;
        due_in_order = b.sound.due_in_order;
        pending = (skipped c.args.self.now.hier c.requires.nothing_due c.args.tick c.requires.later c.requires.not_before).pending;
        due = none_past c.args.tick b.last_serial (list_at b.slots b.links.lists) c.requires.nothing_due;
      };
    }

pub invariant_of-self : goal.invariant_of-self
invariant_of-self g c =
    let w = c.args.self.now in
    record {
      hier = record {
        has_slots = w.hier.has_slots;
        clock = w.hier.clock;
        marked = w.hier.marked;
        in_order = w.hier.in_order;
        placed = (skipped w.hier c.requires.nothing_due c.args.tick c.requires.later c.requires.not_before).placed;
      };
    }

pub returns-clause-leaps : goal.returns-clause-leaps
returns-clause-leaps g c =
    (skipped c.args.self.now.hier c.requires.nothing_due c.args.tick c.requires.later c.requires.not_before).leaps
