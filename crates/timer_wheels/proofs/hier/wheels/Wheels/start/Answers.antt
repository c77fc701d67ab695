use Rattle.std.proofs.Common.{◌∙◌, refl, sym, arith}
use Rattle.timer_wheels.specs.Buckets.{row_at}
use Rattle.timer_wheels.specs.hier.Placement.{IsPlaced}
use Rattle.timer_wheels.specs.Tables.{radices}
use Rattle.timer_wheels.proofs.bucket_lemmas.BitLemmas.{come_marked}
use Rattle.timer_wheels.proofs.bucket_lemmas.Calls.{each_come}
use Rattle.timer_wheels.proofs.bucket_lemmas.OrderedLists.{ordered-come}
use Rattle.timer_wheels.proofs.bucket_lemmas.WheelUpdates.{in_word, in_slots}
use Rattle.timer_wheels.proofs.hier.wheels.Wheels.start.Goals as goal

pub enter-requires : goal.enter-requires
enter-requires g c = λ later. in_word c.args.self.now.table c.list_of-list.result (c.list_of-list.ensures.in_table later)

pub invariant_of-self-2 : goal.invariant_of-self-2
invariant_of-self-2 g c =
    let w = c.args.self.now in
    let b = w.buckets in
    let to = c.list_of-list in
    let list = to.result in
    let timer = c.args.timer in
    let row = row_at c.in_ok-handle.handle.place timer 0 in
    let f = c.start.ensures.frame in
    let e = c.in_ok-handle.ensures.lists in
    record {
      hier = record {
        has_slots = f.slots ∙ w.hier.has_slots;
        clock = f.last_tick ∙ w.hier.clock;
        placed = rw (f.tick, f.slots, e) (each_come (IsPlaced (radices w.table) b.tick) b.slots b.tick timer.deadline list row b.links.lists
            b.sound.has_lists to.ensures.list (λ later. (sym (to.ensures.bucket later), refl)) w.hier.placed);
        in_order = rw (f.slots, e) (ordered-come b.sound w.hier.in_order list row c.requires.fresh to.ensures.list);
        marked = rw (f.slots, e) (come_marked b.slots b.slots b.tick b.links.lists w.occupied c.enter.new.occupied row list timer.deadline
            (omega arith) w.hier.marked b.sound.has_lists to.ensures.list (λ later. in_slots w.hier list (to.ensures.in_table later))
            c.enter.ensures.pending c.enter.ensures.due);
      };
    }
