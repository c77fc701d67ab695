use Rattle.std.proofs.Common.{◌≡◌, ◌<◌, refl, sym, ◌∙◌, ap, arith, map, Some}
use Rattle.timer_base.specs.WheelState.{held_at, old_timer}
use Rattle.timer_links.specs.Lists.{without_key}
use Rattle.timer_wheels.specs.Buckets.{state_of, row_at, replaced}
use Rattle.timer_wheels.specs.hier.Placement.{IsPlaced}
use Rattle.timer_wheels.specs.Tables.{radices}
use Rattle.timer_wheels.specs.declared.table.TheConstants.{MOST_BUCKETS}
use Rattle.timer_wheels.proofs.bucket_lemmas.BitLemmas.{of_emptied, left_marked, come_marked}
use Rattle.timer_wheels.proofs.bucket_lemmas.Calls.{each_come, each-without_key}
use Rattle.timer_wheels.proofs.bucket_lemmas.OrderedLists.{ordered-without_key, ordered-come}
use Rattle.timer_wheels.proofs.bucket_lemmas.Updates.{removed}
use Rattle.timer_wheels.proofs.bucket_lemmas.WheelUpdates.{in_word, in_word_of, in_slots}
use Rattle.timer_wheels.proofs.hier.wheels.Wheels.restart.Goals as goal

pub leave-requires : goal.leave-requires
leave-requires g c =
    let w = c.args.self.now in
    let b = w.buckets in
    let r = c.in_ok-restarted in
    let found : held_at c.args.handle (state_of b) ≡ Some r.restarted.1 = sym c.replace.ensures.old ∙ ap (λ o. old_timer (replaced o)) r.was in
    rw c.replace.ensures.frame.slots (of_emptied b.sound c.args.handle c.lemma_keys_unique.ensures r.restarted.1 found r.emptied
    r.ensures.emptied (λ l. l < b.slots → l < MOST_BUCKETS) (λ l front row rest k at m. in_word_of w.hier l m))

pub enter-requires : goal.enter-requires
enter-requires g c = λ later. in_word c.args.self.now.table c.list_of-list.result (c.list_of-list.ensures.in_table later)

pub invariant_of-self-2 : goal.invariant_of-self-2
invariant_of-self-2 g c =
    let w = c.args.self.now in
    let b = w.buckets in
    let to = c.list_of-list in
    let list = to.result in
    let timer = c.args.timer in
    let handle = c.args.handle in
    let r = c.in_ok-restarted in
    let f = c.replace.ensures.frame in
    let e = r.ensures.lists in
    let row = row_at handle.place timer 0 in
    let found : held_at handle (state_of b) ≡ Some r.restarted.1 = sym c.replace.ensures.old ∙ ap (λ o. old_timer (replaced o)) r.was in
    let rest = removed b.sound handle.place in
    let left = left_marked b.sound handle c.lemma_keys_unique.ensures r.restarted.1 found r.emptied r.ensures.emptied b.slots (omega arith)
    (λ l front row rest k at m. m) w.occupied c.leave.new.occupied w.hier.marked (rw (← f.slots) c.leave.ensures) in
    record {
      hier = record {
        has_slots = f.slots ∙ w.hier.has_slots;
        clock = f.last_tick ∙ w.hier.clock;
        placed = rw (f.tick, f.slots, e) (each_come (IsPlaced (radices w.table) b.tick) b.slots b.tick timer.deadline list row
            (map (without_key handle.place) b.links.lists) rest.has_lists to.ensures.list (λ later. (sym (to.ensures.bucket later), refl))
            (each-without_key (IsPlaced (radices w.table) b.tick) b.slots handle.place b.links.lists w.hier.placed));
        in_order = rw (f.slots, e) (ordered-come rest (ordered-without_key b.slots handle.place b.links.lists w.hier.in_order) list row
            c.requires.fresh to.ensures.list);
        marked = rw (f.slots, e) (come_marked b.slots b.slots b.tick (map (without_key handle.place) b.links.lists) c.leave.new.occupied
            c.enter.new.occupied row list timer.deadline (omega arith) left rest.has_lists to.ensures.list
            (λ later. in_slots w.hier list (to.ensures.in_table later)) c.enter.ensures.pending c.enter.ensures.due);
      };
    }
