use Rattle.std.proofs.Common.{◌≡◌, ◌<◌, refl, sym, ◌∙◌, ap, map, Some}
use Rattle.timer_base.specs.WheelState.{held_at, old_timer, after_removal}
use Rattle.timer_links.specs.Lists.{without_key}
use Rattle.timer_wheels.specs.Buckets.{state_of, row_at, replaced}
use Rattle.timer_wheels.specs.Digits.{slots}
use Rattle.timer_wheels.specs.lazy.Filed.{IsFiled}
use Rattle.timer_wheels.specs.Tables.{radices}
use Rattle.timer_wheels.specs.declared.table.TheConstants.{MOST_BUCKETS}
use Rattle.timer_wheels.proofs.bucket_lemmas.BitLemmas.{of_emptied, left_marked, come_marked}
use Rattle.timer_wheels.proofs.bucket_lemmas.Calls.{each_come, each-without_key}
use Rattle.timer_wheels.proofs.lazy_lemmas.FilingCounts.{gone_left, paid_come}
use Rattle.timer_wheels.proofs.hier_lemmas.Invariant.{few_starts}
use Rattle.timer_wheels.proofs.lazy_lemmas.FilesLemmas.{row_in_table, within, less_slots, newly_filed}
use Rattle.timer_wheels.proofs.bucket_lemmas.Updates.{removed}
use Rattle.timer_wheels.proofs.bucket_lemmas.WheelUpdates.{in_word}
use Rattle.timer_wheels.proofs.lazy.files.Files.restart_apart.Goals as goal

pub leave-requires : goal.leave-requires
leave-requires g c =
    let w = c.args.self.now in
    let b = w.buckets in
    let r = c.in_ok-restarted in
    let found : held_at c.args.handle (state_of b) ≡ Some r.restarted.1 = sym c.replace.ensures.old ∙ ap (λ o. old_timer (replaced o)) r.was in
    rw c.replace.ensures.frame.slots (of_emptied b.sound c.args.handle c.lemma_keys_unique.ensures r.restarted.1 found r.emptied
    r.ensures.emptied (λ l. l < b.slots → l < MOST_BUCKETS) (row_in_table w.files))

pub enter_first-requires-clause-list : goal.enter_first-requires-clause-list
enter_first-requires-clause-list g c = λ later. in_word c.args.self.now.table c.list_of-list.result (c.list_of-list.ensures.in_table later)

pub invariant_of-self-2-clause-files : goal.invariant_of-self-2-clause-files
invariant_of-self-2-clause-files g c =
    let w = c.args.self.now in
    let b = w.buckets in
    let to = c.list_of-list in
    let list = to.result in
    let timer = c.args.timer in
    let handle = c.args.handle in
    let r = c.in_ok-restarted in
    let f = c.replace.ensures.frame in
    let e = r.ensures.lists in
    let row = row_at handle.place timer 0 in
    let found : held_at handle (state_of b) ≡ Some r.restarted.1 = sym c.replace.ensures.old ∙ ap (λ o. old_timer (replaced o)) r.was in
    let long = (removed b.sound handle.place).has_lists in
    let left = left_marked b.sound handle c.lemma_keys_unique.ensures r.restarted.1 found r.emptied r.ensures.emptied
    (slots (radices w.table)) (less_slots w.files) (within w.files) w.occupied
    c.leave.new.occupied w.files.marked (rw (← f.slots) c.leave.ensures) in
    record {
      has_slots = f.slots ∙ w.files.has_slots;
      clock = f.last_tick ∙ w.files.clock;
      filed = rw (f.tick, f.slots, e) (each_come (IsFiled (radices w.table) b.tick) b.slots b.tick timer.deadline list row
          (map (without_key handle.place) b.links.lists) long to.ensures.list
          (newly_filed w.files list row c.requires.deadline c.requires.fresh refl to.ensures.bucket)
          (each-without_key (IsFiled (radices w.table) b.tick) b.slots handle.place b.links.lists w.files.filed));
      marked = rw e (come_marked (slots (radices w.table)) b.slots b.tick (map (without_key handle.place) b.links.lists) c.leave.new.occupied
          c.enter_first.new.occupied row list timer.deadline (less_slots w.files) left long to.ensures.list to.ensures.in_table c.enter_first.ensures.pending c.enter_first.ensures.due);
    }

pub invariant_of-self-2-clause-few_starts : goal.invariant_of-self-2-clause-few_starts
invariant_of-self-2-clause-few_starts g c =
    let w = c.args.self.now in
    few_starts w.buckets c.replace.new.self c.in_ok-restarted.restarted.0.place w.counts.starts c.args.timer
    (after_removal c.args.handle (state_of w.buckets)) w.few_starts c.requires.fresh c.in_ok-restarted.ensures.restarted

pub invariant_of-self-2-clause-paid : goal.invariant_of-self-2-clause-paid
invariant_of-self-2-clause-paid g c =
    let w = c.args.self.now in
    let b = w.buckets in
    let place = c.args.handle.place in
    paid_come w.files w.counts.filings w.counts.starts (row_at place c.args.timer 0) c.list_of-list.result
    (map (without_key place) b.links.lists) c.replace.new.self c.replace.ensures.frame.tick c.in_ok-restarted.ensures.lists
    c.requires.deadline (removed b.sound place).has_lists c.list_of-list.ensures.list (gone_left w.files place) w.paid
