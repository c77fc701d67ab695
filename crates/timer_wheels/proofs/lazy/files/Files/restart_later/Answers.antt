use Rattle.std.proofs.Common.{◌<◌, ◌≤◌, inl, refl, ◌∙◌, arith, map}
use Rattle.timer_base.specs.WheelState.{after_removal}
use Rattle.timer_links.specs.Lists.{without_key}
use Rattle.timer_wheels.specs.Buckets.{state_of, row_at, IsListOf}
use Rattle.timer_wheels.specs.Digits.{slots}
use Rattle.timer_wheels.specs.lazy.Filed.{IsFiled}
use Rattle.timer_wheels.specs.Tables.{radices}
use Rattle.timer_wheels.specs.declared.table.TheConstants.{MOST_BUCKETS}
use Rattle.timer_wheels.proofs.bucket_lemmas.BitLemmas.{of_emptied, left_marked, come_marked, filled_bit}
use Rattle.timer_wheels.proofs.bucket_lemmas.Calls.{each_come, each-without_key}
use Rattle.timer_wheels.proofs.bucket_lemmas.Handles.{the_timer}
use Rattle.timer_wheels.proofs.lazy_lemmas.FilingCounts.{gone_left, paid_come}
use Rattle.timer_wheels.proofs.hier_lemmas.Invariant.{few_starts}
use Rattle.timer_wheels.proofs.lazy_lemmas.FilesLemmas.{row_in_table, within, less_slots, newly_filed}
use Rattle.timer_wheels.proofs.bucket_lemmas.Updates.{removed}
use Rattle.timer_wheels.proofs.bucket_lemmas.WheelUpdates.{in_word}
use Rattle.timer_wheels.proofs.lazy.files.Files.restart_later.Goals as goal

pub move_later-moved-requires-clause-last_tick : goal.move_later-moved-requires-clause-last_tick
move_later-moved-requires-clause-last_tick g c = c.args.self.now.files.clock

pub leave-requires : goal.leave-requires
leave-requires g c =
    let w = c.args.self.now in
    let b = w.buckets in
    let t = the_timer _ c.requires.held in
    let m = c.move_later-moved in
    rw m.ensures.frame.slots (of_emptied b.sound c.args.handle c.lemma_keys_unique.ensures t.0 t.1 m.result.emptied
    m.ensures.emptied (λ l. l < b.slots → l < MOST_BUCKETS) (row_in_table w.files))

pub enter_first-requires-clause-list : goal.enter_first-requires-clause-list
enter_first-requires-clause-list g c = λ later. in_word c.args.self.now.table c.move_later-moved.result.list c.move_later-moved.ensures.in_table

pub enter_first-requires-clause-marked : goal.enter_first-requires-clause-marked
enter_first-requires-clause-marked g c = λ later no.
    let w = c.args.self.now in
    let m = c.move_later-moved in
    let f = m.ensures.filled no in
    filled_bit (slots (radices w.table)) w.buckets.slots w.occupied c.leave.new.occupied m.result.emptied m.result.list w.buckets.links.lists w.files.marked m.ensures.in_table
    (rw (← m.ensures.frame.slots) c.leave.ensures) f.0 f.1

pub invariant_of-self : goal.invariant_of-self
invariant_of-self g c =
    let w = c.args.self.now in
    let b = w.buckets in
    let m = c.move_later-moved in
    let list = m.result.list in
    let timer = c.args.timer in
    let handle = c.args.handle in
    let f = m.ensures.frame in
    let e = m.ensures.lists in
    let row = row_at handle.place timer 0 in
    let t = the_timer _ c.requires.held in
    let few : list < b.slots = (let h = m.ensures.in_table in let k : slots (radices w.table) ≤ b.slots = less_slots w.files in omega arith) in
    let at : IsListOf list b.slots b.tick timer.deadline = inl (few, c.requires.later) in
    let long = (removed b.sound handle.place).has_lists in
    let left = left_marked b.sound handle c.lemma_keys_unique.ensures t.0 t.1 m.result.emptied m.ensures.emptied
    (slots (radices w.table)) (less_slots w.files) (within w.files) w.occupied
    c.leave.new.occupied w.files.marked (rw (← f.slots) c.leave.ensures) in
    record {
      files = record {
        has_slots = f.slots ∙ w.files.has_slots;
        clock = f.last_tick ∙ w.files.clock;
        filed = rw (f.tick, f.slots, e) (each_come (IsFiled (radices w.table) b.tick) b.slots b.tick timer.deadline list row
            (map (without_key handle.place) b.links.lists) long at
            (newly_filed w.files list row c.requires.deadline c.requires.fresh refl (λ later. m.ensures.list))
            (each-without_key (IsFiled (radices w.table) b.tick) b.slots handle.place b.links.lists w.files.filed));
        marked = rw e (come_marked (slots (radices w.table)) b.slots b.tick (map (without_key handle.place) b.links.lists) c.leave.new.occupied
            c.enter_first.new.occupied row list timer.deadline (less_slots w.files) left long at (λ later. m.ensures.in_table)
            c.enter_first.ensures.pending c.enter_first.ensures.due);
      };
      few_starts = few_starts b m.new.self handle.place w.counts.starts timer
          (after_removal handle (state_of b)) w.few_starts c.requires.fresh m.ensures.restarted;
      paid = paid_come w.files w.counts.filings w.counts.starts row list
          (map (without_key handle.place) b.links.lists) m.new.self f.tick e
          c.requires.deadline long at (gone_left w.files handle.place) w.paid;
    }
