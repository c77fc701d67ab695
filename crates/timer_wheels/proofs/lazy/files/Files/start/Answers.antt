use Rattle.std.proofs.Common.{◌∙◌, refl, arith}
use Rattle.timer_wheels.specs.Buckets.{state_of, row_at}
use Rattle.timer_wheels.specs.Digits.{slots}
use Rattle.timer_wheels.specs.lazy.Filed.{IsFiled}
use Rattle.timer_wheels.specs.Tables.{radices}
use Rattle.timer_wheels.proofs.bucket_lemmas.BitLemmas.{come_marked}
use Rattle.timer_wheels.proofs.bucket_lemmas.Calls.{each_come}
use Rattle.timer_wheels.proofs.lazy_lemmas.FilingCounts.{paid_come}
use Rattle.timer_wheels.proofs.hier_lemmas.Invariant.{few_starts}
use Rattle.timer_wheels.proofs.lazy_lemmas.FilesLemmas.{newly_filed, less_slots}
use Rattle.timer_wheels.proofs.bucket_lemmas.WheelUpdates.{in_word}
use Rattle.timer_wheels.proofs.lazy.files.Files.start.Goals as goal

pub enter_first-requires-clause-list : goal.enter_first-requires-clause-list
enter_first-requires-clause-list g c = λ later. in_word c.args.self.now.table c.list_of-list.result (c.list_of-list.ensures.in_table later)

pub invariant_of-self-2-clause-files : goal.invariant_of-self-2-clause-files
invariant_of-self-2-clause-files g c =
    let w = c.args.self.now in
    let b = w.buckets in
    let to = c.list_of-list in
    let list = to.result in
    let timer = c.args.timer in
    let row = row_at c.in_ok-handle.handle.place timer 0 in
    let f = c.start.ensures.frame in
    let e = c.in_ok-handle.ensures.lists in
    record {
      has_slots = f.slots ∙ w.files.has_slots;
      clock = f.last_tick ∙ w.files.clock;
      filed = rw (f.tick, f.slots, e) (each_come (IsFiled (radices w.table) b.tick) b.slots b.tick timer.deadline list row b.links.lists
          b.sound.has_lists to.ensures.list
          (newly_filed w.files list row c.requires.deadline c.requires.fresh refl to.ensures.bucket) w.files.filed);
      marked = rw e (come_marked (slots (radices w.table)) b.slots b.tick b.links.lists w.occupied c.enter_first.new.occupied row
          list timer.deadline (less_slots w.files) w.files.marked b.sound.has_lists to.ensures.list to.ensures.in_table c.enter_first.ensures.pending c.enter_first.ensures.due);
    }

pub invariant_of-self-2-clause-few_starts : goal.invariant_of-self-2-clause-few_starts
invariant_of-self-2-clause-few_starts g c =
    let w = c.args.self.now in
    few_starts w.buckets c.start.new.self c.in_ok-handle.handle.place w.counts.starts c.args.timer (state_of w.buckets) w.few_starts
    c.requires.fresh c.in_ok-handle.ensures.started

pub invariant_of-self-2-clause-paid : goal.invariant_of-self-2-clause-paid
invariant_of-self-2-clause-paid g c =
    let w = c.args.self.now in
    let b = w.buckets in
    paid_come w.files w.counts.filings w.counts.starts (row_at c.in_ok-handle.handle.place c.args.timer 0) c.list_of-list.result b.links.lists
    c.start.new.self c.start.ensures.frame.tick c.in_ok-handle.ensures.lists c.requires.deadline b.sound.has_lists c.list_of-list.ensures.list
    (omega arith) w.paid
