use Rattle.std.proofs.Common.{◌≡◌, ◌<◌, sym, ◌∙◌, ap, arith, Some}
use Rattle.timer_base.specs.WheelState.{held_at}
use Rattle.timer_wheels.specs.Buckets.{state_of, taken_timer}
use Rattle.timer_wheels.specs.Digits.{slots}
use Rattle.timer_wheels.specs.lazy.Filed.{IsFiled}
use Rattle.timer_wheels.specs.Tables.{radices}
use Rattle.timer_wheels.specs.declared.table.TheConstants.{MOST_BUCKETS}
use Rattle.timer_wheels.proofs.bucket_lemmas.BitLemmas.{of_emptied, left_marked}
use Rattle.timer_wheels.proofs.bucket_lemmas.Calls.{each-without_key}
use Rattle.timer_wheels.proofs.lazy_lemmas.FilingCounts.{gone_from}
use Rattle.timer_wheels.proofs.lazy_lemmas.FilesLemmas.{row_in_table, within, less_slots}
use Rattle.timer_wheels.proofs.lazy.files.Files.stop.Goals as goal

pub leave-requires : goal.leave-requires
leave-requires g c =
    let w = c.args.self.now in
    let b = w.buckets in
    let found : held_at c.args.handle (state_of b) ≡ Some c.in_ok-timer.timer = sym c.take.ensures.timer ∙ ap taken_timer c.in_ok-timer.was in
    rw c.take.ensures.frame.slots (of_emptied b.sound c.args.handle c.lemma_keys_unique.ensures c.in_ok-timer.timer found c.in_ok-timer.emptied
    c.in_ok-timer.ensures.emptied (λ l. l < b.slots → l < MOST_BUCKETS) (row_in_table w.files))

pub invariant_of-self-2-clause-files : goal.invariant_of-self-2-clause-files
invariant_of-self-2-clause-files g c =
    let w = c.args.self.now in
    let b = w.buckets in
    let handle = c.args.handle in
    let f = c.take.ensures.frame in
    let e = c.in_ok-timer.ensures.lists in
    let found : held_at handle (state_of b) ≡ Some c.in_ok-timer.timer = sym c.take.ensures.timer ∙ ap taken_timer c.in_ok-timer.was in
    let marked = left_marked b.sound handle c.lemma_keys_unique.ensures c.in_ok-timer.timer found c.in_ok-timer.emptied
    c.in_ok-timer.ensures.emptied (slots (radices w.table)) (less_slots w.files) (within w.files) w.occupied c.leave.new.occupied w.files.marked (rw (← f.slots) c.leave.ensures) in
    record {
      has_slots = f.slots ∙ w.files.has_slots;
      clock = f.last_tick ∙ w.files.clock;
      filed = rw (f.tick, f.slots, e) (each-without_key (IsFiled (radices w.table) b.tick) b.slots handle.place b.links.lists w.files.filed);
      marked = rw e marked;
    }

pub invariant_of-self-2-clause-paid : goal.invariant_of-self-2-clause-paid
invariant_of-self-2-clause-paid g c =
    let w = c.args.self.now in
    omega (arith, gone_from w.files c.args.handle.place c.take.new.self c.take.ensures.frame.tick c.in_ok-timer.ensures.lists, w.paid)
