use Rattle.std.proofs.Common.{◌+◌, ◌<◌, ℕ, sym, ap, subst, arith, rules}
use Rattle.std.specs.List.{AllByRecursion}
use Rattle.timer_base.specs.WheelState.{with_room}
use Rattle.timer_links.specs.Lists.{list_at}
use Rattle.timer_wheels.specs.hier.Migration.{MayMigrate}
use Rattle.timer_wheels.specs.Tables.{radices}
use Rattle.timer_wheels.proofs.lazy_lemmas.FilingCounts.{emptied_left, filings_fit}
use Rattle.timer_wheels.proofs.lazy_lemmas.FilesLemmas.{before, ticked}
use Rattle.timer_wheels.proofs.lazy_lemmas.Ticks.{all_may_migrate, none_from}
use Rattle.timer_wheels.proofs.lazy.files.Files.visit.Goals as goal

pub empty_bucket-filed-requires-clause-lists : goal.empty_bucket-filed-requires-clause-lists
empty_bucket-filed-requires-clause-lists g c = let w = c.args.self.now in omega (arith, w.buckets.sound.has_lists, w.files.has_slots)

pub empty_bucket-filed-requires-clause-rows : goal.empty_bucket-filed-requires-clause-rows
empty_bucket-filed-requires-clause-rows g c =
    let w = c.args.self.now in
    let tick = w.buckets.tick + 1 in
    let P : ℕ → Type 0 = λ l. AllByRecursion (MayMigrate (radices w.table) tick l) (list_at l w.buckets.links.lists) in
    subst P (sym c.requires.emptied)
    (all_may_migrate (before w.files c.requires.nothing_due c.requires.before_last) (omega (arith, w.files.clock)))

pub empty_bucket-filed-requires-clause-none : goal.empty_bucket-filed-requires-clause-none
empty_bucket-filed-requires-clause-none g c = none_from (before c.args.self.now.files c.requires.nothing_due c.requires.before_last)

pub invariant_of-buckets : goal.invariant_of-buckets
invariant_of-buckets g c =
    let w = c.args.self.now in
    record {
      sound = (ticked w.files c.args.list c.empty_bucket-filed.new.links.lists c.requires.emptied
          c.empty_bucket-filed.ensures.emptied c.requires.nothing_due c.requires.before_last).sound;
    }

pub invariant_of-self-clause-files : goal.invariant_of-self-clause-files
invariant_of-self-clause-files g c =
    let w = c.args.self.now in
    record {
      has_slots = w.files.has_slots;
      clock = w.files.clock;
      filed = (ticked w.files c.args.list c.empty_bucket-filed.new.links.lists c.requires.emptied
          c.empty_bucket-filed.ensures.emptied c.requires.nothing_due c.requires.before_last).filed;
      marked = c.empty_bucket-filed.ensures.marked;
    }

pub returns-clause-ticked : goal.returns-clause-ticked
returns-clause-ticked g c =
    let w = c.args.self.now in
    rw c.empty_bucket-filed.ensures.room (ap (with_room w.buckets.links.room) (ticked w.files c.args.list c.empty_bucket-filed.new.links.lists
    c.requires.emptied c.empty_bucket-filed.ensures.emptied c.requires.nothing_due c.requires.before_last).ticked)

pub overflow_add-counts : goal.overflow_add-counts
overflow_add-counts g c =
    let w = c.args.self.now in
    let e = c.empty_bucket-filed in
    let h : w.counts.filings + e.result < 18446744073709551616 = filings_fit w.files c.requires.before_last c.args.list e.result e.new.links.lists
    c.requires.emptied e.ensures.filed e.ensures.emptied w.counts.filings w.counts.starts w.few_starts w.paid in
    search rules

pub invariant_of-self-clause-paid : goal.invariant_of-self-clause-paid
invariant_of-self-clause-paid g c =
    let w = c.args.self.now in
    let e = c.empty_bucket-filed in
    omega (
      arith,
      emptied_left w.files c.requires.before_last c.args.list e.result e.new.links.lists c.requires.emptied e.ensures.filed e.ensures.emptied,
      w.paid,
    )

pub returns-clause-counted : goal.returns-clause-counted
returns-clause-counted g c =
    let w = c.args.self.now in
    let e = c.empty_bucket-filed in
    omega (
      arith,
      emptied_left w.files c.requires.before_last c.args.list e.result e.new.links.lists c.requires.emptied e.ensures.filed e.ensures.emptied,
    )
