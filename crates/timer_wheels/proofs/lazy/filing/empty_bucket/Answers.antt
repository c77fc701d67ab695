use Rattle.std.proofs.Common.{◌+◌, ℕ, length, sym, ◌∙◌, ap, arith}
use Rattle.timer_wheels.specs.Digits.{slots}
use Rattle.timer_wheels.specs.Tables.{radices}
use Rattle.timer_links.specs.Lists.{list_at, KeyedLists}
use Rattle.timer_wheels.proofs.lazy_lemmas.FilingLemmas.{migrated-length, emptied_all}
use Rattle.timer_wheels.proofs.bucket_lemmas.OccupiedLemmas.{marked_same}
use Rattle.timer_wheels.proofs.bucket_lemmas.WheelUpdates.{in_word}
use Rattle.timer_wheels.proofs.lazy.filing.empty_bucket.Goals as goal

pub remove-requires : goal.remove-requires
remove-requires g c = (omega arith, in_word c.args.table c.args.list c.requires.list)

pub put_in_order-requires : goal.put_in_order-requires
put_in_order-requires g c =
    let len = ap (λ (y : KeyedLists). length y) c.refile-refiled.ensures.migrated
    ∙ migrated-length (radices c.args.table) c.args.tick c.args.list c.args.links.now.lists in
    let at = c.buckets_of-gathered.ensures.value in
    record {
      spare = omega (arith, len, at, c.requires.lists);
      few = omega (arith, c.buckets_of-gathered.ensures.in_range);
      none = λ s h. c.refile-refiled.ensures.spare s (omega (arith, at)) ∙ c.requires.none s (omega (arith, at));
      sorted = λ y. rw at (c.refile-refiled.ensures.sorted y);
    }

pub append-requires : goal.append-requires
append-requires g c =
    let len = ap (λ (y : KeyedLists). length y) c.refile-refiled.ensures.migrated
    ∙ migrated-length (radices c.args.table) c.args.tick c.args.list c.args.links.now.lists in
    let at = c.buckets_of-gathered.ensures.value in
    let same = c.put_in_order.ensures.sorted.same_length in
    record {
      from = omega (arith, len, at, same, c.requires.lists);
      to = omega (arith, len, at, same, c.requires.lists);
      apart = λ e. omega arith;
    }

pub returns-clause-emptied : goal.returns-clause-emptied
returns-clause-emptied g c =
    let n = slots (radices c.args.table) in
    let r = c.refile-refiled in
    let s = c.put_in_order.ensures.sorted in
    let at = c.buckets_of-gathered.ensures.value in
    emptied_all (radices c.args.table) (n + 35) c.args.tick c.args.list c.args.links.now.lists r.new.links.lists c.put_in_order.new.links.lists
    c.append.new.self.lists c.buckets_of-gathered.result (c.buckets_of-gathered.result + 35) at (ap (λ (x : ℕ). x + 35) at) (omega arith)
    (omega (arith, c.requires.lists)) (r.ensures.spare (n + 35) (omega arith) ∙ c.requires.none (n + 35) (omega arith)) r.ensures.migrated
    (ap (λ (y : KeyedLists). length y) r.ensures.migrated ∙ migrated-length (radices c.args.table) c.args.tick c.args.list c.args.links.now.lists)
    (rw (← at) s.permuted) (rw (← at) s.sorted) (rw (← at) s.others) s.same_length c.append.ensures.appended

pub returns-clause-marked : goal.returns-clause-marked
returns-clause-marked g c =
    let n = slots (radices c.args.table) in
    let e = returns-clause-emptied g c in
    marked_same n c.refile-refiled.new.occupied c.refile-refiled.new.links.lists c.append.new.self.lists
    (λ s h. e.others s (λ q. omega arith) (λ q. omega arith) ∙ ap (list_at s) (sym c.refile-refiled.ensures.migrated))
    c.refile-refiled.ensures.marked
