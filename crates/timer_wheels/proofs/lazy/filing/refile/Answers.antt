use Rattle.std.proofs.Common.{◌≡◌, ◌<◌, ◌+◌, ◌++◌, ◌∷◌, [], ℕ, length, refl, sym, ◌∙◌, ap, subst, arith, rules}
use Rattle.timer_wheels.specs.Types.{Rows}
use Rattle.timer_links.specs.Lists.{list_at}
use Rattle.timer_wheels.specs.Digits.{slots}
use Rattle.timer_wheels.specs.lazy.Merges.{serial_of}
use Rattle.timer_wheels.specs.Occupied.{filled}
use Rattle.timer_wheels.specs.Tables.{radices}
use Rattle.timer_wheels.proofs.lazy_lemmas.FilingLemmas.{AreSortedTo, sorted_none, sorted_more, front_serial}
use Rattle.timer_wheels.proofs.hier_lemmas.MigrationLoop.{first_row, front_deadline_is, no_front, next_due, next_left, due_target, left_target, goes_elsewhere, next_timer, gone_to, gone_past, shorter, moves_fit, ended_none, emptying_begun}
use Rattle.timer_wheels.proofs.bucket_lemmas.OccupiedLemmas.{marked_due, marked_left, marked_all}
use Rattle.timer_wheels.proofs.lazy.filing.refile.Goals as goal

pub loop-next-preserved-then-timer-tick : goal.loop-next-preserved-then-timer-tick
loop-next-preserved-then-timer-tick g c =
    let n = slots (radices c.args.table) in
    let i = c.loop-next.invariant in
    let lists = c.loop-next.links.lists in
    let f = first_row i.emptying (front_deadline_is (list_at c.args.list lists) c.loop-next.next c.in-Some.timer i.next c.in-Some.is) in
    let m = c.move_front in
    let after = m.new.self.lists in
    let due = c.buckets_of-due in
    let to = due_target after i.emptying f due.result due.ensures.value c.if-timer-tick.true in
    let serial : serial_of f.row ≡ c.in-Some.timer.serial =
    front_serial (list_at c.args.list lists) f.rest f.row c.in-Some.timer c.loop-next.next i.next c.in-Some.is f.at in
    record {
      emptying = next_due after i.emptying f due.result c.loop-next.filed due.ensures.value c.if-timer-tick.true m.ensures.moved refl;
      room = m.ensures.room ∙ i.room;
      next = next_timer after i.emptying f due.result c.second_timer-next.result to m.ensures.moved c.second_timer-next.ensures;
      sorted = λ y.
          let both = c.stays_sorted-is_sorted.ensures y in
          let at : list_at n after ≡ list_at n lists ++ f.row ∷ [] =
          ap (λ (x : ℕ). list_at x after) (sym due.ensures.value)
          ∙ (gone_to after i.emptying f due.result to m.ensures.moved (omega (arith, due.ensures.value, c.requires.lists, i.emptying.has_lists))
          ∙ ap (λ (x : ℕ). list_at x lists ++ f.row ∷ []) due.ensures.value) in
          subst (λ (r : Rows). AreSortedTo c.in-Some.timer.serial r) (sym at)
          (subst (λ (x : ℕ). AreSortedTo x (list_at n lists ++ f.row ∷ [])) serial
          (sorted_more c.loop-next.newest (list_at n lists) f.row (omega (arith, both.1, serial)) (i.sorted both.0)));
      spare = λ s h. gone_past after i.emptying f due.result s m.ensures.moved (λ q. omega (arith, c.requires.list))
          (λ q. omega (arith, due.ensures.value)) ∙ i.spare s h;
      clear = i.clear;
      marked = marked_due n c.loop-next.occupied c.args.list due.result lists after due.ensures.value m.ensures.moved i.marked;
    }

pub loop-next-preserved : goal.loop-next-preserved
loop-next-preserved g c =
    let n = slots (radices c.args.table) in
    let i = c.loop-next.invariant in
    let lists = c.loop-next.links.lists in
    let f = first_row i.emptying (front_deadline_is (list_at c.args.list lists) c.loop-next.next c.in-Some.timer i.next c.in-Some.is) in
    let m = c.move_front-else-timer-tick in
    let after = m.new.self.lists in
    let to = c.bucket_of-to in
    let is = left_target after i.emptying f to.result to.ensures.value c.if-timer-tick.false in
    let away = goes_elsewhere after i.emptying f to.result is in
    let inside : to.result < length lists = omega (arith, to.ensures.in_range, c.requires.lists, i.emptying.has_lists) in
    record {
      emptying = next_left after i.emptying f to.result (c.loop-next.filed + 1) to.ensures.value c.if-timer-tick.false m.ensures.moved refl;
      room = m.ensures.room ∙ i.room;
      next = next_timer after i.emptying f to.result c.second_timer-next.result is m.ensures.moved c.second_timer-next.ensures;
      sorted = λ y. subst (λ (r : Rows). AreSortedTo c.loop-next.newest r) (sym (gone_past after i.emptying f to.result n m.ensures.moved
          (λ (q : n ≡ c.args.list). omega (arith, c.requires.list)) (λ (q : n ≡ to.result). omega (arith, to.ensures.in_range)))) (i.sorted y);
      spare = λ s h. gone_past after i.emptying f to.result s m.ensures.moved (λ q. omega (arith, c.requires.list))
          (λ q. omega (arith, to.ensures.in_range)) ∙ i.spare s h;
      clear = c.insert.ensures.others c.args.list (λ x. away (sym x)) ∙ i.clear;
      marked = marked_left n c.loop-next.occupied c.insert.new.self c.args.list to.result f.row f.rest lists after
          to.ensures.in_range inside c.insert.ensures.here c.insert.ensures.others f.at m.ensures.moved i.marked;
    }

pub loop-next-smaller-then-timer-tick : goal.loop-next-smaller-then-timer-tick
loop-next-smaller-then-timer-tick g c =
    let i = c.loop-next.invariant in
    let f = first_row i.emptying (front_deadline_is (list_at c.args.list c.loop-next.links.lists) c.loop-next.next c.in-Some.timer i.next
    c.in-Some.is) in
    let m = c.move_front in
    shorter m.new.self.lists i.emptying f c.buckets_of-due.result (due_target m.new.self.lists i.emptying f c.buckets_of-due.result
    c.buckets_of-due.ensures.value c.if-timer-tick.true) m.ensures.moved

pub loop-next-smaller : goal.loop-next-smaller
loop-next-smaller g c =
    let i = c.loop-next.invariant in
    let f = first_row i.emptying (front_deadline_is (list_at c.args.list c.loop-next.links.lists) c.loop-next.next c.in-Some.timer i.next
    c.in-Some.is) in
    let m = c.move_front-else-timer-tick in
    shorter m.new.self.lists i.emptying f c.bucket_of-to.result (left_target m.new.self.lists i.emptying f c.bucket_of-to.result
    c.bucket_of-to.ensures.value c.if-timer-tick.false) m.ensures.moved

pub loop-next-init : goal.loop-next-init
loop-next-init g c = record {
  emptying = emptying_begun (radices c.args.table) c.args.list c.args.tick c.args.links.now.lists
      (omega (arith, c.requires.list, c.requires.lists)) c.requires.rows;
  room = refl;
  next = c.front_timer-next.ensures;
  sorted = λ y. sorted_none (list_at (slots (radices c.args.table)) c.args.links.now.lists) c.requires.none;
  spare = λ s h. refl;
  clear = c.requires.clear;
  marked = c.requires.marked;
}

pub returns-clause-migrated : goal.returns-clause-migrated
returns-clause-migrated g c =
    let i = c.loop-next.invariant in
    (ended_none i.emptying (no_front (list_at c.args.list c.loop-next.links.lists) (sym c.in_default.is ∙ i.next))).lists_are

pub returns-clause-filed : goal.returns-clause-filed
returns-clause-filed g c =
    let i = c.loop-next.invariant in
    (ended_none i.emptying (no_front (list_at c.args.list c.loop-next.links.lists) (sym c.in_default.is ∙ i.next))).moves_are

pub overflow_add-filed : goal.overflow_add-filed
overflow_add-filed g c =
    let i = c.loop-next.invariant in
    let h : c.loop-next.filed + 1 < 18446744073709551616 = moves_fit c.loop-next.links.lists i.emptying (first_row i.emptying
    (front_deadline_is (list_at c.args.list c.loop-next.links.lists) c.loop-next.next c.in-Some.timer i.next c.in-Some.is))
    (omega (arith, c.lemma_countable.ensures)) in
    search rules

pub returns-clause-sorted : goal.returns-clause-sorted
returns-clause-sorted g c = λ y. (c.loop-next.invariant.sorted y).sorted

pub returns-clause-marked : goal.returns-clause-marked
returns-clause-marked g c =
    let i = c.loop-next.invariant in
    let z = (ended_none i.emptying (no_front (list_at c.args.list c.loop-next.links.lists) (sym c.in_default.is ∙ i.next))).emptied in
    marked_all (slots (radices c.args.table)) c.loop-next.occupied c.args.list c.loop-next.links.lists (i.clear ∙ sym (ap filled z)) i.marked
