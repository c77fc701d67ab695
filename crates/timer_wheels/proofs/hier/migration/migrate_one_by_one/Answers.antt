use Rattle.std.proofs.Common.{◌<◌, ◌+◌, length, refl, sym, ◌∙◌, ap, arith, rules}
use Rattle.timer_wheels.specs.Digits.{slots}
use Rattle.timer_wheels.specs.Occupied.{filled}
use Rattle.timer_wheels.specs.Tables.{radices}
use Rattle.timer_wheels.proofs.hier_lemmas.MigrationLoop.{first_row, next_due, next_left, due_target, left_target, goes_elsewhere, ahead_after, shorter, moves_fit, ended_none}
use Rattle.timer_wheels.proofs.bucket_lemmas.OccupiedLemmas.{marked_due, marked_left, marked_all}
use Rattle.timer_wheels.proofs.hier.migration.migrate_one_by_one.Goals as goal

pub loop-ahead-preserved-then-deadline-tick : goal.loop-ahead-preserved-then-deadline-tick
loop-ahead-preserved-then-deadline-tick g c =
    let i = c.loop-ahead.invariant in
    let f = first_row i.emptying (sym c.in-Some.is ∙ i.ahead) in
    let m = c.move_front in
    let after = m.new.self.lists in
    let due = c.buckets_of-due in
    let to = due_target after i.emptying f due.result due.ensures.value c.if-deadline-tick.true in
    record {
      room = m.ensures.room ∙ i.room;
      emptying = next_due after i.emptying f due.result c.loop-ahead.moves due.ensures.value c.if-deadline-tick.true m.ensures.moved
          refl;
      ahead = ahead_after after i.emptying f due.result c.next_deadline-ahead.result to m.ensures.moved c.next_deadline-ahead.ensures;
      clear = i.clear;
      marked = marked_due (slots (radices c.args.table)) c.loop-ahead.occupied c.args.list due.result c.loop-ahead.links.lists after
          due.ensures.value m.ensures.moved i.marked;
    }

pub loop-ahead-preserved : goal.loop-ahead-preserved
loop-ahead-preserved g c =
    let n = slots (radices c.args.table) in
    let i = c.loop-ahead.invariant in
    let f = first_row i.emptying (sym c.in-Some.is ∙ i.ahead) in
    let m = c.move_front-else-deadline-tick in
    let after = m.new.self.lists in
    let to = c.bucket_of-to in
    let is = left_target after i.emptying f to.result to.ensures.value c.if-deadline-tick.false in
    let away = goes_elsewhere after i.emptying f to.result is in
    let inside : to.result < length c.loop-ahead.links.lists = omega (arith, to.ensures.in_range, c.requires.lists, i.emptying.has_lists) in
    record {
      room = m.ensures.room ∙ i.room;
      emptying = next_left after i.emptying f to.result (c.loop-ahead.moves + 1) to.ensures.value c.if-deadline-tick.false
          m.ensures.moved refl;
      ahead = ahead_after after i.emptying f to.result c.next_deadline-ahead.result is m.ensures.moved c.next_deadline-ahead.ensures;
      clear = c.insert.ensures.others c.args.list (λ x. away (sym x)) ∙ i.clear;
      marked = marked_left n c.loop-ahead.occupied c.insert.new.self c.args.list to.result f.row f.rest c.loop-ahead.links.lists after
          to.ensures.in_range inside c.insert.ensures.here c.insert.ensures.others f.at m.ensures.moved i.marked;
    }

pub loop-ahead-smaller-then-deadline-tick : goal.loop-ahead-smaller-then-deadline-tick
loop-ahead-smaller-then-deadline-tick g c =
    let i = c.loop-ahead.invariant in
    let f = first_row i.emptying (sym c.in-Some.is ∙ i.ahead) in
    let m = c.move_front in
    shorter m.new.self.lists i.emptying f c.buckets_of-due.result (due_target m.new.self.lists i.emptying f c.buckets_of-due.result
    c.buckets_of-due.ensures.value c.if-deadline-tick.true) m.ensures.moved

pub loop-ahead-smaller : goal.loop-ahead-smaller
loop-ahead-smaller g c =
    let i = c.loop-ahead.invariant in
    let f = first_row i.emptying (sym c.in-Some.is ∙ i.ahead) in
    let m = c.move_front-else-deadline-tick in
    shorter m.new.self.lists i.emptying f c.bucket_of-to.result (left_target m.new.self.lists i.emptying f c.bucket_of-to.result
    c.bucket_of-to.ensures.value c.if-deadline-tick.false) m.ensures.moved

pub overflow_add-moves : goal.overflow_add-moves
overflow_add-moves g c =
    let i = c.loop-ahead.invariant in
    let h : c.loop-ahead.moves + 1 < 18446744073709551616 = moves_fit c.loop-ahead.links.lists i.emptying (first_row i.emptying (sym c.in-Some.is
    ∙ i.ahead)) (omega (arith, c.lemma_countable.ensures)) in
    search rules

pub returns-clause-marked : goal.returns-clause-marked
returns-clause-marked g c =
    let i = c.loop-ahead.invariant in
    let z = (ended_none i.emptying (sym c.in_default.is ∙ i.ahead)).emptied in
    marked_all (slots (radices c.args.table)) c.loop-ahead.occupied c.args.list c.loop-ahead.links.lists (i.clear ∙ sym (ap filled z)) i.marked
