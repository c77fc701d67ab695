use Rattle.std.proofs.Common.{◌<◌, ◌≤◌, ◌+◌, ◌∙◌, arith, rules}
use Rattle.timer_wheels.specs.smooth.Paces.{pace_sum}
use Rattle.timer_wheels.specs.declared.smooth.slot_lists.TheConstants.{MOST_WHEELS}
use Rattle.timer_wheels.specs.declared.table.Table.TheVariants.{Wide}
use Rattle.timer_wheels.proofs.smooth_lemmas.PaceSums.{counted_more, moving_more, sums_mono}
use Rattle.timer_wheels.proofs.smooth.early_moves.move_each.Goals as goal

pub overflow_add-moves : goal.overflow_add-moves
overflow_add-moves g c =
    let w = c.loop-wheel.invariant in
    let m = c.move_next-moves in
    let next = moving_more Wide c.args.wheels.now.buckets c.loop-wheel.wheels.buckets m.new.wheels.buckets c.args.paces.now
    c.loop-wheel.paces m.new.paces c.loop-wheel.moves c.loop-wheel.wheel m.result w.moving w.some
    (omega (arith, c.wheel_count-count.ensures.value, c.loop-wheel-test.true)) m.ensures.moved
    m.ensures.others m.ensures.paces m.ensures.at_most m.ensures.falls in
    let h : c.loop-wheel.moves + m.result < 18446744073709551616 =
    omega (
      arith,
      next.at_most,
      sums_mono c.args.paces.now (c.loop-wheel.wheel + 1) MOST_WHEELS
          (omega (arith, c.wheel_count-count.ensures.few, c.loop-wheel-test.true)),
      c.requires.few,
    ) in
    search rules

pub loop-wheel-preserved : goal.loop-wheel-preserved
loop-wheel-preserved g c =
    let w = c.loop-wheel.invariant in
    let m = c.move_next-moves in
    record {
      state = m.ensures.state ∙ w.state;
      tick = m.ensures.tick ∙ w.tick;
      some = omega arith;
      most = omega (arith, c.loop-wheel-test.true);
      counted = counted_more Wide c.args.wheels.now.buckets c.loop-wheel.wheels.buckets m.new.wheels.buckets c.loop-wheel.moves
          c.loop-wheel.wheel m.result w.some (omega (arith, c.wheel_count-count.ensures.value, c.loop-wheel-test.true)) w.counted
          (w.moving.rest c.loop-wheel.wheel w.some (omega arith) (omega (arith, c.wheel_count-count.ensures.value, c.loop-wheel-test.true)))
          m.ensures.counted m.ensures.others;
      moving = moving_more Wide c.args.wheels.now.buckets c.loop-wheel.wheels.buckets m.new.wheels.buckets c.args.paces.now
          c.loop-wheel.paces m.new.paces c.loop-wheel.moves c.loop-wheel.wheel m.result w.moving w.some
          (omega (arith, c.wheel_count-count.ensures.value, c.loop-wheel-test.true)) m.ensures.moved
          m.ensures.others m.ensures.paces m.ensures.at_most m.ensures.falls;
    }

pub returns-clause-at_most : goal.returns-clause-at_most
returns-clause-at_most g c =
    let w = c.loop-wheel.invariant in
    let h : c.loop-wheel.moves ≤ pace_sum c.args.paces.now =
    omega (
      arith,
      w.moving.at_most,
      sums_mono c.args.paces.now c.loop-wheel.wheel MOST_WHEELS
          (omega (arith, w.most, c.wheel_count-count.ensures.few)),
    ) in
    h
