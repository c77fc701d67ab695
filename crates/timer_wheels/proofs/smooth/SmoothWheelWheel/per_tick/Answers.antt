use Rattle.std.proofs.Common.{◌≡◌, ◌<◌, ◌≤◌, ◌+◌, ◌*◌, ◌∙◌, ap, arith, rules}
use Rattle.timer_wheels.specs.Types.{LAST, WheelState}
use Rattle.timer_wheels.specs.smooth.Wheels.{potential_of}
use Rattle.timer_wheels.specs.declared.table.Table.TheVariants.{Wide}
use Rattle.timer_wheels.specs.Tables.{radices}
use Rattle.timer_wheels.proofs.smooth_lemmas.Totals.{ticks_empty, in_time_ticked, held_rows, paid_most, fit_lower}
use Rattle.timer_wheels.proofs.smooth_lemmas.PaceSums.{sum_bound}
use Rattle.timer_wheels.proofs.smooth.SmoothWheelWheel.per_tick.Goals as goal

pub next_tick-requires-clause-empty : goal.next_tick-requires-clause-empty
next_tick-requires-clause-empty g c =
    let w = c.args.self.now in
    let m = c.move_all-moves in
    λ k z l e. ticks_empty Wide w.wheels.buckets m.new.wheels.buckets w.paces m.new.paces k w.in_time m.ensures.tick
    (m.ensures.moved k z l) z l e

pub overflow_add-self : goal.overflow_add-self
overflow_add-self g c =
    let w = c.args.self.now in
    let b = w.wheels.buckets in
    let p : w.moves + potential_of Wide b ≤ 9 * LAST =
    paid_most Wide w.starts b.last_serial w.moves (potential_of Wide b) w.few_starts b.sound.serial_in_range w.paid in
    let h : w.moves + c.move_all-moves.result < 18446744073709551616 = omega (arith, c.move_all-moves.ensures.falls) in
    search rules

pub invariant_of-self : goal.invariant_of-self
invariant_of-self g c =
    let w = c.args.self.now in
    let m = c.move_all-moves in
    let n = c.next_tick in
    let serial : n.new.self.buckets.last_serial ≡ w.wheels.buckets.last_serial =
    ap (λ (u : WheelState). u.last_serial) n.ensures.ticked ∙ ap (λ (u : WheelState). u.last_serial) m.ensures.state in
    record {
      in_time = in_time_ticked Wide w.wheels.buckets m.new.wheels.buckets n.new.self.buckets w.paces m.new.paces
          c.fix_paces.new.paces w.in_time m.ensures.tick m.ensures.moved n.ensures.tick n.ensures.kept
          c.fix_paces.ensures.begun c.fix_paces.ensures.others;
      few_starts = omega (arith, w.few_starts);
      paid = omega (arith, w.paid, m.ensures.falls, n.ensures.potential);
    }

pub returns-clause-bound : goal.returns-clause-bound
returns-clause-bound g c = λ n f. omega (arith, c.move_all-moves.ensures.at_most, sum_bound n c.args.self.now.paces f)

pub returns-clause-paced : goal.returns-clause-paced
returns-clause-paced g c =
    let w = c.args.self.now in
    let m = c.move_all-moves in
    let n = c.next_tick in
    λ most held f. c.fix_paces.ensures.fit most (omega (arith, held_rows n.new.self.buckets, held))
    (fit_lower (radices Wide) most w.paces m.new.paces f m.ensures.paces)

pub returns-clause-counted : goal.returns-clause-counted
returns-clause-counted g c =
    let m = c.move_all-moves in
    let n = c.next_tick in
    omega (arith, m.ensures.falls, n.ensures.potential)
