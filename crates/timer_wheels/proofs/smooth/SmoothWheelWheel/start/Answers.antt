use Rattle.std.proofs.Common.{◌<◌, ◌≤◌, ◌+◌, ◌*◌, arith, rules}
use Rattle.timer_base.specs.declared.limits.TheConstants.{LAST}
use Rattle.timer_wheels.specs.smooth.Wheels.{potential_of}
use Rattle.timer_wheels.specs.declared.table.Table.TheVariants.{Wide}
use Rattle.timer_wheels.proofs.smooth_lemmas.Totals.{paid_most}
use Rattle.timer_wheels.proofs.table_lemmas.TableLaws.{of_table}
use Rattle.timer_wheels.proofs.smooth.SmoothWheelWheel.start.Goals as goal

pub overflow_add-self-2 : goal.overflow_add-self-2
overflow_add-self-2 g c =
    let w = c.args.self.now in
    let b = w.wheels.buckets in
    let p : w.moves + potential_of Wide b ≤ 9 * LAST =
    paid_most Wide w.starts b.last_serial w.moves (potential_of Wide b) w.few_starts b.sound.serial_in_range w.paid in
    let h : w.moves + c.make_way.result < 18446744073709551616 =
    omega (arith, c.make_way.ensures.falls, c.in_ok-handle.ensures.comes.potential, (of_table Wide).few_wheels) in
    search rules

pub returns-clause-counted : goal.returns-clause-counted
returns-clause-counted g c =
    omega (arith, c.make_way.ensures.falls, c.in_ok-handle.ensures.potential)
