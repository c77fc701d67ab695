use Rattle.std.proofs.Common.{◌≤◌, ◌+◌, ◌-◌, ◌/◌, ◌%◌, ◌^◌, rules}
use Rattle.timer_wheels.proofs.table_lemmas.EqualDigits.{wheel_in_range, visit_in_word, visit_by_bits}
use Rattle.timer_wheels.proofs.table.equal.visit_of.Goals as goal

pub bits_below-shift-requires-clause-wheel : goal.bits_below-shift-requires-clause-wheel
bits_below-shift-requires-clause-wheel g c = wheel_in_range g.row.BITS g.row.WHEELS c.requires.few c.radix_of-radix.result
    c.radix_of-radix.ensures.value c.args.list c.requires.list

pub overflow_add-result : goal.overflow_add-result
overflow_add-result g c =
    let h : c.args.now / 2 ^ c.bits_below-shift.result - c.args.now / 2 ^ c.bits_below-shift.result % c.radix_of-radix.result
    + c.args.list % c.radix_of-radix.result ≤ 2305843009213693951 =
    visit_in_word g.row.BITS g.row.WHEELS c.requires.few c.radix_of-radix.result c.bits_below-shift.result c.args.list c.args.now
    c.radix_of-radix.ensures.value c.requires.now in
    search rules

pub returns : goal.returns
returns g c = visit_by_bits g.row.BITS g.row.WHEELS c.requires.few c.radix_of-radix.result c.bits_below-shift.result c.args.list
    c.args.now c.radix_of-radix.ensures.value c.bits_below-shift.ensures.value c.requires.list c.requires.now
