use Rattle.std.proofs.Common.{◌≤◌, ◌*◌, rules}
use Rattle.timer_wheels.proofs.table_lemmas.EqualDigits.{few_below, few_wheels}
use Rattle.timer_wheels.proofs.table.equal.bits_below.Goals as goal

pub overflow_cast-result : goal.overflow_cast-result
overflow_cast-result g c =
    let h : c.args.wheel ≤ 9 = few_wheels g.row.BITS g.row.WHEELS c.requires.few c.args.wheel c.requires.wheel in
    search rules

pub overflow_mul-result : goal.overflow_mul-result
overflow_mul-result g c =
    let h : g.row.BITS * c.args.wheel ≤ 54 = few_below g.row.BITS g.row.WHEELS c.requires.few c.args.wheel c.requires.wheel in
    search rules

pub returns-clause-few : goal.returns-clause-few
returns-clause-few g c = few_below g.row.BITS g.row.WHEELS c.requires.few c.args.wheel c.requires.wheel
