use Rattle.std.proofs.Common.{◌<◌, ◌≤◌, ◌+◌, ◌*◌, ◌/◌, arith, rules}
use Rattle.timer_wheels.specs.declared.table.Table.TheVariants.{Wide}
use Rattle.timer_wheels.proofs.smooth_lemmas.PaceSums.{held_quotient, enough, sixteen_ticks}
use Rattle.timer_wheels.proofs.table_lemmas.TableLaws.{of_table}
use Rattle.timer_wheels.proofs.smooth_lemmas.Descent.{few_lists}
use Rattle.timer_wheels.proofs.smooth.early_moves.pace_of.Goals as goal

pub has-requires : goal.has-requires
has-requires g c = omega (arith, c.next_list.ensures.in_range, few_lists Wide)

pub nonzero_div-result : goal.nonzero_div-result
nonzero_div-result g c =
    let t = Wide in
    omega (arith, c.weight_of.ensures, sixteen_ticks t c.args.wheel (of_table t).is_table c.requires.above)

pub overflow_add-result : goal.overflow_add-result
overflow_add-result g c =
    let q : c.len-held.result / c.weight_of.result ≤ 268435456 =
    rw c.weight_of.ensures (held_quotient Wide c.args.wheel c.len-held.result c.requires.above
    (omega (arith, c.len-held.ensures, c.lemma_countable.ensures))) in
    let h : c.len-held.result / c.weight_of.result + 1 < 18446744073709551616 = omega arith in
    search rules

pub overflow_mul-result : goal.overflow_mul-result
overflow_mul-result g c =
    let q : c.len-held.result / c.weight_of.result ≤ 268435456 =
    rw c.weight_of.ensures (held_quotient Wide c.args.wheel c.len-held.result c.requires.above
    (omega (arith, c.len-held.ensures, c.lemma_countable.ensures))) in
    let h : 2 * (c.len-held.result / c.weight_of.result + 1) < 18446744073709551616 = omega arith in
    search rules

pub returns-clause-most : goal.returns-clause-most
returns-clause-most g c =
    let q : c.len-held.result / c.weight_of.result ≤ 268435456 =
    rw c.weight_of.ensures (held_quotient Wide c.args.wheel c.len-held.result c.requires.above
    (omega (arith, c.len-held.ensures, c.lemma_countable.ensures))) in
    omega arith

pub returns-clause-enough : goal.returns-clause-enough
returns-clause-enough g c = λ h. rw c.weight_of.ensures (enough Wide c.args.wheels.now.buckets c.args.wheel c.len-held.result
    c.requires.above c.len-held.ensures h)
