use Rattle.std.proofs.Common.{arith, rules}
use Rattle.timer_wheels.proofs.table_lemmas.EqualDigits.{begun_emptied, next_emptied, emptied_is, emptied_in_slots, shrinks}
use Rattle.timer_wheels.proofs.table.equal.emptied_at.Goals as goal

pub loop-rest-init : goal.loop-rest-init
loop-rest-init g c = begun_emptied g.row.BITS g.row.WHEELS c.requires.few c.radix_of-radix.result c.args.tick
    c.radix_of-radix.ensures.value c.requires.later c.requires.in_range

pub loop-rest-smaller : goal.loop-rest-smaller
loop-rest-smaller g c = shrinks g.row.BITS g.row.WHEELS c.requires.few c.radix_of-radix.result c.radix_of-radix.ensures.value
    c.loop-rest.rest (omega (arith, c.loop-rest.invariant.later))

pub loop-rest-preserved : goal.loop-rest-preserved
loop-rest-preserved g c = next_emptied g.row.BITS g.row.WHEELS c.requires.few c.radix_of-radix.result c.radix_of-radix.ensures.value
    c.args.tick c.loop-rest.below c.loop-rest.rest c.loop-rest.invariant (search rules)

pub returns-clause-value : goal.returns-clause-value
returns-clause-value g c = emptied_is g.row.BITS g.row.WHEELS c.requires.few c.radix_of-radix.result c.radix_of-radix.ensures.value
    c.args.tick c.loop-rest.below c.loop-rest.rest c.loop-rest.invariant (search rules)

pub returns-clause-in_range : goal.returns-clause-in_range
returns-clause-in_range g c = emptied_in_slots g.row.BITS g.row.WHEELS c.requires.few c.radix_of-radix.result
    c.radix_of-radix.ensures.value c.args.tick c.loop-rest.below c.loop-rest.rest c.loop-rest.invariant
