use Rattle.std.proofs.Common.{arith, rules}
use Rattle.timer_wheels.proofs.table_lemmas.EqualDigits.{begun_bucket, next_bucket, bucket_is, bucket_in_slots, shrinks}
use Rattle.timer_wheels.proofs.table.equal.bucket_of.Goals as goal

pub loop-from-init : goal.loop-from-init
loop-from-init g c = begun_bucket g.row.BITS g.row.WHEELS c.requires.few c.radix_of-radix.result c.args.now c.args.deadline
    c.radix_of-radix.ensures.value c.requires.later c.requires.deadline

pub loop-from-smaller : goal.loop-from-smaller
loop-from-smaller g c = shrinks g.row.BITS g.row.WHEELS c.requires.few c.radix_of-radix.result c.radix_of-radix.ensures.value
    c.loop-from.to (omega (arith, c.loop-from.invariant.later))

pub loop-from-preserved : goal.loop-from-preserved
loop-from-preserved g c = next_bucket g.row.BITS g.row.WHEELS c.requires.few c.radix_of-radix.result c.radix_of-radix.ensures.value
    c.args.now c.args.deadline c.loop-from.below c.loop-from.from c.loop-from.to c.loop-from.invariant (search rules)

pub returns-clause-value : goal.returns-clause-value
returns-clause-value g c = bucket_is g.row.BITS g.row.WHEELS c.requires.few c.radix_of-radix.result c.radix_of-radix.ensures.value
    c.args.now c.args.deadline c.loop-from.below c.loop-from.from c.loop-from.to c.loop-from.invariant (search rules)

pub returns-clause-in_range : goal.returns-clause-in_range
returns-clause-in_range g c = bucket_in_slots g.row.BITS g.row.WHEELS c.requires.few c.radix_of-radix.result
    c.radix_of-radix.ensures.value c.args.now c.args.deadline c.loop-from.below c.loop-from.from c.loop-from.to c.loop-from.invariant
