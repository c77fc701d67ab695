use Rattle.timer_wheels.proofs.table_lemmas.EqualDigits.{IsBucketAbove}
use Rattle.timer_wheels.proofs.table.equal.bucket_of.Given as goal

abbrev pub invariant-loop-from : goal.invariant-loop-from
invariant-loop-from g l = IsBucketAbove l.radix g.row.WHEELS l.now l.deadline l.below l.from l.to

abbrev pub decreases-loop-from : goal.decreases-loop-from
decreases-loop-from g l = l.to
