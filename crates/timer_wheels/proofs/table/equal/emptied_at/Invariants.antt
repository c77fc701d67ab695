use Rattle.timer_wheels.proofs.table_lemmas.EqualDigits.{IsEmptiedAbove}
use Rattle.timer_wheels.proofs.table.equal.emptied_at.Given as goal

abbrev pub invariant-loop-rest : goal.invariant-loop-rest
invariant-loop-rest g l = IsEmptiedAbove l.radix g.row.WHEELS l.tick l.below l.rest

abbrev pub decreases-loop-rest : goal.decreases-loop-rest
decreases-loop-rest g l = l.rest
