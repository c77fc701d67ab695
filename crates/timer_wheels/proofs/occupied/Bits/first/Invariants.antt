use Rattle.timer_wheels.proofs.bucket_lemmas.OccupiedLemmas.{AreClear}
use Rattle.timer_wheels.proofs.occupied.Bits.first.Given as goal

abbrev pub invariant-loop-k : goal.invariant-loop-k
invariant-loop-k g l = AreClear l.k l.self
