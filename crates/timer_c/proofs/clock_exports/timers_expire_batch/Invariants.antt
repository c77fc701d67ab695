use Rattle.timer_c.proofs.Batches.{AreTaken}
use Rattle.timer_c.proofs.clock_exports.timers_expire_batch.Given as goal

-- this many were taken, and are written over the front of the array
abbrev pub invariant-loop-count : goal.invariant-loop-count
invariant-loop-count l = record {
  taken : AreTaken l.count l.initial.out l.initial.timers l.out l.timers;
}
