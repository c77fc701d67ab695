use Rattle.std.proofs.Common.{take}
use Rattle.timer_durable.specs.Beginning.{IsWithout}
use Rattle.timer_durable.proofs.beginning.len_before.Given as goal

abbrev pub invariant-loop-i : goal.invariant-loop-i
invariant-loop-i l = record { before : IsWithout l.end (take l.i l.bytes) }
