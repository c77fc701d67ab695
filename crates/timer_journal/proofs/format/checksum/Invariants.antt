use Rattle.std.proofs.Common.{◌≡◌, length}
use Rattle.timer_journal.specs.Format.{checksum_from, checksum}
use Rattle.timer_journal.proofs.format.checksum.Given as goal

-- the checksum so far goes on with the bytes that are left
abbrev pub invariant-loop-rest : goal.invariant-loop-rest
invariant-loop-rest l = checksum_from l.sum l.rest ≡ checksum l.bytes

abbrev pub decreases-loop-rest : goal.decreases-loop-rest
decreases-loop-rest l = length l.rest
