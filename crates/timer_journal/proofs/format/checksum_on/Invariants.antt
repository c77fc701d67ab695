use Rattle.std.proofs.Common.{◌≡◌, drop}
use Rattle.timer_journal.specs.Format.{checksum_from}
use Rattle.timer_journal.proofs.format.checksum_on.Given as goal

-- the checksum so far goes on with the bytes that are left
abbrev pub invariant-loop-byte : goal.invariant-loop-byte
invariant-loop-byte l = checksum_from l.sum (drop l.byte-index l.bytes) ≡ checksum_from l.start l.bytes
