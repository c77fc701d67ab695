use Rattle.std.proofs.Common.{slice_index}
use Rattle.timer_journal.specs.Host.{WroteInPart}
use Rattle.timer_journal.proofs.record.Record.wrote_in_part.Given as goal

abbrev pub ghost-note : goal.ghost-note
ghost-note a = WroteInPart (slice_index a._numbers.now 0) a._bytes.now
