use Rattle.std.proofs.Common.{slice_index}
use Rattle.timer_journal.specs.Host.{Wrote}
use Rattle.timer_journal.proofs.record.Record.wrote.Given as goal

abbrev pub ghost-note : goal.ghost-note
ghost-note a = Wrote (slice_index a._numbers.now 0) a._bytes.now
