use Rattle.std.proofs.Common.{slice_index}
use Rattle.timer_journal.specs.Host.{Cut}
use Rattle.timer_journal.proofs.record.Record.cut.Given as goal

abbrev pub ghost-note : goal.ghost-note
ghost-note a = Cut (slice_index a._numbers.now 0)
