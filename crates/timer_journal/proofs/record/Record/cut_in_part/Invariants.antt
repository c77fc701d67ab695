use Rattle.std.proofs.Common.{slice_index}
use Rattle.timer_journal.specs.Host.{CutInPart}
use Rattle.timer_journal.proofs.record.Record.cut_in_part.Given as goal

abbrev pub ghost-note : goal.ghost-note
ghost-note a = CutInPart (slice_index a._numbers.now 0)
