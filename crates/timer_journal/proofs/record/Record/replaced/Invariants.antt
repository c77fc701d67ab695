use Rattle.timer_journal.specs.Host.{Replaced}
use Rattle.timer_journal.proofs.record.Record.replaced.Given as goal

abbrev pub ghost-note : goal.ghost-note
ghost-note a = Replaced a._bytes.now
