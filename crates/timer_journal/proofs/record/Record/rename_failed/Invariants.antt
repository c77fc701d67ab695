use Rattle.timer_journal.specs.Host.{RenameFailed}
use Rattle.timer_journal.proofs.record.Record.rename_failed.Given as goal

abbrev pub ghost-note : goal.ghost-note
ghost-note a = RenameFailed a._bytes.now
