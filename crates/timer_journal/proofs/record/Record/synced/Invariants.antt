use Rattle.timer_journal.specs.Host.{Synced}
use Rattle.timer_journal.proofs.record.Record.synced.Given as goal

abbrev pub ghost-note : goal.ghost-note
ghost-note a = Synced
