use Rattle.timer_journal.specs.Host.{LostSync}
use Rattle.timer_journal.proofs.record.Record.lost_sync.Given as goal

abbrev pub ghost-note : goal.ghost-note
ghost-note a = LostSync
