use Rattle.timer_journal.specs.Host.{Refused}
use Rattle.timer_journal.proofs.record.Record.refused.Given as goal

abbrev pub ghost-note : goal.ghost-note
ghost-note a = Refused
