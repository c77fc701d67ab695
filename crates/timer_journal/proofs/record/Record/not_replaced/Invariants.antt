use Rattle.timer_journal.specs.Host.{NotReplaced}
use Rattle.timer_journal.proofs.record.Record.not_replaced.Given as goal

abbrev pub ghost-note : goal.ghost-note
ghost-note a = NotReplaced
