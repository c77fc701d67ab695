use Rattle.timer_journal.specs.Host.{Found}
use Rattle.timer_journal.proofs.record.Record.found.Given as goal

abbrev pub ghost-note : goal.ghost-note
ghost-note a = Found a._bytes.now
