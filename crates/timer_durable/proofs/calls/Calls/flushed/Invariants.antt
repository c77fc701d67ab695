use Rattle.timer_script.specs.Peer.{Flush}
use Rattle.timer_durable.proofs.calls.Calls.flushed.Given as goal

abbrev pub ghost-note : goal.ghost-note
ghost-note a = Flush
