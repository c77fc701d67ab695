use Rattle.timer_script.specs.Peer.{Came}
use Rattle.timer_durable.proofs.calls.Calls.came.Given as goal

abbrev pub ghost-note : goal.ghost-note
ghost-note a = Came a._bytes.now
