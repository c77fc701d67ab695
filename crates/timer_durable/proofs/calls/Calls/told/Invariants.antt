use Rattle.timer_script.specs.Peer.{Told}
use Rattle.timer_durable.proofs.calls.Calls.told.Given as goal

abbrev pub ghost-note : goal.ghost-note
ghost-note a = Told a._bytes.now
