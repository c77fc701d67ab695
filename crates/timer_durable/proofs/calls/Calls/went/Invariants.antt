use Rattle.timer_script.specs.Peer.{Went}
use Rattle.timer_durable.proofs.calls.Calls.went.Given as goal

abbrev pub ghost-note : goal.ghost-note
ghost-note a = Went a._bytes.now
