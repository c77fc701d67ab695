use Rattle.timer_durable.proofs.peer.JournaledPeer.new.Given as goal

abbrev pub ghost-new : goal.ghost-new
ghost-new g a = g.at
