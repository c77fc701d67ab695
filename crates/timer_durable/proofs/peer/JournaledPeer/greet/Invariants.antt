use Rattle.timer_durable.proofs.peer.JournaledPeer.greet.Given as goal

abbrev pub ghost-copied : goal.ghost-copied
ghost-copied g a = a.self.now.so_far
