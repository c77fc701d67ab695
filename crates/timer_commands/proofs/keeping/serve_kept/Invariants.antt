use Rattle.timer_commands.proofs.keeping.serve_kept.Given as goal

abbrev pub ghost-new : goal.ghost-new
ghost-new g a = record { contents = (g.P.Peer.state a.peer).contents; lines = a.kept.lines.items }
