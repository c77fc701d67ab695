use Rattle.timer_durable.proofs.calls.Calls.copied.Given as goal

abbrev pub ghost-of : goal.ghost-of
ghost-of g a = g.calls
