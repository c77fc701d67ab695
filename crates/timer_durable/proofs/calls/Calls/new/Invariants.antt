use Rattle.std.specs.Prelude.{[]}
use Rattle.timer_durable.proofs.calls.Calls.new.Given as goal

abbrev pub ghost-of : goal.ghost-of
ghost-of a = []
