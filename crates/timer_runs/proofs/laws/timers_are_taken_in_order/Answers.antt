use Rattle.timer_runs.proofs.RunLemmas.{run_in_order}
use Rattle.timer_runs.proofs.laws.timers_are_taken_in_order.Goals as goal

pub returns : goal.returns
returns c = run_in_order
