use Rattle.timer_runs.proofs.RunLemmas.{run_keeps}
use Rattle.timer_runs.proofs.laws.each_timer_is_somewhere.Goals as goal

pub returns : goal.returns
returns c = run_keeps
