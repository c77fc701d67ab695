use Rattle.timer_runs.proofs.RunLemmas.{run_once}
use Rattle.timer_runs.proofs.laws.each_timer_is_taken_once.Goals as goal

pub returns : goal.returns
returns c = run_once
