use Rattle.timer_runs.proofs.RunLemmas.{run_takes}
use Rattle.timer_runs.proofs.laws.each_timer_is_taken.Goals as goal

pub returns : goal.returns
returns c = run_takes
