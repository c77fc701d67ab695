use Rattle.timer_runs.proofs.RunLemmas.{run_on_time}
use Rattle.timer_runs.proofs.laws.each_timer_is_taken_at_its_deadline.Goals as goal

pub returns : goal.returns
returns c = run_on_time
