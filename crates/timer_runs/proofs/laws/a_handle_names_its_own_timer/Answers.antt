use Rattle.timer_runs.proofs.RunLemmas.{run_names}
use Rattle.timer_runs.proofs.laws.a_handle_names_its_own_timer.Goals as goal

pub returns : goal.returns
returns c = run_names
