use Rattle.timer_runs.proofs.RunLemmas.{run_old}
use Rattle.timer_runs.proofs.laws.an_older_handle_names_nothing.Goals as goal

pub returns : goal.returns
returns c = run_old
