use Rattle.timer_runs.proofs.RunLemmas.{run_numbers}
use Rattle.timer_runs.proofs.laws.serials_rise.Goals as goal

pub returns : goal.returns
returns c = run_numbers
