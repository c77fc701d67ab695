use Rattle.timer_runs.proofs.RunLemmas.{run_all_out}
use Rattle.timer_runs.proofs.laws.a_take_that_finds_none_has_taken_all.Goals as goal

pub returns : goal.returns
returns c = run_all_out
