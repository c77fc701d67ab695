use Rattle.timer_runs.proofs.RunLemmas.{run_accounts}
use Rattle.timer_runs.proofs.laws.each_timer_is_accounted_for.Goals as goal

pub returns : goal.returns
returns c = run_accounts
