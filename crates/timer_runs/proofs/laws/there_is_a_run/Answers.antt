use Rattle.timer_runs.proofs.RunExample.{an_example}
use Rattle.timer_runs.proofs.laws.there_is_a_run.Goals as goal

pub returns : goal.returns
returns c = an_example
