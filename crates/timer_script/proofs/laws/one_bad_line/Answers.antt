use Rattle.timer_script.proofs.ScriptLemmas.{no_bad_line, one_bad_line_is}
use Rattle.timer_script.proofs.laws.one_bad_line.Goals as goal

pub returns-clause-no_script : goal.returns-clause-no_script
returns-clause-no_script c = no_bad_line

pub returns-clause-one : goal.returns-clause-one
returns-clause-one c = one_bad_line_is
