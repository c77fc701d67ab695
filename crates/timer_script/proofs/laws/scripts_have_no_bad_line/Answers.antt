use Rattle.timer_script.proofs.ScriptReportLemmas.{no_bad_lines, script_has_none}
use Rattle.timer_script.proofs.laws.scripts_have_no_bad_line.Goals as goal

pub returns-clause-script : goal.returns-clause-script
returns-clause-script c = no_bad_lines

pub returns-clause-none : goal.returns-clause-none
returns-clause-none c = script_has_none
