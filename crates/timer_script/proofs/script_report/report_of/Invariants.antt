use Rattle.std.proofs.Common.{length}
use Rattle.timer_script.proofs.ScriptReportLemmas.{HasReportedTo}
use Rattle.timer_script.proofs.script_report.report_of.Given as goal

abbrev pub invariant-loop-rest : goal.invariant-loop-rest
invariant-loop-rest l = HasReportedTo l.script l.rest l.lines l.bad l.text.items

abbrev pub decreases-loop-rest : goal.decreases-loop-rest
decreases-loop-rest l = length l.rest
