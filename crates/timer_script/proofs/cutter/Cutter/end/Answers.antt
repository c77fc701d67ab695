use Rattle.std.proofs.Common.{◌++◌, ◌∙◌, rules, ap, subst}
use Rattle.timer_script.specs.Cutter.{HasReported, complaint_line}
use Rattle.timer_script.specs.declared.lines.Grammar.TheVariants.{Stream}
use Rattle.timer_script.specs.Diagnosis.{IsFaultOf}
use Rattle.timer_script.proofs.CutterLemmas.{ended_none, ended_stopped, ended_bad}
use Rattle.timer_script.proofs.cutter.Cutter.end.Goals as goal

pub returns-then-is_empty-clause-ended : goal.returns-then-is_empty-clause-ended
returns-then-is_empty-clause-ended g c = λ o writer came events h. ended_none h (search rules)

pub returns-in-Stop-clause-ended : goal.returns-in-Stop-clause-ended
returns-in-Stop-clause-ended g c = λ o writer came events h. ended_stopped h (search rules) c.in-Stop.is

pub returns-in_ok-push_complaint-in-Report-clause-ended : goal.returns-in_ok-push_complaint-in-Report-clause-ended
returns-in_ok-push_complaint-in-Report-clause-ended g c = λ o writer came events h.
    let self = c.args.self.now in
    let v = c.write_report.new.writer in
    let fault = c.fault_of_bad-fault.result in
    ended_bad v fault c.push_complaint.new.reports.items h (search rules) c.in-Report.is
    (subst (IsFaultOf Stream fault) c.deref.ensures.value c.fault_of_bad-fault.ensures)
    (c.in_ok-push_complaint-in-Report.ensures ∙ ap (λ t. t ++ complaint_line (self.number, fault)) c.clear.ensures.items)
    (subst (λ x. HasReported g.F.Write.contents c.args.faults.now v x) c.deref-in-Report.ensures.value c.write_report.ensures.reported)
