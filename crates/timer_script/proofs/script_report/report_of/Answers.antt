use Rattle.std.proofs.Common.{rules, ◌≡◌, ◌+◌, Some, None, sym, ◌∙◌, arith, append-nil}
use Rattle.timer_script.proofs.Results.{emptied}
use Rattle.timer_script.proofs.ScriptReportLemmas.{line_more, reported_all}
use Rattle.timer_script.proofs.script_report.report_of.Goals.{in-Some+in_ok-push_fault, in_default}
use Rattle.timer_script.proofs.script_report.report_of.Goals as goal

pub loop-rest-preserved : goal.loop-rest-preserved
loop-rest-preserved c =
    let l = c.line_len-len.ensures in
    let m = c.match-fault_in_line in
    elim m.branch [
      | in-Some+in_ok-push_fault w ↦
          line_more _ _ _ _ _ m.bad _ m.text.items (Some w.in-Some.fault) c.loop-rest.invariant l.some l.within l.no_feed l.whole w.in-Some.ensures (search rules)
          (let more : m.bad ≡ c.loop-rest.bad + 1 = search rules in omega arith)
      | in_default w ↦
          line_more _ _ _ _ _ m.bad _ m.text.items None c.loop-rest.invariant l.some l.within l.no_feed l.whole w.in_default.ensures
          (let same : m.text.items ≡ c.loop-rest.text.items = search rules in same ∙ sym (append-nil c.loop-rest.text.items))
          (let same : m.bad ≡ c.loop-rest.bad = search rules in omega arith)
    ]

pub returns : goal.returns
returns c =
    reported_all _ _ _ _ _ c.loop-rest.invariant
    (emptied c.loop-rest.rest.now (sym c.is_empty.ensures ∙ c.loop-rest-test.false))
