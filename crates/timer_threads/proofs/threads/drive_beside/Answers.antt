use Rattle.std.proofs.Common.{◌≡◌, vec_len, subst, arith}
use Rattle.std.specs.Prelude.{IfOk}
use Rattle.timer_threads.specs.Children.{threads_of}
use Rattle.timer_threads.specs.Threads.{whole_text}
use Rattle.timer_threads.proofs.ThreadLemmas.{opened_new, driven_lines, work_kept, all_left, is_run, run_succeeded, run_failed}
use Rattle.timer_threads.proofs.threads.drive_beside.Goals as goal

pub end_all-requires-clause-lines : goal.end_all-requires-clause-lines
end_all-requires-clause-lines g c =
    driven_lines (vec_len c.args.inlets) c.args.timers c.args.limit c.args.inlets.items c.in-Ok.desk
    c.drive-desk.result.desk c.drive-desk.result.outcome (threads_of c.args.children) c.join-2.result.items
    (opened_new (vec_len c.args.inlets) c.args.inlets.items c.args.facility c.in-Ok.desk c.in-Ok.ensures.ok c.requires.new)
    c.args.inlets.ok.0 c.requires.tied c.drive-desk.ensures c.join-2.ensures

pub end_all-requires-clause-counts : goal.end_all-requires-clause-counts
end_all-requires-clause-counts g c = λ k w l.
    (work_kept c.args.timers c.args.limit c.args.inlets.items (threads_of c.args.children) c.join-2.result.items c.requires.tied
    c.join-2.ensures k w l).worked.complete

pub returns : goal.returns
returns g c =
    let timers = c.args.timers in
    let children = threads_of c.args.children in
    let left = all_left timers c.args.limit c.args.inlets.items children c.join-2.result.items c.requires.tied c.join-2.ensures in
    let as_many : vec_len c.join-2.result ≡ vec_len c.args.inlets = omega (arith, left, c.join-2.result.ok, c.args.inlets.ok) in
    let run = is_run (vec_len c.args.inlets) timers c.args.limit c.args.inlets.items c.in-Ok.desk
    c.drive-desk.result.desk c.drive-desk.result.outcome children c.join-2.result.items
    (opened_new (vec_len c.args.inlets) c.args.inlets.items c.args.facility c.in-Ok.desk c.in-Ok.ensures.ok c.requires.new)
    c.args.inlets.ok.0 c.requires.tied c.drive-desk.ensures c.join-2.ensures in record {
      text = subst (λ n. IfOk c.end_all.result (λ text. text.items ≡ whole_text n timers)) as_many c.end_all.ensures.text;
      ended = run_succeeded (vec_len c.args.inlets) timers c.args.limit c.drive-desk.result.desk c.drive-desk.result.outcome
          c.join-2.result.items run c.end_all.result c.end_all.ensures.ended;
      failed = run_failed (vec_len c.args.inlets) timers c.args.limit c.drive-desk.result.desk c.drive-desk.result.outcome
          c.join-2.result.items run c.end_all.result c.end_all.ensures.fault;
    }
