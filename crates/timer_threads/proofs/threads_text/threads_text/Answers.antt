use Rattle.std.proofs.Common.{◌≤◌, ◌++◌, length, sym, ◌∙◌, ap, arith, codes}
use Rattle.std.specs.List.{flat_map, enumerate_from}
use Rattle.std.proofs.lemmas.List.{take_all}
use Rattle.std.proofs.lemmas.List.FromFn.{length-enumerate_from}
use Rattle.timer_threads.specs.Threads.{client_text, client_line}
use Rattle.timer_threads.proofs.ThreadLemmas.{clients_text-next}
use Rattle.timer_threads.proofs.threads_text.threads_text.Goals as goal

pub loop-client-preserved : goal.loop-client-preserved
loop-client-preserved c =
    let w = c.index-all-client.result in
    c.in_ok-push_client.ensures
    ∙ ap (λ t. t ++ client_line c.loop-client.client w.sent w.started w.expired) c.loop-client.invariant
    ∙ sym (clients_text-next c.args.all.now c.loop-client.client w (omega (arith, c.loop-client-test.true, c.loop-client.auto.client-end))
    c.index-all-client.is)

pub returns : goal.returns
returns c =
    let all : length c.args.all.now ≤ c.loop-client.client = omega (arith, c.loop-client-test.false, c.loop-client.auto.client-end) in
    let long = length-enumerate_from 0 c.args.all.now in
    c.in_ok-extend_from_slice.ensures.items
    ∙ ap (λ t. t ++ codes "end\n") (c.loop-client.invariant
    ∙ ap (flat_map client_text) (take_all c.loop-client.client (enumerate_from 0 c.args.all.now) (omega (arith, all, long))))
