use Rattle.std.proofs.Common.{subst, arith}
use Rattle.timer_desk_c.specs.Rounds.{HasFlushedFirst}
use Rattle.timer_desk_c.proofs.RoundLemmas.{ring_stopped, flushing_nothing, flushing_more}
use Rattle.timer_desk_c.proofs.rounds.flush_each.Goals as goal

pub loop-client-init : goal.loop-client-init
loop-client-init g c = record {
  done = flushing_nothing c.args.desk.now c.lemma_invariant.ensures.kept;
  all = c.clients-client-end.ensures;
}

pub loop-client-preserved : goal.loop-client-preserved
loop-client-preserved g c =
    let was = c.loop-client.invariant in
    let k = c.loop-client.client in record {
      done = flushing_more k c.flush.result c.loop-client.busy c.args.desk.now c.loop-client.desk c.flush.new.self was.done
          c.flush.ensures.report c.flush.ensures.flushes (λ i. ring_stopped (c.flush.ensures.stopped i));
      all = was.all;
    }

pub returns : goal.returns
returns g c =
    let all = c.loop-client.invariant.all in
    subst (λ k. HasFlushedFirst k c.loop-client.busy c.args.desk.now c.loop-client.desk)
    (omega (arith, all, c.loop-client-test.false, c.loop-client.auto.client-end)) c.loop-client.invariant.done
