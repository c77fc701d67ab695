use Rattle.std.proofs.Common.{subst, arith}
use Rattle.timer_desk_c.specs.Freed.{HasDroppedFirst}
use Rattle.timer_desk_c.proofs.RoundLemmas.{dropping_nothing, dropping_more}
use Rattle.timer_desk_c.proofs.rounds.drop_each.Goals as goal

pub loop-client-init : goal.loop-client-init
loop-client-init g c = record { done = dropping_nothing c.args.desk.now; all = c.clients-client-end.ensures }

pub loop-client-preserved : goal.loop-client-preserved
loop-client-preserved g c =
    let was = c.loop-client.invariant in
    let k = c.loop-client.client in record {
      done = dropping_more k c.drop_rest.result c.loop-client.dropped c.args.desk.now c.loop-client.desk c.drop_rest.new.desk
          was.done c.drop_rest.ensures.dropped c.drop_rest.ensures.count;
      all = was.all;
    }

pub returns : goal.returns
returns g c =
    let all = c.loop-client.invariant.all in
    subst (λ k. HasDroppedFirst k c.loop-client.dropped c.args.desk.now c.loop-client.desk)
    (omega (arith, all, c.loop-client-test.false, c.loop-client.auto.client-end)) c.loop-client.invariant.done.first
