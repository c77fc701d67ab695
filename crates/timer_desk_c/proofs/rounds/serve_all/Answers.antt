use Rattle.std.proofs.Common.{subst, arith}
use Rattle.timer_desk_c.specs.Rounds.{HasServedFirst}
use Rattle.timer_desk_c.proofs.RoundLemmas.{round_nothing, round_more}
use Rattle.timer_desk_c.proofs.rounds.serve_all.Goals as goal

pub loop-client-init : goal.loop-client-init
loop-client-init g c = record {
  done = round_nothing c.args.most c.args.desk.now c.lemma_invariant.ensures.kept;
  all = c.clients-client-end.ensures;
}

pub loop-client-preserved : goal.loop-client-preserved
loop-client-preserved g c =
    let was = c.loop-client.invariant in
    let k = c.loop-client.client in record {
      done = round_more c.args.most k c.loop-client.busy c.loop-client.starved c.serve_up_to-round.result.busy
          c.serve_up_to-round.result.starved c.args.desk.now c.loop-client.desk c.serve_up_to-round.new.desk was.done
          c.serve_up_to-round.ensures;
      all = was.all;
    }

pub returns : goal.returns
returns g c =
    let was = c.loop-client.invariant in
    let all = was.all in record {
      busy = c.loop-client.busy;
      out_of_memory = c.loop-client.starved;
      each = subst (λ k. HasServedFirst c.args.most k c.loop-client.busy c.loop-client.starved c.args.desk.now c.loop-client.desk)
          (omega (arith, all, c.loop-client-test.false, c.loop-client.auto.client-end)) was.done;
      status_is = c.round_status.ensures;
    }
