use Rattle.std.proofs.Common.{◌<◌, length, get_or, refl, ap, arith}
use Rattle.std.proofs.lemmas.List.{get_or_default}
use Rattle.timer_desk_c.specs.DeskSlots.{RingDesk}
use Rattle.timer_desk_c.proofs.EndingLemmas.{ending_nothing, ending_more, ending_done}
use Rattle.timer_desk_c.proofs.ending.end_each.Goals as goal

pub loop-client-init : goal.loop-client-init
loop-client-init g c = record { done = ending_nothing c.args.lives c.args.desk.now c.args.lines.now; refused = tt; all = refl }

pub loop-client-preserved : goal.loop-client-preserved
loop-client-preserved g c =
    let was = c.loop-client.invariant in
    let k = c.loop-client.client in
    let now = c.loop-client.lines in
    let line = get_or now k c.index-lines-client.result in
    let tried = c.end_held-status.ensures in
    let first = c.first_left-left.ensures in
    let test = c.loop-client-test.true in
    let all = was.all in
    let many = was.done.as_many in
    let low : k < length now = omega (arith, test, all, many) in record {
      done = ending_more c.args.lives k c.end_held-status.result c.loop-client.left c.first_left-left.result c.args.desk.now c.loop-client.desk
          c.end_held-status.new.desk c.args.lines.now now line c.end_held-status.new.line was.done low c.requires.as_many
          (λ x. get_or_default now k c.index-lines-client.result x low)
          (λ i. record {
            over = λ ok. tried.over ok i;
            left = λ more. tried.left more i;
            same_inlet = λ more other held. ap (λ (d : RingDesk). get_or d.inlets k i) (tried.same more other held);
            looked = λ none. tried.looked none i;
            still_gone = tried.desk.still_gone i;
          }) tried.desk tried.only first.next;
      refused = first.still was.refused;
      all = refl;
    }

pub returns-clause-tried : goal.returns-clause-tried
returns-clause-tried g c =
    let was = c.loop-client.invariant in
    let all = was.all in
    ending_done c.args.lives c.loop-client.client c.loop-client.left c.args.desk.now c.loop-client.desk c.args.lines.now c.loop-client.lines
    was.done (omega (arith, all, c.loop-client-test.false, c.loop-client.auto.client-end)) c.requires.as_many
