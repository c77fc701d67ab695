use Rattle.std.proofs.Common.{◌≤◌, arith}
use Rattle.timer_wheels.proofs.hashed_lemmas.CountdownLemmas.{measured_none, measured_one}
use Rattle.timer_wheels.proofs.bucket_lemmas.WalkLemmas.{gathered_none, gathered_one, gathered_all, here_in_use}
use Rattle.timer_wheels.proofs.hashed.revolutions.fewest_in_list.Goals as goal

pub loop-step-init : goal.loop-step-init
loop-step-init c = gathered_none c.args.list c.args.links.now.lists c.front-at.result c.front-at.ensures (measured_none c.args.most)

pub step-here-requires : goal.step-here-requires
step-here-requires c = here_in_use c.loop-step.invariant c.requires c.lemma_keys_unique.ensures c.in-Some.key c.in-Some.is

pub loop-step-preserved : goal.loop-step-preserved
loop-step-preserved c =
    let s = c.loop-step in
    let here = c.step-here in
    gathered_one s.invariant c.requires c.lemma_keys_unique.ensures c.in-Some.key c.in-Some.is here.result.next here.ensures.next
    (λ node e h. measured_one c.args.most s.fewest here.result.rounds c.min-fewest.result c.in-Some.key node s.invariant.past
    (here.ensures.rounds node e) c.min-fewest.ensures h)

pub returns-after-loop-step-clause-fewest : goal.returns-after-loop-step-clause-fewest
returns-after-loop-step-clause-fewest c =
    let b : c.len-step-end.result ≤ c.loop-step.step = c.loop-step-test.false in
    (gathered_all c.loop-step.invariant (omega (arith, c.len-step-end.ensures))).each
