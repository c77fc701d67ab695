use Rattle.std.proofs.Common.{◌≤◌, refl, arith}
use Rattle.timer_links.specs.Lists.{node_at}
use Rattle.timer_wheels.proofs.bucket_lemmas.WalkLemmas.{gathered_none, gathered_one, gathered_all, here_is_some}
use Rattle.timer_wheels.proofs.bucket_lemmas.DeadlineLemmas.{sought_one}
use Rattle.timer_wheels.proofs.deadlines.least_in.Goals as goal

pub loop-step-init : goal.loop-step-init
loop-step-init g c = gathered_none c.args.list c.args.links.now.lists c.front-at.result c.front-at.ensures refl

pub loop-step-preserved : goal.loop-step-preserved
loop-step-preserved g c =
    let s = c.loop-step in
    let key = c.in-Some.key in
    gathered_one s.invariant c.requires c.lemma_keys_unique.ensures key c.in-Some.is c.next-at.result c.next-at.ensures
    (λ node e h. sought_one s.least c.earlier-least.result key node c.in-Some-get.node (node_at key c.args.links.now.lists) s.invariant.past
    c.in-Some-get.ensures c.earlier-least.ensures e h)

pub returns-after-loop-step : goal.returns-after-loop-step
returns-after-loop-step g c =
    let b : c.len-step-end.result ≤ c.loop-step.step = c.loop-step-test.false in
    gathered_all c.loop-step.invariant (omega (arith, c.len-step-end.ensures))

pub returns-in_default-get : goal.returns-in_default-get
returns-in_default-get g c = absurd (here_is_some c.loop-step.invariant c.requires c.lemma_keys_unique.ensures c.in-Some.key c.in-Some.is
    c.in_default-get.ensures)
