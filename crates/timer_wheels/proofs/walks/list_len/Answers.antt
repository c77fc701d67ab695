use Rattle.std.proofs.Common.{◌≡◌, ◌≤◌, length, refl, arith}
use Rattle.timer_links.specs.Lists.{list_at}
use Rattle.timer_wheels.proofs.bucket_lemmas.WalkLemmas.{gathered_none, gathered_one, gathered_all, here_in_use, counted_one}
use Rattle.timer_wheels.proofs.walks.list_len.Goals as goal

pub loop-step-init : goal.loop-step-init
loop-step-init g c = gathered_none c.args.list c.args.links.now.lists c.front-at.result c.front-at.ensures refl

pub next-at-requires : goal.next-at-requires
next-at-requires g c = here_in_use c.loop-step.invariant c.requires c.lemma_keys_unique.ensures c.in-Some.key c.in-Some.is

pub loop-step-preserved : goal.loop-step-preserved
loop-step-preserved g c =
    let g = c.loop-step.invariant in
    gathered_one g c.requires c.lemma_keys_unique.ensures c.in-Some.key c.in-Some.is c.next-at.result c.next-at.ensures
    (λ node e h. counted_one c.loop-step.step c.in-Some.key node g.past h)

pub returns : goal.returns
returns g c =
    let b : c.len-step-end.result ≤ c.loop-step.step = c.loop-step-test.false in
    let f : length (list_at c.args.list c.args.links.now.lists) ≡ c.loop-step.step =
    gathered_all c.loop-step.invariant (omega (arith, c.len-step-end.ensures)) in
    omega (arith, c.loop-step.auto.step-end, c.len-step-end.ensures, c.len.ensures)
