use Rattle.std.proofs.Common.{◌≤◌, refl, sym, ◌∙◌, arith}
use Rattle.std.proofs.lemmas.List.{append-nil}
use Rattle.timer_links.specs.Lists.{node_at}
use Rattle.timer_wheels.proofs.bucket_lemmas.WalkLemmas.{gathered_none, gathered_one, gathered_all, here_is_some, copied_one, copied_fits}
use Rattle.timer_wheels.proofs.walks.copy_list.Goals as goal

pub loop-step-init : goal.loop-step-init
loop-step-init g c = (
  gathered_none c.args.list c.args.links.now.lists c.front-at.result c.front-at.ensures (sym (append-nil c.args.timers.now.items)),
  refl,
)

pub push_reserved-requires : goal.push_reserved-requires
push_reserved-requires g c = omega (
  arith,
  c.requires.room,
  c.loop-step.timers.ok,
  c.loop-step.invariant.1,
  copied_fits c.args.timers.now.items c.loop-step.timers.items c.in-Some.key c.loop-step.invariant.0 c.in-Some.is,
)

pub loop-step-preserved : goal.loop-step-preserved
loop-step-preserved g c =
    let g = c.loop-step.invariant.0 in (
      gathered_one g c.requires.list c.lemma_keys_unique.ensures c.in-Some.key c.in-Some.is c.next-at.result c.next-at.ensures
          (λ node e h. copied_one c.in-Some.key node c.in-Some-get.node (node_at c.in-Some.key c.args.links.now.lists)
          c.args.timers.now.items c.loop-step.timers.items c.push_reserved.new.self.items g.past c.in-Some-get.ensures
          c.push_reserved.ensures.items e h),
      c.push_reserved.ensures.capacity ∙ c.loop-step.invariant.1,
    )

pub returns-after-loop-step-clause-items : goal.returns-after-loop-step-clause-items
returns-after-loop-step-clause-items g c =
    let b : c.len-step-end.result ≤ c.loop-step.step = c.loop-step-test.false in
    gathered_all c.loop-step.invariant.0 (omega (arith, c.len-step-end.ensures))

pub returns-in_default-get-clause-items : goal.returns-in_default-get-clause-items
returns-in_default-get-clause-items g c = absurd (here_is_some c.loop-step.invariant.0 c.requires.list c.lemma_keys_unique.ensures
    c.in-Some.key c.in-Some.is c.in_default-get.ensures)
