use Rattle.std.proofs.Common.{◌≡◌, ◌≤◌, false, refl, sym, ◌∙◌, ap, arith}
use Rattle.timer_links.specs.Lists.{node_at}
use Rattle.timer_wheels.proofs.bucket_lemmas.WalkLemmas.{gathered_none, gathered_one, gathered_all, here_is_some}
use Rattle.timer_commands.specs.Pictures.{has_row}
use Rattle.timer_commands.proofs.PictureLemmas.{dropped_row, gathered_end, kept_here}
use Rattle.timer_commands.proofs.render.lists.has_kept.Goals as goal

pub loop-step-init : goal.loop-step-init
loop-step-init g c = gathered_none c.args.list c.args.links.now.lists c.front-at.result c.front-at.ensures refl

pub loop-step-preserved : goal.loop-step-preserved
loop-step-preserved g c =
    let w = c.loop-step.invariant in
    gathered_one w c.requires c.lemma_keys_unique.ensures c.in-Some.key c.in-Some.is c.next-at.result c.next-at.ensures
    (λ node e h. dropped_row c.args.filter c.in-Some.key node c.in-Some-get.node (node_at c.in-Some.key c.args.links.now.lists) w.past
    c.in-Some-get.ensures e (sym c.keeps.ensures ∙ c.if-keeps.false) ∙ h)

pub returns-then-keeps : goal.returns-then-keeps
returns-then-keeps g c = sym (kept_here c.args.filter c.loop-step.invariant c.requires c.lemma_keys_unique.ensures c.in-Some.key c.in-Some.is
    c.in-Some-get.node c.in-Some-get.ensures (sym c.keeps.ensures ∙ c.if-keeps.true))

pub returns-in_default-get : goal.returns-in_default-get
returns-in_default-get g c = absurd (here_is_some c.loop-step.invariant c.requires c.lemma_keys_unique.ensures
    c.in-Some.key c.in-Some.is c.in_default-get.ensures)

pub returns-in_default : goal.returns-in_default
returns-in_default g c = sym (ap has_row (gathered_end c.loop-step.invariant c.in_default.is))

pub returns : goal.returns
returns g c =
    let b : c.len-step-end.result ≤ c.loop-step.step = c.loop-step-test.false in
    sym (ap has_row (gathered_all c.loop-step.invariant (omega (arith, c.len-step-end.ensures))))
