use Rattle.std.proofs.Common.{refl, ◌≡◌, ◌≤◌, ap, ◌∙◌, arith, not}
use Rattle.timer_links.specs.Lists.{row_count}
use Rattle.timer_wheels.proofs.bucket_lemmas.WalkLemmas.{emptying-begun, emptied-some, emptied-count}
use Rattle.timer_wheels.proofs.walks.empty_list.Goals as goal

pub loop-step-init : goal.loop-step-init
loop-step-init g c = record { rows = emptying-begun c.args.list c.args.links.now.lists; room = refl }

pub loop-step-preserved : goal.loop-step-preserved
loop-step-preserved g c = record {
  rows = emptied-some c.args.list c.loop-step.step c.args.links.now.lists c.loop-step.links.lists c.pop_front.new.self.lists
      c.pop_front.result
      c.requires c.loop-step.invariant.rows (c.is_none.ensures ∙ ap not c.if-is_none.false) c.pop_front.ensures.popped;
  room = c.pop_front.ensures.room ∙ c.loop-step.invariant.room;
}

pub returns-after-loop-step-clause-emptied : goal.returns-after-loop-step-clause-emptied
returns-after-loop-step-clause-emptied g c =
    let a : c.len-step-end.result ≡ row_count c.args.links.now.lists = c.len-step-end.ensures in
    let b : c.len-step-end.result ≤ c.loop-step.step = c.loop-step-test.false in
    emptied-count c.args.list c.loop-step.step c.args.links.now.lists c.loop-step.links.lists c.loop-step.invariant.rows (omega arith)
