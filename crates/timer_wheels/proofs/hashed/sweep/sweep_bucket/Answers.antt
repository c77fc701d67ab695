use Rattle.std.proofs.Common.{refl, ◌∙◌, ◌≡◌, ◌≤◌, arith}
use Rattle.timer_links.specs.Lists.{row_count}
use Rattle.timer_wheels.proofs.hashed_lemmas.SweepLemmas.{begun, in_use, passed, ended_count}
use Rattle.timer_wheels.proofs.hashed.sweep.sweep_bucket.Goals as goal

pub loop-step-init : goal.loop-step-init
loop-step-init c = record {
  rows = begun c.args.bucket c.args.due c.args.links.now.lists c.front-at.result c.front-at.ensures;
  room = refl;
}

pub step-here-requires : goal.step-here-requires
step-here-requires c =
    let s = c.loop-step in
    in_use c.args.bucket c.args.due s.step c.args.links.now.lists s.links.lists c.requires.other c.requires.bucket c.requires.due
    c.in-Some.key s.at s.invariant.rows c.in-Some.is c.lemma_keys_unique.ensures

pub sweep_node-requires-clause-used : goal.sweep_node-requires-clause-used
sweep_node-requires-clause-used c =
    let s = c.loop-step in
    in_use c.args.bucket c.args.due s.step c.args.links.now.lists s.links.lists c.requires.other c.requires.bucket c.requires.due
    c.in-Some.key s.at s.invariant.rows c.in-Some.is c.lemma_keys_unique.ensures

pub loop-step-preserved : goal.loop-step-preserved
loop-step-preserved c =
    let s = c.loop-step in
    record {
      room = c.sweep_node.ensures.room ∙ s.invariant.room;
      rows = passed c.args.bucket c.args.due s.step c.args.links.now.lists s.links.lists c.requires.other c.requires.bucket c.requires.due
          c.in-Some.key s.at s.invariant.rows c.in-Some.is c.sweep_node.new.links.lists c.step-here.result.next
          c.lemma_keys_unique.ensures c.sweep_node.ensures.due c.sweep_node.ensures.later c.step-here.ensures.next;
    }

pub returns-after-loop-step-clause-swept : goal.returns-after-loop-step-clause-swept
returns-after-loop-step-clause-swept c =
    let s = c.loop-step in
    let a : c.len-step-end.result ≡ row_count c.args.links.now.lists = c.len-step-end.ensures in
    let b : c.len-step-end.result ≤ s.step = c.loop-step-test.false in
    ended_count c.args.bucket c.args.due s.step c.args.links.now.lists s.links.lists s.at s.invariant.rows (omega arith)
