use Rattle.std.proofs.Common.{◌∙◌, ◌≡◌, ◌≤◌, ◌-◌, refl, arith}
use Rattle.timer_links.specs.Lists.{row_count}
use Rattle.timer_wheels.proofs.hashed_lemmas.CountdownLemmas.{counting-begun, counting-in_use, counting-enough_left, counting-one, counting-enough}
use Rattle.timer_wheels.proofs.hashed.revolutions.count_down_list.Goals as goal

pub loop-step-init : goal.loop-step-init
loop-step-init c = record {
  rows = counting-begun c.args.list c.args.rounds c.args.links.now.lists c.front-at.result c.front-at.ensures;
  room = refl;
}

pub step-here-requires : goal.step-here-requires
step-here-requires c =
    let s = c.loop-step in
    counting-in_use c.args.list s.step c.args.rounds c.args.links.now.lists s.links.lists c.requires.list c.in-Some.key
    s.at s.invariant.rows c.in-Some.is c.lemma_keys_unique.ensures

pub overflow_sub-here : goal.overflow_sub-here
overflow_sub-here c =
    let s = c.loop-step in
    counting-enough_left c.args.list s.step c.args.rounds c.args.links.now.lists s.links.lists c.requires.list c.in-Some.key
    s.at s.invariant.rows c.in-Some.is c.step-here.result.rounds c.lemma_keys_unique.ensures c.step-here.ensures.rounds c.requires.enough

pub set_rounds-requires : goal.set_rounds-requires
set_rounds-requires c =
    let s = c.loop-step in
    counting-in_use c.args.list s.step c.args.rounds c.args.links.now.lists s.links.lists c.requires.list c.in-Some.key
    s.at s.invariant.rows c.in-Some.is c.lemma_keys_unique.ensures

pub loop-step-preserved : goal.loop-step-preserved
loop-step-preserved c =
    let s = c.loop-step in
    record {
      room = c.set_rounds.ensures.room ∙ s.invariant.room;
      rows = counting-one c.args.list s.step c.args.rounds c.args.links.now.lists s.links.lists c.requires.list c.in-Some.key
          s.at s.invariant.rows c.in-Some.is c.step-here.result.rounds (c.step-here.result.rounds - c.args.rounds)
          c.set_rounds.new.self.lists c.step-here.result.next c.lemma_keys_unique.ensures c.step-here.ensures.rounds refl
          c.set_rounds.ensures.set c.step-here.ensures.next;
    }

pub returns-after-loop-step-clause-counted : goal.returns-after-loop-step-clause-counted
returns-after-loop-step-clause-counted c =
    let s = c.loop-step in
    let a : c.len-step-end.result ≡ row_count c.args.links.now.lists = c.len-step-end.ensures in
    let b : c.len-step-end.result ≤ s.step = c.loop-step-test.false in
    counting-enough c.args.list s.step c.args.rounds c.args.links.now.lists s.links.lists s.at s.invariant.rows (omega arith)
