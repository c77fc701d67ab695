use Rattle.std.proofs.Common.{refl, ◌∙◌, ◌<◌, ◌≤◌, length, arith}
use Rattle.timer_wheels.proofs.hashed_lemmas.CountdownLemmas.{none-counted, one-counted, still_enough}
use Rattle.timer_wheels.proofs.hashed.revolutions.count_down_lists.Goals as goal

pub loop-list-init : goal.loop-list-init
loop-list-init c = record { rows = none-counted c.args.rounds c.args.links.now.lists; room = refl }

pub count_down_list-requires-clause-enough : goal.count_down_list-requires-clause-enough
count_down_list-requires-clause-enough c =
    let s = c.loop-list in
    still_enough s.list c.args.count c.args.rounds c.args.links.now.lists s.links.lists c.loop-list-test.true s.invariant.rows
    c.requires.enough

pub loop-list-preserved : goal.loop-list-preserved
loop-list-preserved c =
    let s = c.loop-list in
    record {
      room = c.count_down_list.ensures.room ∙ s.invariant.room;
      rows = one-counted s.list c.args.rounds c.args.links.now.lists s.links.lists c.count_down_list.new.links.lists (let m : c.args.count
          ≤ length c.args.links.now.lists =
          c.requires.count in let t : s.list < c.args.count = c.loop-list-test.true in omega arith) s.invariant.rows
          c.count_down_list.ensures.counted;
    }
