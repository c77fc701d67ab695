use Rattle.timer_wheels.proofs.hashed_lemmas.CountdownLemmas.{none-measured, one-measured}
use Rattle.timer_wheels.proofs.hashed.revolutions.fewest_rounds.Goals as goal

pub loop-list-init : goal.loop-list-init
loop-list-init c = none-measured c.args.links.now.lists c.args.most

pub loop-list-preserved : goal.loop-list-preserved
loop-list-preserved c =
    let s = c.loop-list in
    one-measured s.list c.args.links.now.lists c.args.most s.fewest c.fewest_in_list-fewest.result s.invariant
    c.fewest_in_list-fewest.ensures.at_most c.fewest_in_list-fewest.ensures.fewest
