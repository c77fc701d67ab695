use Rattle.timer_wheels.proofs.hashed_lemmas.CountdownLemmas.{AreMeasured}
use Rattle.timer_wheels.proofs.hashed.revolutions.fewest_rounds.Given as goal

abbrev pub invariant-loop-list : goal.invariant-loop-list
invariant-loop-list l = AreMeasured l.list l.links.lists l.most l.fewest
