use Rattle.timer_wheels.proofs.hashed_lemmas.CountdownLemmas.{AreMeasuredRows}
use Rattle.timer_wheels.proofs.bucket_lemmas.WalkLemmas.{IsGathering}
use Rattle.timer_wheels.proofs.hashed.revolutions.fewest_in_list.Given as goal

abbrev pub invariant-loop-step : goal.invariant-loop-step
invariant-loop-step l = IsGathering (AreMeasuredRows l.most l.fewest) l.list l.step l.links.lists l.at
