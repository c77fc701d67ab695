use Rattle.timer_wheels.proofs.bucket_lemmas.DeadlineLemmas.{IsSought}
use Rattle.timer_wheels.proofs.bucket_lemmas.WalkLemmas.{IsGathering}
use Rattle.timer_wheels.proofs.deadlines.least_in.Given as goal

abbrev pub invariant-loop-step : goal.invariant-loop-step
invariant-loop-step g l = IsGathering (IsSought l.least) l.list l.step l.links.lists l.at
