use Rattle.timer_wheels.proofs.bucket_lemmas.WalkLemmas.{IsGathering, IsCounted}
use Rattle.timer_wheels.proofs.walks.list_len.Given as goal

abbrev pub invariant-loop-step : goal.invariant-loop-step
invariant-loop-step g l = IsGathering (IsCounted l.step) l.list l.step l.links.lists l.at
