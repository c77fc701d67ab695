use Rattle.timer_wheels.proofs.bucket_lemmas.WakeUpLemmas.{AreEmptyAhead}
use Rattle.timer_wheels.proofs.hashed.sweep.next_sweep.Given as goal

abbrev pub invariant-loop-step : goal.invariant-loop-step
invariant-loop-step l = AreEmptyAhead l.buckets.slots l.slot l.step l.buckets.links.lists
