use Rattle.std.proofs.Common.{◌≡◌}
use Rattle.timer_wheels.proofs.hashed_lemmas.SweepLemmas.{IsSweeping}
use Rattle.timer_wheels.proofs.hashed.sweep.sweep_bucket.Given as goal

abbrev pub invariant-loop-step : goal.invariant-loop-step
invariant-loop-step l = record {
  rows : IsSweeping l.bucket l.due l.step l.initial.links.lists l.links.lists l.at;
  room : l.links.room ≡ l.initial.links.room;
}
