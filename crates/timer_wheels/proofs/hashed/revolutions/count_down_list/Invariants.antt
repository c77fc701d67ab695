use Rattle.std.proofs.Common.{◌≡◌}
use Rattle.timer_wheels.proofs.hashed_lemmas.CountdownLemmas.{IsCounting}
use Rattle.timer_wheels.proofs.hashed.revolutions.count_down_list.Given as goal

abbrev pub invariant-loop-step : goal.invariant-loop-step
invariant-loop-step l = record {
  rows : IsCounting l.list l.step l.rounds l.initial.links.lists l.links.lists l.at;
  room : l.links.room ≡ l.initial.links.room;
}
