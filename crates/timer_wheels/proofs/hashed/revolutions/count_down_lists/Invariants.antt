use Rattle.std.proofs.Common.{◌≡◌}
use Rattle.timer_wheels.proofs.hashed_lemmas.CountdownLemmas.{AreCounted}
use Rattle.timer_wheels.proofs.hashed.revolutions.count_down_lists.Given as goal

abbrev pub invariant-loop-list : goal.invariant-loop-list
invariant-loop-list l = record {
  rows : AreCounted l.list l.rounds l.initial.links.lists l.links.lists;
  room : l.links.room ≡ l.initial.links.room;
}
