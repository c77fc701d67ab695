use Rattle.std.proofs.Common.{◌≡◌}
use Rattle.timer_wheels.proofs.bucket_lemmas.WalkLemmas.{IsEmptying}
use Rattle.timer_wheels.proofs.walks.empty_list.Given as goal

abbrev pub invariant-loop-step : goal.invariant-loop-step
invariant-loop-step g l = record {
  rows : IsEmptying l.list l.step l.initial.links.lists l.links.lists;
  room : l.links.room ≡ l.initial.links.room;
}
