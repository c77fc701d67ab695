use Rattle.std.proofs.Common.{◌≡◌}
use Rattle.timer_wheels.proofs.bucket_lemmas.WalkLemmas.{AreEmptied}
use Rattle.timer_wheels.proofs.walks.empty_lists.Given as goal

abbrev pub invariant-loop-list : goal.invariant-loop-list
invariant-loop-list g l = record {
  rows : AreEmptied l.list l.initial.links.lists l.links.lists;
  room : l.links.room ≡ l.initial.links.room;
}
