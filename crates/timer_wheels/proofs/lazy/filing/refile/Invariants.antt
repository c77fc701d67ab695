use Rattle.std.proofs.Common.{◌≡◌, ◌<◌, length, ℕ, IsTrue}
use Rattle.timer_wheels.specs.Digits.{slots}
use Rattle.timer_wheels.specs.Tables.{radices}
use Rattle.timer_wheels.specs.Occupied.{bit_of, AreMarkedBut}
use Rattle.timer_links.specs.Lists.{list_at}
use Rattle.timer_wheels.specs.hier.Migration.{timer_in_front}
use Rattle.timer_wheels.proofs.lazy_lemmas.FilingLemmas.{AreSortedTo}
use Rattle.timer_wheels.proofs.hier_lemmas.MigrationLoop.{IsEmptying}
use Rattle.timer_wheels.proofs.lazy.filing.refile.Given as goal

abbrev pub invariant-loop-next : goal.invariant-loop-next
invariant-loop-next g l = record {
  emptying : IsEmptying (radices l.table) l.list l.tick l.filed l.initial.links.lists l.links.lists;
  room : l.links.room ≡ l.initial.links.room;
  next : l.next ≡ timer_in_front (list_at l.list l.links.lists);
  sorted : IsTrue l.is_sorted → AreSortedTo l.newest (list_at (slots (radices l.table)) l.links.lists);
  spare : (s : ℕ) → slots (radices l.table) < s → list_at s l.links.lists ≡ list_at s l.initial.links.lists;
  clear : bit_of l.occupied l.list ≡ 0;
  marked : AreMarkedBut (slots (radices l.table)) l.list l.occupied l.links.lists;
}

abbrev pub decreases-loop-next : goal.decreases-loop-next
decreases-loop-next g l = length (list_at l.list l.links.lists)
