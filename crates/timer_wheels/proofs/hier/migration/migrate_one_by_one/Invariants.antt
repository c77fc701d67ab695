use Rattle.std.proofs.Common.{◌≡◌, length}
use Rattle.timer_wheels.specs.Digits.{slots}
use Rattle.timer_wheels.specs.Tables.{radices}
use Rattle.timer_wheels.specs.Occupied.{bit_of, AreMarkedBut}
use Rattle.timer_links.specs.Lists.{list_at}
use Rattle.timer_wheels.specs.hier.Migration.{first_deadline}
use Rattle.timer_wheels.proofs.hier_lemmas.MigrationLoop.{IsEmptying}
use Rattle.timer_wheels.proofs.hier.migration.migrate_one_by_one.Given as goal

abbrev pub invariant-loop-ahead : goal.invariant-loop-ahead
invariant-loop-ahead g l = record {
  emptying : IsEmptying (radices l.table) l.list l.tick l.moves l.initial.links.lists l.links.lists;
  room : l.links.room ≡ l.initial.links.room;
  ahead : l.ahead ≡ first_deadline (list_at l.list l.links.lists);
  clear : bit_of l.occupied l.list ≡ 0;
  marked : AreMarkedBut (slots (radices l.table)) l.list l.occupied l.links.lists;
}

abbrev pub decreases-loop-ahead : goal.decreases-loop-ahead
decreases-loop-ahead g l = length (list_at l.list l.links.lists)
