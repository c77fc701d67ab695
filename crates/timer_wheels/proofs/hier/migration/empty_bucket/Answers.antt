use Rattle.std.proofs.Common.{length, sym, ◌∙◌, ap, arith}
use Rattle.timer_links.specs.Lists.{list_at, Rows}
use Rattle.timer_wheels.specs.Tables.{radices}
use Rattle.timer_wheels.proofs.hier_lemmas.MigrationLoop.{append_whole, none_left_over}
use Rattle.timer_wheels.proofs.bucket_lemmas.WheelUpdates.{in_word}
use Rattle.timer_wheels.proofs.hier.migration.empty_bucket.Goals as goal

pub is_empty-requires : goal.is_empty-requires
is_empty-requires g c = omega (arith, c.requires.list, c.requires.lists)

pub remove-requires : goal.remove-requires
remove-requires g c = (omega arith, in_word c.args.table c.args.list c.requires.list)

pub returns-then-list-lowest_slots-clause-migrated : goal.returns-then-list-lowest_slots-clause-migrated
returns-then-list-lowest_slots-clause-migrated g c =
    c.append.ensures.appended ∙ append_whole (radices c.args.table) c.buckets_of.result c.args.tick c.args.list c.args.links.now.lists
    c.buckets_of.ensures.value c.requires.lists c.requires.list
    (c.requires.lowest (omega (arith, c.lowest_slots.ensures.value, c.if-list-lowest_slots.true)))

pub returns-then-list-lowest_slots-clause-moves : goal.returns-then-list-lowest_slots-clause-moves
returns-then-list-lowest_slots-clause-moves g c =
    ap (λ (y : Rows). length y) (sym (none_left_over c.args.tick (list_at c.args.list c.args.links.now.lists)
    (c.requires.lowest (omega (arith, c.lowest_slots.ensures.value, c.if-list-lowest_slots.true)))))
