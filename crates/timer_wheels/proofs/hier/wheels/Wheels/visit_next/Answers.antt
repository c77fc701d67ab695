use Rattle.std.proofs.Common.{ℕ, ap, subst, sym}
use Rattle.timer_base.specs.WheelState.{with_room}
use Rattle.timer_wheels.specs.Occupied.{AreMarked}
use Rattle.timer_wheels.proofs.hier_lemmas.MigrationTick.{may_migrate_at, all_of_tick_at, next_at}
use Rattle.timer_wheels.proofs.hier.wheels.Wheels.visit_next.Goals as goal

pub empty_bucket-moves-requires-clause-rows : goal.empty_bucket-moves-requires-clause-rows
empty_bucket-moves-requires-clause-rows g c = may_migrate_at c.args.self.now.hier c.requires.nothing_due c.requires.before_last c.requires.emptied

pub empty_bucket-moves-requires-clause-lowest : goal.empty_bucket-moves-requires-clause-lowest
empty_bucket-moves-requires-clause-lowest g c = all_of_tick_at c.args.self.now.hier c.requires.nothing_due c.requires.before_last c.requires.emptied

pub invariant_of-self : goal.invariant_of-self
invariant_of-self g c =
    let w = c.args.self.now in
    let e = c.empty_bucket-moves in
    let P : ℕ → Type 0 = λ k. AreMarked k e.new.occupied e.new.links.lists in
    record {
      hier = record {
        has_slots = w.hier.has_slots;
        clock = w.hier.clock;
        placed = (next_at w.hier c.requires.nothing_due c.requires.before_last c.requires.emptied e.ensures.migrated
            e.ensures.moves).placed;
        in_order = (next_at w.hier c.requires.nothing_due c.requires.before_last c.requires.emptied e.ensures.migrated
            e.ensures.moves).in_order;
        marked = subst P (sym w.hier.has_slots) e.ensures.marked;
      };
    }

pub invariant_of-buckets : goal.invariant_of-buckets
invariant_of-buckets g c = record {
  sound = (next_at c.args.self.now.hier c.requires.nothing_due c.requires.before_last c.requires.emptied
      c.empty_bucket-moves.ensures.migrated c.empty_bucket-moves.ensures.moves).sound;
}

pub returns-clause-ticked : goal.returns-clause-ticked
returns-clause-ticked g c =
    let w = c.args.self.now in
    let e = c.empty_bucket-moves in
    rw e.ensures.room (ap (with_room w.buckets.links.room) (next_at w.hier c.requires.nothing_due c.requires.before_last
    c.requires.emptied e.ensures.migrated e.ensures.moves).ticked)

pub returns-clause-moves : goal.returns-clause-moves
returns-clause-moves g c = (next_at c.args.self.now.hier c.requires.nothing_due c.requires.before_last c.requires.emptied
    c.empty_bucket-moves.ensures.migrated c.empty_bucket-moves.ensures.moves).moves_are

pub returns-clause-falls : goal.returns-clause-falls
returns-clause-falls g c = (next_at c.args.self.now.hier c.requires.nothing_due c.requires.before_last c.requires.emptied
    c.empty_bucket-moves.ensures.migrated c.empty_bucket-moves.ensures.moves).pays
