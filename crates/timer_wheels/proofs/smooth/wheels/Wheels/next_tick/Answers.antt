use Rattle.std.proofs.Common.{◌+◌, ℕ, length, ap, ◌∙◌, arith}
use Rattle.timer_base.specs.WheelState.{with_room}
use Rattle.timer_links.specs.Lists.{list_at, appended, KeyedLists, Rows}
use Rattle.timer_wheels.specs.smooth.Smooth.{next_list, heights}
use Rattle.timer_wheels.specs.Tables.{radices}
use Rattle.timer_wheels.specs.declared.table.Table.TheVariants.{Wide}
use Rattle.timer_wheels.proofs.smooth_lemmas.Wheels.{tick_next, tick_heights, wheels_ticked, tick_by_law, tick_marked}
use Rattle.timer_wheels.proofs.smooth_lemmas.Descent.{few_lists}
use Rattle.timer_wheels.proofs.smooth.wheels.Wheels.next_tick.Goals as goal

pub make_due-requires-clause-few : goal.make_due-requires-clause-few
make_due-requires-clause-few g c = omega (arith, c.list_of_slot-list.ensures.in_range, few_lists Wide)

pub invariant_of-buckets : goal.invariant_of-buckets
invariant_of-buckets g c =
    let w = c.args.self.now in
    let q = c.make_due.ensures.appended ∙ ap (λ (x : ℕ). appended x w.buckets.slots w.buckets.links.lists) c.list_of_slot-list.ensures.value in
    record { sound = rw q (wheels_ticked Wide w.buckets w.filled w.wheels c.requires.before_last c.requires.nothing_due c.requires.empty).sound }

pub invariant_of-self : goal.invariant_of-self
invariant_of-self g c =
    let w = c.args.self.now in
    let q = c.make_due.ensures.appended ∙ ap (λ (x : ℕ). appended x w.buckets.slots w.buckets.links.lists) c.list_of_slot-list.ensures.value in
    record {
      wheels = record {
        has_slots = w.wheels.has_slots;
        clock = w.wheels.clock;
        placed = rw q (tick_by_law Wide w.buckets w.filled w.wheels c.requires.before_last c.requires.nothing_due c.requires.empty);
        in_order = rw q (wheels_ticked Wide w.buckets w.filled w.wheels c.requires.before_last c.requires.nothing_due c.requires.empty).in_order;
        marked = rw q (tick_marked Wide w.buckets w.filled w.wheels c.requires.before_last c.requires.nothing_due c.requires.empty c.make_due.new.filled (rw (← c.list_of_slot-list.ensures.value) c.make_due.ensures.clear)
            (rw (← c.list_of_slot-list.ensures.value) c.make_due.ensures.others));
      };
    }

pub returns-clause-ticked : goal.returns-clause-ticked
returns-clause-ticked g c =
    let w = c.args.self.now in
    let q = c.make_due.ensures.appended ∙ ap (λ (x : ℕ). appended x w.buckets.slots w.buckets.links.lists) c.list_of_slot-list.ensures.value in
    rw (c.make_due.ensures.room, q) (ap (with_room w.buckets.links.room) (wheels_ticked Wide w.buckets w.filled w.wheels c.requires.before_last c.requires.nothing_due c.requires.empty).state)

pub returns-clause-kept : goal.returns-clause-kept
returns-clause-kept g c =
    let w = c.args.self.now in
    let q = c.make_due.ensures.appended ∙ ap (λ (x : ℕ). appended x w.buckets.slots w.buckets.links.lists) c.list_of_slot-list.ensures.value in
    λ j z l e. ap (λ (x : KeyedLists). length (list_at (next_list (radices Wide) (w.buckets.tick + 1) j) x)) q
    ∙ ap (λ (r : Rows). length r)
    (tick_next Wide w.buckets w.filled w.wheels c.requires.before_last c.requires.nothing_due c.requires.empty j z l e)

pub returns-clause-potential : goal.returns-clause-potential
returns-clause-potential g c =
    let w = c.args.self.now in
    let q = c.make_due.ensures.appended ∙ ap (λ (x : ℕ). appended x w.buckets.slots w.buckets.links.lists) c.list_of_slot-list.ensures.value in
    omega (
      arith,
      ap (heights (radices Wide) w.buckets.slots) q,
      tick_heights Wide w.buckets w.filled w.wheels c.requires.before_last c.requires.nothing_due c.requires.empty,
    )
