use Rattle.std.proofs.Common.{◌≡◌, ◌+◌, ℕ, length, sym, ◌∙◌, ap, subst, arith}
use Rattle.timer_base.specs.WheelState.{with_room}
use Rattle.timer_links.specs.Lists.{list_at, Rows}
use Rattle.timer_wheels.specs.smooth.Smooth.{ticks_to_half}
use Rattle.timer_wheels.specs.Tables.{radices}
use Rattle.timer_wheels.specs.declared.table.Table.TheVariants.{Wide}
use Rattle.timer_wheels.proofs.smooth_lemmas.Wheels.{IsMoved, moved_by, marked_moved}
use Rattle.timer_wheels.proofs.smooth_lemmas.Descent.{few_lists}
use Rattle.timer_wheels.proofs.smooth.wheels.Wheels.move_one.Given.{Over}
use Rattle.timer_wheels.proofs.smooth.wheels.Wheels.move_one.Goals as goal

-- the move of the front
moved : (g : Over) (c : goal.After-move_front g) → IsMoved Wide c.args.self.now.buckets c.args.wheel c.next_list-from.result
    c.list_of_slot-to.result c.move_front.new.self.lists
moved g c =
    let w = c.args.self.now in
    moved_by Wide w.buckets w.filled w.wheels c.args.wheel c.next_list-from.result c.in-Some.deadline
    c.descend-below.result c.slot_of.result c.list_of_slot-to.result c.requires.above c.requires.wheel c.next_list-from.ensures.value
    (sym c.in-Some.is ∙ c.front_deadline.ensures) c.descend-below.ensures.value c.slot_of.ensures c.list_of_slot-to.ensures.value
    c.move_front.new.self.lists c.move_front.ensures.moved

abbrev moved_then : (g : Over) (c : goal.After-settle g) → goal.After-move_front g
moved_then g c = c.before.before.before.before.before

pub invariant_of-buckets : goal.invariant_of-buckets
invariant_of-buckets g c = record { sound = (moved g c).sound }

pub insert_once-requires : goal.insert_once-requires
insert_once-requires g c = (omega arith, omega (arith, c.list_of_slot-to.ensures.in_range, few_lists Wide))

pub settle-requires-clause-few : goal.settle-requires-clause-few
settle-requires-clause-few g c = omega (arith, c.next_list-from.ensures.in_range, few_lists Wide)

pub invariant_of-self : goal.invariant_of-self
invariant_of-self g c =
    let w = c.args.self.now in
    let m = moved g (moved_then g c) in
    record {
      wheels = record {
        has_slots = w.wheels.has_slots;
        clock = w.wheels.clock;
        placed = m.placed;
        in_order = m.in_order;
        marked = marked_moved w.filled c.insert_once.new.self c.settle.new.filled m w.wheels.marked c.insert_once.ensures.here c.insert_once.ensures.others
            c.settle.ensures.empty c.settle.ensures.kept c.settle.ensures.others;
      };
    }

pub returns-clause-state : goal.returns-clause-state
returns-clause-state g c =
    let w = c.args.self.now in
    let m = moved g (moved_then g c.before) in
    rw c.move_front.ensures.room (ap (with_room w.buckets.links.room) m.state)

pub returns-clause-moved : goal.returns-clause-moved
returns-clause-moved g c =
    let w = c.args.self.now in
    let m = moved g (moved_then g c.before) in
    λ e. subst (λ (x : ℕ). length (list_at x c.move_front.new.self.lists) + 1 ≡ length (list_at x w.buckets.links.lists))
    c.next_list-from.ensures.value m.fewer

pub returns-clause-falls : goal.returns-clause-falls
returns-clause-falls g c = λ e. (moved g (moved_then g c.before)).falls

pub returns-clause-others : goal.returns-clause-others
returns-clause-others g c =
    let w = c.args.self.now in
    let m = moved g (moved_then g c.before) in
    λ early j z l n. ap (λ (r : Rows). length r)
    (m.next_same (subst (λ (x : ℕ). ticks_to_half (radices Wide) w.buckets.tick c.args.wheel ≡ 0 → length (list_at x w.buckets.links.lists) ≡ 0)
    (sym c.next_list-from.ensures.value) early) j z l n)

pub returns-clause-exact : goal.returns-clause-exact
returns-clause-exact g c =
    let w = c.args.self.now in
    let m = moved g (moved_then g c.before) in
    λ early e. m.one_down (subst (λ (x : ℕ). ticks_to_half (radices Wide) w.buckets.tick c.args.wheel ≡ 0
    → length (list_at x w.buckets.links.lists) ≡ 0) (sym c.next_list-from.ensures.value) early)
