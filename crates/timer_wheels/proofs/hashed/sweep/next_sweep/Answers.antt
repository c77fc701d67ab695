use Rattle.timer_wheels.proofs.bucket_lemmas.RoomLemmas.{next_sweep-with_room}
use Rattle.std.proofs.Common.{◌<◌, ◌≤◌, arith}
use Rattle.timer_links.specs.Lists.{list_at}
use Rattle.timer_wheels.proofs.bucket_lemmas.OrderedLists.{ordered-all}
use Rattle.timer_wheels.proofs.bucket_lemmas.WakeUpLemmas.{none_ahead, one_ahead, all_ahead, seen_filled, none_at_all, sleeps, wakes_at, sweeps_next}
use Rattle.timer_wheels.proofs.hashed.sweep.next_sweep.Goals as goal

pub returns-then-len-eq0-clause-quiet : goal.returns-then-len-eq0-clause-quiet
returns-then-len-eq0-clause-quiet c =
    let b = c.args.buckets.now in
    none_at_all b.slots b.links.lists b.sound.has_lists (omega (arith, c.len.ensures, c.if-len-eq0.true))

pub loop-step-init : goal.loop-step-init
loop-step-init c = none_ahead c.args.buckets.now.slots c.args.slot c.args.buckets.now.links.lists

pub loop-step-preserved : goal.loop-step-preserved
loop-step-preserved c =
    let b = c.args.buckets.now in
    one_ahead b.slots c.args.slot c.loop-step.step c.slot_after-bucket.result b.links.lists c.slot_after-bucket.ensures
    (c.is_empty.ensures.0 c.if-not-is_empty.false) c.loop-step.invariant

pub returns-then-not-is_empty-clause-quiet : goal.returns-then-not-is_empty-clause-quiet
returns-then-not-is_empty-clause-quiet c =
    let b = c.args.buckets.now in
    let r : c.slot_after-bucket.result < b.slots = omega (arith, c.slot_after-bucket.ensures, c.requires.has_slots) in
    wakes_at b.slots b.last_tick b.tick b.last_serial c.args.slot c.loop-step.step b.links.lists c.requires.slot c.loop-step.invariant
    c.slot_after-bucket.result r (seen_filled (list_at c.slot_after-bucket.result b.links.lists) c.is_empty.result c.is_empty.ensures
    c.if-not-is_empty.true) b.sound.pending c.requires.in_buckets

pub returns-then-not-is_empty-clause-next : goal.returns-then-not-is_empty-clause-next
returns-then-not-is_empty-clause-next c =
    let b = c.args.buckets.now in
    next_sweep-with_room b.links.room _ _ _ (sweeps_next b.slots b.last_tick b.tick b.last_serial c.args.slot c.loop-step.step
    b.links.lists c.requires.has_slots c.requires.slot
    c.loop-step.invariant b.sound.has_lists (ordered-all b.sound c.requires.in_order) c.requires.in_buckets c.slot_after-bucket.result c.slot_after-bucket.ensures
    c.loop-step-test.true (seen_filled (list_at c.slot_after-bucket.result b.links.lists) c.is_empty.result c.is_empty.ensures
    c.if-not-is_empty.true))

pub returns-clause-quiet : goal.returns-clause-quiet
returns-clause-quiet c =
    let b = c.args.buckets.now in
    let r : c.args.slot < b.slots = omega (arith, c.requires.slot, c.requires.has_slots) in
    let n : b.slots ≤ c.loop-step.step = c.loop-step-test.false in
    sleeps b.slots b.last_tick b.tick b.last_serial b.links.lists (all_ahead b.slots c.args.slot b.links.lists r
    (λ j a k. c.loop-step.invariant j a (omega arith)))
