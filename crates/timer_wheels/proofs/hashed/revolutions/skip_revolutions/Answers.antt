use Rattle.timer_base.specs.WheelState.{with_room}
use Rattle.std.proofs.Common.{ap, ◌≤◌, ◌+◌, ◌*◌, refl, arith, rules}
use Rattle.timer_links.specs.Lists.{list_at}
use Rattle.timer_wheels.proofs.bucket_lemmas.Calls.{no_rows}
use Rattle.timer_wheels.proofs.hashed_lemmas.RevolutionLemmas.{skipped, skipped-sound, skipped-in_buckets, skipped-in_order, skipped-quiet, same_slot_after, quiet_now}
use Rattle.timer_wheels.proofs.hashed.revolutions.skip_revolutions.Goals as goal

pub returns-then-most-revolution-clause-quiet : goal.returns-then-most-revolution-clause-quiet
returns-then-most-revolution-clause-quiet c =
    let b = c.args.buckets.now in
    quiet_now b.slots b.last_tick b.tick b.last_serial b.links.lists b.sound.pending

pub returns-then-revolutions-eq0-clause-quiet : goal.returns-then-revolutions-eq0-clause-quiet
returns-then-revolutions-eq0-clause-quiet c =
    let b = c.args.buckets.now in
    quiet_now b.slots b.last_tick b.tick b.last_serial b.links.lists b.sound.pending

pub invariant_of-buckets : goal.invariant_of-buckets
invariant_of-buckets c =
    let b = c.args.buckets.now in
    let n = c.fewest_rounds-revolutions.result in
    record {
      sound = skipped-sound b.sound n (b.tick + n * b.slots) c.count_down_lists.new.links.lists c.requires.has_slots refl
          c.count_down_lists.ensures.length c.requires.in_buckets c.fewest_rounds-revolutions.ensures.fewest
          c.count_down_lists.ensures.counted (c.count_down_lists.ensures.others b.slots (omega arith))
          (no_rows (list_at b.slots b.links.lists) c.requires.nothing_due)
          (let h : b.tick + n * b.slots ≤ b.last_tick = search rules in h);
    }

pub returns-clause-skipped : goal.returns-clause-skipped
returns-clause-skipped c =
    let b = c.args.buckets.now in
    let n = c.fewest_rounds-revolutions.result in
    rw c.count_down_lists.ensures.room (ap (with_room b.links.room)
    (skipped b.sound n (b.tick + n * b.slots) c.count_down_lists.new.links.lists c.requires.has_slots refl
    c.count_down_lists.ensures.length c.requires.in_buckets c.fewest_rounds-revolutions.ensures.fewest
    c.count_down_lists.ensures.counted (c.count_down_lists.ensures.others b.slots (omega arith))))

pub returns-clause-quiet : goal.returns-clause-quiet
returns-clause-quiet c =
    let b = c.args.buckets.now in
    let n = c.fewest_rounds-revolutions.result in
    skipped-quiet b.sound n (b.tick + n * b.slots) c.count_down_lists.new.links.lists c.requires.has_slots refl
    c.count_down_lists.ensures.length c.requires.in_buckets c.fewest_rounds-revolutions.ensures.fewest
    c.count_down_lists.ensures.counted (c.count_down_lists.ensures.others b.slots (omega arith))

pub returns-clause-in_buckets : goal.returns-clause-in_buckets
returns-clause-in_buckets c =
    let b = c.args.buckets.now in
    let n = c.fewest_rounds-revolutions.result in
    skipped-in_buckets b.sound n (b.tick + n * b.slots) c.count_down_lists.new.links.lists c.requires.has_slots refl
    c.count_down_lists.ensures.length c.requires.in_buckets c.fewest_rounds-revolutions.ensures.fewest
    c.count_down_lists.ensures.counted (c.count_down_lists.ensures.others b.slots (omega arith))

pub returns-clause-in_order : goal.returns-clause-in_order
returns-clause-in_order c =
    let b = c.args.buckets.now in
    let n = c.fewest_rounds-revolutions.result in
    skipped-in_order b.sound n (b.tick + n * b.slots) c.count_down_lists.new.links.lists c.requires.has_slots refl
    c.count_down_lists.ensures.length c.requires.in_buckets c.fewest_rounds-revolutions.ensures.fewest
    c.count_down_lists.ensures.counted (c.count_down_lists.ensures.others b.slots (omega arith)) c.requires.in_order

pub returns-clause-same_slot : goal.returns-clause-same_slot
returns-clause-same_slot c =
    let b = c.args.buckets.now in
    same_slot_after b.slots b.tick c.fewest_rounds-revolutions.result (b.tick + c.fewest_rounds-revolutions.result * b.slots) refl
