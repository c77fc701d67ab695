use Rattle.std.proofs.Common.{◌≡◌, ◌+◌, ◌%◌, ℕ, ◌∙◌, ap}
use Rattle.timer_links.specs.Lists.{list_at, KeyedLists}
use Rattle.timer_base.specs.WheelState.{with_room}
use Rattle.timer_wheels.specs.hashed.Sweep.{swept}
use Rattle.timer_wheels.proofs.bucket_lemmas.Calls.{no_rows}
use Rattle.timer_wheels.proofs.hashed_lemmas.Ticks.{ticked, ticked-sound, ticked-in_buckets, ticked-in_order}
use Rattle.timer_wheels.proofs.hashed.sweep.sweep_tick.Goals as goal

gone_through : (n tick slot : ℕ) (old new : KeyedLists) → new ≡ swept slot n old → slot ≡ (tick + 1) % n
    → new ≡ swept ((tick + 1) % n) n old
gone_through n tick slot old new e f = e ∙ ap (λ (k : ℕ). swept k n old) f

pub invariant_of-buckets : goal.invariant_of-buckets
invariant_of-buckets c =
    let b = c.args.buckets.now in
    rw (gone_through b.slots b.tick c.args.slot b.links.lists c.sweep_bucket.new.links.lists c.sweep_bucket.ensures.swept c.requires.slot)
    (record {
      sound = ticked-sound b.sound c.requires.has_slots c.requires.in_buckets c.requires.in_order
          (no_rows (list_at b.slots b.links.lists) c.requires.nothing_due) c.requires.before_last;
    })

pub returns-clause-ticked : goal.returns-clause-ticked
returns-clause-ticked c =
    let b = c.args.buckets.now in
    rw (
      gone_through b.slots b.tick c.args.slot b.links.lists c.sweep_bucket.new.links.lists c.sweep_bucket.ensures.swept c.requires.slot,
      c.sweep_bucket.ensures.room,
    ) (ap (with_room b.links.room) (ticked b.sound c.requires.has_slots c.requires.in_buckets c.requires.in_order
    (no_rows (list_at b.slots b.links.lists) c.requires.nothing_due)))

pub returns-clause-in_buckets : goal.returns-clause-in_buckets
returns-clause-in_buckets c =
    let b = c.args.buckets.now in
    rw (gone_through b.slots b.tick c.args.slot b.links.lists c.sweep_bucket.new.links.lists c.sweep_bucket.ensures.swept c.requires.slot)
    (ticked-in_buckets b.sound c.requires.has_slots c.requires.in_buckets c.requires.in_order
    (no_rows (list_at b.slots b.links.lists) c.requires.nothing_due))

pub returns-clause-in_order : goal.returns-clause-in_order
returns-clause-in_order c =
    let b = c.args.buckets.now in
    rw (gone_through b.slots b.tick c.args.slot b.links.lists c.sweep_bucket.new.links.lists c.sweep_bucket.ensures.swept c.requires.slot)
    (ticked-in_order b.sound c.requires.has_slots c.requires.in_buckets c.requires.in_order
    (no_rows (list_at b.slots b.links.lists) c.requires.nothing_due))
