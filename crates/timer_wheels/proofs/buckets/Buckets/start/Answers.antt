use Rattle.std.proofs.Common.{◌∙◌, ap, arith}
use Rattle.std.proofs.lemmas.List.{length-map}
use Rattle.timer_base.proofs.HeldLaws.{with_room-held_start}
use Rattle.timer_base.specs.WheelState.{with_room}
use Rattle.timer_links.specs.Lists.{list_at}
use Rattle.timer_wheels.specs.Buckets.{roomless_state, row_at}
use Rattle.timer_wheels.specs.BucketLists.{rows_below, entry_of}
use Rattle.timer_wheels.proofs.bucket_lemmas.Calls.{row_count-parts, length-pending_in}
use Rattle.timer_wheels.proofs.bucket_lemmas.Updates.{pushed_in, pushed_in-state, in_lists}
use Rattle.timer_wheels.proofs.buckets.Buckets.start.Goals as goal

pub push_back-requires-clause-list : goal.push_back-requires-clause-list
push_back-requires-clause-list g c = in_lists c.args.self.now.sound c.args.list c.args.timer.deadline c.requires.list

pub invariant_of-self-2 : goal.invariant_of-self-2
invariant_of-self-2 g c =
    let row = row_at c.in-Ok.place c.args.timer c.args.rounds in
    rw c.in-Ok.ensures.pushed (record {
      sound = pushed_in c.args.self.now.sound c.args.list row.0 row.1 c.requires.deadline c.requires.fresh c.requires.serial
          c.requires.list;
    })

pub returns-clause-started : goal.returns-clause-started
returns-clause-started g c =
    let b = c.args.self.now in
    let row = row_at c.in-Ok.place c.args.timer c.args.rounds in
    rw (c.in-Ok.ensures.pushed, c.in-Ok.ensures.room) (ap (with_room b.links.room)
    (pushed_in-state b.sound c.args.list row.0 row.1 c.requires.deadline c.requires.fresh c.requires.serial c.requires.list)
    ∙ with_room-held_start b.links.room row.0 c.args.timer (roomless_state b))

pub returns-in_default-clause-full : goal.returns-in_default-clause-full
returns-in_default-clause-full g c =
    let b = c.args.self.now in
    omega (
      arith,
      row_count-parts b.slots b.links.lists b.sound.has_lists,
      length-pending_in (rows_below b.slots b.links.lists),
      length-map (list_at b.slots b.links.lists) entry_of,
      c.in_default.ensures.full,
    )
