use Rattle.std.proofs.Common.{sym, ◌∙◌, ap}
use Rattle.timer_base.proofs.HeldLaws.{with_room-held_start}
use Rattle.timer_base.specs.WheelState.{with_room, after_held_start, after_removal}
use Rattle.timer_wheels.specs.Buckets.{roomless_state, row_at}
use Rattle.timer_wheels.proofs.bucket_lemmas.Handles.{held_used, removed_state}
use Rattle.timer_wheels.proofs.bucket_lemmas.Updates.{removed, pushed_in, pushed_in-state, in_lists}
use Rattle.timer_wheels.proofs.buckets.Buckets.replace.Goals as goal

pub replace_node-emptied-requires-clause-used : goal.replace_node-emptied-requires-clause-used
replace_node-emptied-requires-clause-used g c = held_used c.args.self.now.sound c.lemma_keys_unique.ensures c.args.handle c.in_ok-old.old
    (sym c.look.ensures.timer ∙ c.in_ok-old.was)

pub replace_node-emptied-requires-clause-list : goal.replace_node-emptied-requires-clause-list
replace_node-emptied-requires-clause-list g c = in_lists c.args.self.now.sound c.args.list c.args.timer.deadline c.requires.list

pub invariant_of-self : goal.invariant_of-self
invariant_of-self g c =
    let row = row_at c.args.handle.place c.args.timer c.args.rounds in
    rw c.replace_node-emptied.ensures.replaced (record {
      sound = pushed_in (removed c.args.self.now.sound c.args.handle.place) c.args.list row.0 row.1 c.requires.deadline
          c.requires.fresh c.requires.serial c.requires.list;
    })

pub returns-clause-restarted : goal.returns-clause-restarted
returns-clause-restarted g c =
    let b = c.args.self.now in
    let row = row_at c.args.handle.place c.args.timer c.args.rounds in
    rw (c.replace_node-emptied.ensures.replaced, c.replace_node-emptied.ensures.room) (ap (with_room b.links.room)
    (pushed_in-state (removed b.sound c.args.handle.place) c.args.list row.0 row.1 c.requires.deadline c.requires.fresh
    c.requires.serial c.requires.list
    ∙ ap (after_held_start c.args.handle.place c.args.timer) (removed_state b.sound c.lemma_keys_unique.ensures c.args.handle
    c.in_ok-old.old (sym c.look.ensures.timer ∙ c.in_ok-old.was)))
    ∙ with_room-held_start b.links.room row.0 c.args.timer (after_removal c.args.handle (roomless_state b)))
