use Rattle.std.proofs.Common.{◌≡◌, ◌<◌, ◌∙◌, ap, subst, arith, inl, not, true, Bool}
use Rattle.timer_base.proofs.HeldLaws.{with_room-held_start}
use Rattle.timer_base.specs.WheelState.{with_room, after_held_start, after_removal}
use Rattle.timer_links.proofs.LinksCalls.{Held, held, some_is}
use Rattle.timer_links.specs.Lists.{node_at}
use Rattle.timer_wheels.specs.Buckets.{roomless_state, row_at, IsListOf}
use Rattle.timer_wheels.proofs.bucket_lemmas.Handles.{held_used, removed_state, the_timer}
use Rattle.timer_wheels.proofs.bucket_lemmas.ReplaceLemmas.{now_under, mid_in_range, still_empty, replaced, alone_before}
use Rattle.timer_wheels.proofs.bucket_lemmas.Updates.{removed, pushed_in, pushed_in-state, in_lists}
use Rattle.timer_wheels.proofs.buckets.Buckets.move_later.Goals as goal

pub set_node-requires-clause-used : goal.set_node-requires-clause-used
set_node-requires-clause-used g c =
    let t = the_timer _ c.requires.held in
    held_used c.args.self.now.sound c.lemma_keys_unique.ensures c.args.handle t.0 t.1

pub bucket_of-list-requires-clause-deadline : goal.bucket_of-list-requires-clause-deadline
bucket_of-list-requires-clause-deadline g c = rw (← c.requires.last_tick) c.requires.deadline

pub is_empty-had_timers-requires : goal.is_empty-had_timers-requires
is_empty-had_timers-requires g c =
    let b = c.args.self.now in
    let t = the_timer _ c.requires.held in
    let u : Held (node_at c.args.handle.place b.links.lists) = held _ (held_used b.sound c.lemma_keys_unique.ensures c.args.handle t.0 t.1) in
    let row = row_at c.args.handle.place c.args.timer 0 in
    let list = c.bucket_of-list.result in
    let few : list < b.slots = (let h = c.bucket_of-list.ensures.in_range in let k = c.requires.slots in omega arith) in
    let at : IsListOf list b.slots b.tick c.args.timer.deadline = inl (few, c.requires.later) in
    mid_in_range row.0 list row.1 b.links.lists c.set_node.new.self.lists
    u c.lemma_keys_unique.ensures c.set_node.ensures.set c.lemma_keys_unique-2.ensures (in_lists b.sound list c.args.timer.deadline at)

pub move_back-emptied-requires-clause-used : goal.move_back-emptied-requires-clause-used
move_back-emptied-requires-clause-used g c =
    let b = c.args.self.now in
    let t = the_timer _ c.requires.held in
    let u : Held (node_at c.args.handle.place b.links.lists) = held _ (held_used b.sound c.lemma_keys_unique.ensures c.args.handle t.0 t.1) in
    let row = row_at c.args.handle.place c.args.timer 0 in
    some_is _ row.1 (now_under row.0 c.bucket_of-list.result row.1 b.links.lists c.set_node.new.self.lists
    u c.lemma_keys_unique.ensures c.set_node.ensures.set c.lemma_keys_unique-2.ensures)

pub move_back-emptied-requires-clause-list : goal.move_back-emptied-requires-clause-list
move_back-emptied-requires-clause-list g c =
    let b = c.args.self.now in
    let t = the_timer _ c.requires.held in
    let u : Held (node_at c.args.handle.place b.links.lists) = held _ (held_used b.sound c.lemma_keys_unique.ensures c.args.handle t.0 t.1) in
    let row = row_at c.args.handle.place c.args.timer 0 in
    let list = c.bucket_of-list.result in
    let few : list < b.slots = (let h = c.bucket_of-list.ensures.in_range in let k = c.requires.slots in omega arith) in
    let at : IsListOf list b.slots b.tick c.args.timer.deadline = inl (few, c.requires.later) in
    mid_in_range row.0 list row.1 b.links.lists c.set_node.new.self.lists
    u c.lemma_keys_unique.ensures c.set_node.ensures.set c.lemma_keys_unique-2.ensures (in_lists b.sound list c.args.timer.deadline at)

pub invariant_of-self : goal.invariant_of-self
invariant_of-self g c =
    let b = c.args.self.now in
    let t = the_timer _ c.requires.held in
    let u : Held (node_at c.args.handle.place b.links.lists) = held _ (held_used b.sound c.lemma_keys_unique.ensures c.args.handle t.0 t.1) in
    let row = row_at c.args.handle.place c.args.timer 0 in
    let list = c.bucket_of-list.result in
    let few : list < b.slots = (let h = c.bucket_of-list.ensures.in_range in let k = c.requires.slots in omega arith) in
    let at : IsListOf list b.slots b.tick c.args.timer.deadline = inl (few, c.requires.later) in
    let now = replaced row.0 list row.1 b.links.lists c.set_node.new.self.lists
    u c.lemma_keys_unique.ensures c.set_node.ensures.set c.lemma_keys_unique-2.ensures c.move_back-emptied.new.self.lists c.move_back-emptied.ensures.moved in
    rw now (record {
      sound = pushed_in (removed b.sound row.0) list row.0 row.1 c.requires.deadline c.requires.fresh c.requires.serial at;
    })

pub returns-clause-lists : goal.returns-clause-lists
returns-clause-lists g c =
    let b = c.args.self.now in
    let t = the_timer _ c.requires.held in
    let u : Held (node_at c.args.handle.place b.links.lists) = held _ (held_used b.sound c.lemma_keys_unique.ensures c.args.handle t.0 t.1) in
    let row = row_at c.args.handle.place c.args.timer 0 in
    replaced row.0 c.bucket_of-list.result row.1 b.links.lists c.set_node.new.self.lists
    u c.lemma_keys_unique.ensures c.set_node.ensures.set c.lemma_keys_unique-2.ensures c.move_back-emptied.new.self.lists c.move_back-emptied.ensures.moved

pub returns-clause-restarted : goal.returns-clause-restarted
returns-clause-restarted g c =
    let b = c.args.self.now in
    let t = the_timer _ c.requires.held in
    let u : Held (node_at c.args.handle.place b.links.lists) = held _ (held_used b.sound c.lemma_keys_unique.ensures c.args.handle t.0 t.1) in
    let row = row_at c.args.handle.place c.args.timer 0 in
    let list = c.bucket_of-list.result in
    let few : list < b.slots = (let h = c.bucket_of-list.ensures.in_range in let k = c.requires.slots in omega arith) in
    let at : IsListOf list b.slots b.tick c.args.timer.deadline = inl (few, c.requires.later) in
    let now = replaced row.0 list row.1 b.links.lists c.set_node.new.self.lists
    u c.lemma_keys_unique.ensures c.set_node.ensures.set c.lemma_keys_unique-2.ensures c.move_back-emptied.new.self.lists c.move_back-emptied.ensures.moved in
    rw (now, c.move_back-emptied.ensures.room, c.set_node.ensures.room) (ap (with_room b.links.room)
    (pushed_in-state (removed b.sound row.0) list row.0 row.1 c.requires.deadline c.requires.fresh c.requires.serial at
    ∙ ap (after_held_start row.0 c.args.timer) (removed_state b.sound c.lemma_keys_unique.ensures c.args.handle t.0 t.1))
    ∙ with_room-held_start b.links.room row.0 c.args.timer (after_removal c.args.handle (roomless_state b)))

pub returns-clause-emptied : goal.returns-clause-emptied
returns-clause-emptied g c = alone_before c.args.handle.place (row_at c.args.handle.place c.args.timer 0).1 c.args.self.now.links.lists
    c.set_node.new.self.lists c.move_back-emptied.result c.set_node.ensures.set c.move_back-emptied.ensures.emptied

pub returns-clause-filled : goal.returns-clause-filled
returns-clause-filled g c = λ no.
    let both = c.may_be_first.ensures no in (
      both.1,
      λ e.
          let b = c.args.self.now in
          let t = the_timer _ c.requires.held in
          let u : Held (node_at c.args.handle.place b.links.lists) = held _ (held_used b.sound c.lemma_keys_unique.ensures c.args.handle t.0 t.1) in
          let row = row_at c.args.handle.place c.args.timer 0 in
          let yes : c.is_empty-had_timers.result ≡ true = c.is_empty-had_timers.ensures.1 (still_empty row.0 c.bucket_of-list.result row.1 b.links.lists
          c.set_node.new.self.lists u c.lemma_keys_unique.ensures c.set_node.ensures.set c.lemma_keys_unique-2.ensures e) in
          let never : not true ≡ true = subst (λ (r : Bool). not r ≡ true) yes both.0 in
          absurd (cc),
    )
