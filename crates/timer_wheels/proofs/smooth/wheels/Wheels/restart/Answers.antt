use Rattle.std.proofs.Common.{◌≡◌, ◌+◌, ℕ, sym, ◌∙◌, ap, arith, inl, inr, map, Some}
use Rattle.std.proofs.lemmas.Bool.{cases_lt}
use Rattle.timer_base.specs.WheelState.{held_at, old_timer}
use Rattle.timer_links.specs.Lists.{with_row, without_key}
use Rattle.timer_wheels.specs.BucketLists.{AreBuckets, EachRow}
use Rattle.timer_wheels.specs.Buckets.{state_of, row_at, replaced}
use Rattle.timer_wheels.specs.Occupied.{AreMarked}
use Rattle.timer_wheels.specs.smooth.Smooth.{heights, mark, IsByLaw}
use Rattle.timer_wheels.specs.Tables.{radices}
use Rattle.timer_wheels.specs.smooth.Wheels.{potential_of, wheel_of}
use Rattle.timer_wheels.specs.declared.table.Table.TheVariants.{Wide}
use Rattle.timer_wheels.proofs.smooth_lemmas.Potentials.{later_heights, due_heights, stopped_heights}
use Rattle.timer_wheels.proofs.smooth_lemmas.NextBuckets.{comes_to, without_shorter}
use Rattle.timer_wheels.proofs.smooth_lemmas.Wheels.{start_marked}
use Rattle.timer_wheels.proofs.smooth_lemmas.Removals.{stopped_marked}
use Rattle.timer_wheels.proofs.smooth_lemmas.Restarts.{restarted_later, restarted_due}
use Rattle.timer_wheels.proofs.bucket_lemmas.OrderedLists.{ordered-without_key, ordered-come}
use Rattle.timer_wheels.proofs.smooth_lemmas.Descent.{few_lists}
use Rattle.timer_wheels.proofs.bucket_lemmas.Updates.{removed}
use Rattle.timer_wheels.proofs.smooth.wheels.Wheels.restart.Goals as goal

pub leave-requires : goal.leave-requires
leave-requires g c = omega (arith, c.replace.ensures.frame.slots, c.args.self.now.wheels.has_slots, few_lists Wide)

pub enter-requires : goal.enter-requires
enter-requires g c = λ later. elim c.place_of-list.ensures.list [
  | inl q ↦ let s = c.args.self.now.wheels.has_slots in let f = few_lists Wide in let r = q.0 in omega arith
  | inr q ↦ absurd (let e = q.1 in omega arith)
]

pub invariant_of-self-2 : goal.invariant_of-self-2
invariant_of-self-2 g c =
    let w = c.args.self.now in
    let b = w.buckets in
    let new = c.replace.new.self in
    let list = c.place_of-list.result.0 in
    let timer = c.args.timer in
    let handle = c.args.handle in
    let r = c.in_ok-restarted in
    let f = c.replace.ensures.frame in
    let e = r.ensures.lists in
    let found : held_at handle (state_of b) ≡ Some r.restarted.1 = sym c.replace.ensures.old ∙ ap (λ o. old_timer (replaced o)) r.was in
    let sound : AreBuckets b.slots b.last_tick b.tick new.last_serial
    (with_row list (row_at handle.place timer 0) (map (without_key handle.place) b.links.lists)) =
    rw (← f.slots, ← f.last_tick, ← f.tick, ← e) new.sound in
    let ordered = ordered-come (removed b.sound handle.place) (ordered-without_key b.slots handle.place b.links.lists w.wheels.in_order) list
    (row_at handle.place timer 0) c.requires.fresh c.place_of-list.ensures.list in
    let placed : EachRow (IsByLaw (radices Wide) b.tick (mark (radices Wide) b.tick
    (with_row list (row_at handle.place timer 0) (map (without_key handle.place) b.links.lists)))) b.slots
    (with_row list (row_at handle.place timer 0) (map (without_key handle.place) b.links.lists)) = elim (cases_lt b.tick timer.deadline) [
      | inl later ↦ restarted_later Wide b w.filled w.wheels handle timer list new.last_serial c.requires.deadline c.requires.fresh
          c.requires.serial sound ordered later (c.place_of-list.ensures.bucket later)
      | inr past ↦ restarted_due Wide b w.filled w.wheels handle timer list new.last_serial c.requires.deadline c.requires.fresh
          c.requires.serial sound ordered (c.place_of-list.ensures.due past)
    ] in
    let left = stopped_marked Wide b w.filled w.wheels handle c.lemma_keys_unique.ensures r.restarted.1 found r.emptied
    r.ensures.emptied c.leave.new.filled (rw (← f.slots) c.leave.ensures) in
    let marked : AreMarked b.slots c.enter.new.filled
    (with_row list (row_at handle.place timer 0) (map (without_key handle.place) b.links.lists)) =
    start_marked b.slots b.tick (map (without_key handle.place) b.links.lists) c.leave.new.filled c.enter.new.filled
    (row_at handle.place timer 0) list timer.deadline left (removed b.sound handle.place).has_lists
    c.place_of-list.ensures.list c.enter.ensures.pending c.enter.ensures.due in
    record {
      wheels = record {
        has_slots = f.slots ∙ w.wheels.has_slots;
        clock = f.last_tick ∙ w.wheels.clock;
        placed = rw (f.tick, f.slots, e) placed;
        in_order = rw (f.slots, e) ordered;
        marked = rw (f.slots, e) marked;
      };
    }

pub returns-clause-comes : goal.returns-clause-comes
returns-clause-comes g c =
    let w = c.args.self.now in
    let b = w.buckets in
    let key = c.args.handle.place in
    comes_to Wide b w.filled w.wheels c.replace.new.self c.replace.ensures.frame (map (without_key key) b.links.lists)
    c.place_of-list.result.0 c.place_of-list.result.1 c.args.timer.deadline (row_at key c.args.timer 0) c.in_ok-restarted.ensures.lists
    (λ s l. without_shorter key s b.links.lists) (removed b.sound key).has_lists c.place_of-list.ensures.list c.place_of-list.ensures.next

pub returns-clause-potential : goal.returns-clause-potential
returns-clause-potential g c =
    let w = c.args.self.now in
    let b = w.buckets in
    let list = c.place_of-list.result.0 in
    let timer = c.args.timer in
    let handle = c.args.handle in
    let r = c.in_ok-restarted in
    let row = row_at handle.place timer 0 in
    let found : held_at handle (state_of b) ≡ Some r.restarted.1 = sym c.replace.ensures.old ∙ ap (λ o. old_timer (replaced o)) r.was in
    let is : potential_of Wide c.replace.new.self ≡ heights (radices Wide) b.slots (with_row list row (map (without_key handle.place) b.links.lists)) =
    ap (λ (x : ℕ). heights (radices Wide) x c.replace.new.self.links.lists) c.replace.ensures.frame.slots
    ∙ ap (heights (radices Wide) b.slots) r.ensures.lists in
    let came : heights (radices Wide) b.slots (with_row list row (map (without_key handle.place) b.links.lists))
    ≡ heights (radices Wide) b.slots (map (without_key handle.place) b.links.lists) + wheel_of Wide b timer = elim (cases_lt b.tick timer.deadline) [
      | inl later ↦ later_heights Wide b w.filled w.wheels timer list c.requires.deadline c.requires.fresh c.requires.serial row
          (map (without_key handle.place) b.links.lists) (removed b.sound handle.place).has_lists later (c.place_of-list.ensures.bucket later)
      | inr past ↦ due_heights Wide b w.filled w.wheels timer list c.requires.deadline c.requires.fresh c.requires.serial row
          (map (without_key handle.place) b.links.lists) past (c.place_of-list.ensures.due past)
    ] in
    omega (arith, stopped_heights Wide b w.filled w.wheels handle c.lemma_keys_unique.ensures r.restarted.1 found)
