use Rattle.std.proofs.Common.{◌≡◌, ℕ, ◌∙◌, ap, arith, inl, inr}
use Rattle.std.proofs.lemmas.Bool.{cases_lt}
use Rattle.timer_links.specs.Lists.{with_row}
use Rattle.timer_wheels.specs.BucketLists.{AreBuckets, EachRow}
use Rattle.timer_wheels.specs.Buckets.{row_at}
use Rattle.timer_wheels.specs.Occupied.{AreMarked}
use Rattle.timer_wheels.specs.smooth.Smooth.{heights, mark, IsByLaw}
use Rattle.timer_wheels.specs.Tables.{radices}
use Rattle.timer_wheels.specs.smooth.Wheels.{potential_of}
use Rattle.timer_wheels.specs.declared.table.Table.TheVariants.{Wide}
use Rattle.timer_wheels.proofs.smooth_lemmas.Potentials.{later_heights, due_heights}
use Rattle.timer_wheels.proofs.smooth_lemmas.NextBuckets.{comes_to}
use Rattle.timer_wheels.proofs.smooth_lemmas.Wheels.{later_placed, due_placed, start_marked}
use Rattle.timer_wheels.proofs.bucket_lemmas.OrderedLists.{ordered-come}
use Rattle.timer_wheels.proofs.smooth_lemmas.Descent.{few_lists}
use Rattle.timer_wheels.proofs.smooth.wheels.Wheels.start.Goals as goal

pub enter-requires : goal.enter-requires
enter-requires g c = λ later. elim c.place_of-list.ensures.list [
  | inl q ↦ let s = c.args.self.now.wheels.has_slots in let f = few_lists Wide in let r = q.0 in omega arith
  | inr q ↦ absurd (let e = q.1 in omega arith)
]

pub invariant_of-self-2 : goal.invariant_of-self-2
invariant_of-self-2 g c =
    let w = c.args.self.now in
    let b = w.buckets in
    let new = c.start.new.self in
    let list = c.place_of-list.result.0 in
    let timer = c.args.timer in
    let place = c.in_ok-handle.handle.place in
    let f = c.start.ensures.frame in
    let e = c.in_ok-handle.ensures.lists in
    let sound : AreBuckets b.slots b.last_tick b.tick new.last_serial (with_row list (row_at place timer 0) b.links.lists) =
    rw (← f.slots, ← f.last_tick, ← f.tick, ← e) new.sound in
    let ordered = ordered-come b.sound w.wheels.in_order list (row_at place timer 0) c.requires.fresh c.place_of-list.ensures.list in
    let placed : EachRow (IsByLaw (radices Wide) b.tick (mark (radices Wide) b.tick (with_row list (row_at place timer 0) b.links.lists)))
    b.slots (with_row list (row_at place timer 0) b.links.lists) = elim (cases_lt b.tick timer.deadline) [
      | inl later ↦ later_placed Wide b w.filled w.wheels timer place list new.last_serial c.requires.deadline c.requires.fresh c.requires.serial
          sound ordered later (c.place_of-list.ensures.bucket later)
      | inr past ↦ due_placed Wide b w.filled w.wheels timer place list new.last_serial c.requires.deadline c.requires.fresh c.requires.serial
          sound ordered (c.place_of-list.ensures.due past)
    ] in
    let marked : AreMarked b.slots c.enter.new.filled (with_row list (row_at place timer 0) b.links.lists) =
    start_marked b.slots b.tick b.links.lists w.filled c.enter.new.filled (row_at place timer 0) list timer.deadline w.wheels.marked b.sound.has_lists
    c.place_of-list.ensures.list c.enter.ensures.pending c.enter.ensures.due in
    record {
      wheels = record {
        has_slots = f.slots ∙ w.wheels.has_slots;
        clock = f.last_tick ∙ w.wheels.clock;
        placed = rw (f.tick, f.slots, e) placed;
        in_order = rw (f.slots, e) ordered;
        marked = rw (f.slots, e) marked;
      };
    }

pub returns-clause-comes : goal.returns-clause-comes
returns-clause-comes g c =
    let w = c.args.self.now in
    let b = w.buckets in
    comes_to Wide b w.filled w.wheels c.start.new.self c.start.ensures.frame b.links.lists c.place_of-list.result.0 c.place_of-list.result.1
    c.args.timer.deadline (row_at c.in_ok-handle.handle.place c.args.timer 0) c.in_ok-handle.ensures.lists (λ s l. omega arith)
    b.sound.has_lists c.place_of-list.ensures.list c.place_of-list.ensures.next

pub returns-clause-potential : goal.returns-clause-potential
returns-clause-potential g c =
    let w = c.args.self.now in
    let b = w.buckets in
    let list = c.place_of-list.result.0 in
    let timer = c.args.timer in
    let row = row_at c.in_ok-handle.handle.place timer 0 in
    let is : potential_of Wide c.start.new.self ≡ heights (radices Wide) b.slots (with_row list row b.links.lists) =
    ap (λ (x : ℕ). heights (radices Wide) x c.start.new.self.links.lists) c.start.ensures.frame.slots
    ∙ ap (heights (radices Wide) b.slots) c.in_ok-handle.ensures.lists in
    is ∙ elim (cases_lt b.tick timer.deadline) [
      | inl later ↦ later_heights Wide b w.filled w.wheels timer list c.requires.deadline c.requires.fresh c.requires.serial row b.links.lists
          b.sound.has_lists later (c.place_of-list.ensures.bucket later)
      | inr past ↦ due_heights Wide b w.filled w.wheels timer list c.requires.deadline c.requires.fresh c.requires.serial row b.links.lists
          past (c.place_of-list.ensures.due past)
    ]
