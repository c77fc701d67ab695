use Rattle.std.proofs.Common.{◌≡◌, ◌-◌, ℕ, length, refl, sym, ◌∙◌, ap, subst, arith}
use Rattle.timer_base.specs.WheelState.{IsPassing, WheelState}
use Rattle.timer_wheels.specs.BucketLists.{slots_in}
use Rattle.timer_links.specs.Lists.{list_at, KeyedLists}
use Rattle.timer_wheels.specs.Buckets.{state_of}
use Rattle.timer_wheels.specs.smooth.Paces.{pace_sum}
use Rattle.timer_wheels.specs.smooth.Smooth.{next_list, heights}
use Rattle.timer_wheels.specs.Tables.{radices, smooth_layout}
use Rattle.timer_wheels.specs.declared.table.Table.TheVariants.{Wide}
use Rattle.timer_wheels.proofs.bucket_lemmas.RoomLemmas.{passing-with_layout}
use Rattle.timer_wheels.proofs.smooth_lemmas.WakeUps.{ahead_of, next_empty}
use Rattle.timer_wheels.proofs.smooth_lemmas.Leaps.{open_of, leap_passes}
use Rattle.timer_wheels.proofs.smooth.SmoothWheel.leap.Goals as goal

pub next_event-event-requires-clause-open : goal.next_event-event-requires-clause-open
next_event-event-requires-clause-open g c =
    let w = c.args.self.now in
    let e : 0 ≡ pace_sum w.paces = omega (arith, c.sum.ensures, c.if-sum-ne0.false) in
    open_of Wide w.wheels.buckets w.paces w.in_time e

pub skip_to-requires-clause-ahead : goal.skip_to-requires-clause-ahead
skip_to-requires-clause-ahead g c =
    let w = c.args.self.now.wheels in
    let n = c.next_event-event in
    ahead_of Wide w.buckets w.filled w.wheels n.result (n.result - 1) (omega (arith, n.ensures.later)) (omega (arith, n.ensures.later)) n.ensures.events

pub invariant_of-self : goal.invariant_of-self
invariant_of-self g c =
    let w = c.args.self.now in
    let b = w.wheels.buckets in
    let n = c.next_event-event in
    let k = c.skip_to in
    let serial : k.new.self.buckets.last_serial ≡ b.last_serial = ap (λ (u : WheelState). u.last_serial) k.ensures.state in
    let slots : k.new.self.buckets.slots ≡ b.slots = ap (λ (u : WheelState). slots_in u.layout) k.ensures.state in
    record {
      in_time = λ j z l.
          let q : length (list_at (next_list (radices Wide) k.new.self.buckets.tick j) k.new.self.buckets.links.lists) ≡ 0 =
          ap (λ (x : ℕ). length (list_at (next_list (radices Wide) x j) k.new.self.buckets.links.lists)) k.ensures.tick
          ∙ (ap (λ (y : KeyedLists). length (list_at (next_list (radices Wide) (n.result - 1) j) y)) k.ensures.lists
          ∙ next_empty Wide b w.wheels.filled w.wheels.wheels n.result (n.result - 1) (omega (arith, n.ensures.later))
          (omega (arith, n.ensures.later)) n.ensures.events j z l) in
          omega arith;
      few_starts = omega (arith, w.few_starts);
      paid = let q : heights (radices Wide) k.new.self.buckets.slots k.new.self.buckets.links.lists
          ≡ heights (radices Wide) b.slots b.links.lists =
          ap (λ (x : ℕ). heights (radices Wide) x k.new.self.buckets.links.lists) slots
          ∙ ap (heights (radices Wide) b.slots) k.ensures.lists in
          omega (arith, w.paid);
    }

pub returns-clause-passing : goal.returns-clause-passing
returns-clause-passing g c =
    let w = c.args.self.now.wheels in
    let n = c.next_event-event in
    let k = c.skip_to in
    passing-with_layout (smooth_layout Wide) (smooth_layout Wide) refl
    (k.new.self.buckets.tick - w.buckets.tick) (state_of w.buckets) (state_of k.new.self.buckets)
    (subst (λ (x : ℕ). IsPassing (x - w.buckets.tick) (state_of w.buckets) (state_of k.new.self.buckets)) (sym k.ensures.tick)
    (leap_passes Wide w.buckets w.filled w.wheels (n.result - 1) (omega (arith, n.ensures.later))
    (ahead_of Wide w.buckets w.filled w.wheels n.result (n.result - 1) (omega (arith, n.ensures.later)) (omega (arith, n.ensures.later)) n.ensures.events)
    (state_of k.new.self.buckets) c.requires.nothing_due k.ensures.state))
