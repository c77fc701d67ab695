use Rattle.std.proofs.Common.{◌≡◌, ◌≤◌, ◌+◌, ℕ, List, length, sym, ◌∙◌, ap, arith}
use Rattle.std.proofs.lemmas.List.{length-map}
use Rattle.timer_base.specs.Order.{in_order, itself}
use Rattle.timer_base.specs.Pending.{timers_of}
use Rattle.timer_wheels.specs.Types.{Timer, KeyedLists}
use Rattle.timer_wheels.specs.BucketLists.{rows_below, row_timer, row_timers, pending_in}
use Rattle.timer_wheels.proofs.bucket_lemmas.Calls.{length-pending_in}
use Rattle.timer_wheels.proofs.bucket_lemmas.RowLemmas.{timers_below-more, length-rows_below-next}
use Rattle.timer_wheels.specs.BucketLaws.{timers_of-pending}
use Rattle.timer_wheels.proofs.buckets.Buckets.list_into.Goals as goal

pub copy_list-requires : goal.copy_list-requires
copy_list-requires g c =
    let b = c.args.self.now in
    let lists : length b.links.lists ≡ b.slots + 1 = b.sound.has_lists in
    let copied : length c.loop-bucket.timers.items ≡ length (rows_below c.loop-bucket.bucket b.links.lists) =
    ap (λ (ts : List Timer). length ts) c.loop-bucket.invariant.0 ∙ length-map (rows_below c.loop-bucket.bucket b.links.lists) row_timer in
    let next = length-rows_below-next c.loop-bucket.bucket b.slots b.links.lists (omega arith) (omega arith) in
    record { list = omega arith; room = omega (arith, c.loop-bucket.invariant.1) }

pub loop-bucket-init : goal.loop-bucket-init
loop-bucket-init g c =
    let b = c.args.self.now in (
      c.clear.ensures.items,
      omega (
        arith,
        length-pending_in (rows_below b.slots b.links.lists),
        c.len.ensures,
        c.len-pending.ensures,
        c.saturating_sub.ensures,
        c.in_ok-reserve_exact.ensures.ok,
        c.in_ok-reserve_exact.ensures.len,
        c.clear.ensures.capacity,
      ),
      omega (arith, c.in_ok-reserve_exact.ensures.capacity, c.clear.ensures.capacity),
    )

pub loop-bucket-preserved : goal.loop-bucket-preserved
loop-bucket-preserved g c =
    let b = c.args.self.now in
    let lists : length b.links.lists ≡ b.slots + 1 = b.sound.has_lists in (
      timers_below-more c.loop-bucket.bucket b.links.lists c.loop-bucket.timers.items c.copy_list.new.timers.items
          (omega arith) c.loop-bucket.invariant.0 c.copy_list.ensures.items,
      omega (arith, c.copy_list.ensures.capacity, c.loop-bucket.invariant.1),
      omega (arith, c.copy_list.ensures.capacity, c.loop-bucket.invariant.2),
    )

sorted_rows : (n k : ℕ) (lists : KeyedLists) (items new : List Timer) → n ≤ k → k ≤ n → items ≡ row_timers (rows_below k lists)
    → new ≡ in_order itself items → new ≡ timers_of (pending_in (rows_below n lists))
sorted_rows n k lists items new a b i s =
    let e : k ≡ n = omega arith in
    s ∙ (ap (in_order itself) (i ∙ ap (λ (y : ℕ). row_timers (rows_below y lists)) e) ∙ sym (timers_of-pending (rows_below n lists)))

pub returns-clause-listed : goal.returns-clause-listed
returns-clause-listed g c =
    let b = c.args.self.now in
    sorted_rows b.slots c.loop-bucket.bucket b.links.lists c.loop-bucket.timers.items c.sort_timers.new.timers.items
    c.loop-bucket-test.false
    c.loop-bucket.auto.bucket-end c.loop-bucket.invariant.0 c.sort_timers.ensures.order
