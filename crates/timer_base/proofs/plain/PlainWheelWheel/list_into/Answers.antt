use Rattle.std.proofs.Common.{◌≡◌, length, sym, ◌∙◌, ap, arith, ◌++◌}
use Rattle.std.specs.Prelude.{filter}
use Rattle.timer_base.specs.Order.{in_order, itself}
use Rattle.timer_base.proofs.OrderLaws.{AreDistinct-rising, AreRising-filter}
use Rattle.timer_base.specs.PlainState.{is_after, plain_state}
use Rattle.timer_base.specs.WellFormed.{timers_of-at_first_place}
use Rattle.timer_base.proofs.PlainSteps.{length-pending}
use Rattle.timer_base.proofs.plain.PlainWheelWheel.list_into.Goals as goal

pub copy_pending-requires : goal.copy_pending-requires
copy_pending-requires c =
    let s = c.args.self.now in
    let none : length c.clear.new.self.items ≡ 0 = ap (λ ts. length ts) c.clear.ensures.items in
    let as_many : length (plain_state s.now s.last_serial s.timers.items).pending ≡ length (filter (is_after s.now) s.timers.items) =
    length-pending s.now s.last_serial s.timers.items in
    let same : length (filter (is_after s.now) c.as_slice.result.now) ≡ length (filter (is_after s.now) s.timers.items) =
    ap (λ ts. length (filter (is_after s.now) ts)) c.as_slice.ensures.value in
    omega (arith, c.len.ensures, c.len-pending.ensures, c.saturating_sub.ensures, c.in_ok-reserve_exact.ensures.ok, c.in_ok-reserve_exact.ensures.len, c.clear.ensures.capacity)

pub sort_timers-requires : goal.sort_timers-requires
sort_timers-requires c =
    let s = c.args.self.now in
    let copied : c.copy_pending.new.pending.items ≡ filter (is_after s.now) s.timers.items =
    c.copy_pending.ensures.items ∙ (ap (λ ts. ts ++ filter (is_after s.now) c.as_slice.result.now) c.clear.ensures.items
    ∙ ap (filter (is_after s.now)) c.as_slice.ensures.value) in
    record {
      distinct = rw copied (AreDistinct-rising 0 (filter (is_after s.now) s.timers.items)
          (AreRising-filter (is_after s.now) 0 s.timers.items s.rising));
    }

pub returns-clause-listed : goal.returns-clause-listed
returns-clause-listed c =
    let s = c.args.self.now in
    let copied : c.copy_pending.new.pending.items ≡ filter (is_after s.now) s.timers.items =
    c.copy_pending.ensures.items ∙ (ap (λ ts. ts ++ filter (is_after s.now) c.as_slice.result.now) c.clear.ensures.items
    ∙ ap (filter (is_after s.now)) c.as_slice.ensures.value) in
    c.sort_timers.ensures.order ∙ ap (in_order itself) copied ∙ sym (timers_of-at_first_place
    (in_order itself (filter (is_after s.now) s.timers.items)))
