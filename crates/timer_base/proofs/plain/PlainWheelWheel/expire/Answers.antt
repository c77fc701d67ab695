use Rattle.timer_base.specs.WheelState.{with_room}
use Rattle.std.proofs.Common.{◌≡◌, ◌<◌, sym, ◌∙◌, ap, arith}
use Rattle.timer_base.proofs.OrderLaws.{AreRising-filter}
use Rattle.timer_base.specs.PlainState.{due_count}
use Rattle.timer_base.proofs.PlainExpiries.{first_is_due, plain_state-after_expiry, plain_state-none_due, some_due, due_count-after_expiry}
use Rattle.timer_base.proofs.PlainHeld.{kept-without}
use Rattle.timer_base.proofs.plain.PlainWheelWheel.expire.Goals as goal

pub returns-in_err-first-clause-first : goal.returns-in_err-first-clause-first
returns-in_err-first-clause-first c =
    let s = c.args.self.now in
    let seen = rw c.as_slice.ensures.value at c.find_due.ensures in
    c.from_residual.ensures ∙ sym c.in_err-first.was ∙ seen ∙ first_is_due s.now s.last_serial s.timers.items

pub returns-in_err-first-clause-rest : goal.returns-in_err-first-clause-rest
returns-in_err-first-clause-rest c =
    let s = c.args.self.now in
    let seen = rw c.as_slice.ensures.value at c.find_due.ensures in
    ap (with_room s.room) (plain_state-none_due s.now s.last_serial s.timers.items (sym seen ∙ c.in_err-first.was))

pub overflow_sub-self : goal.overflow_sub-self
overflow_sub-self c =
    let s = c.args.self.now in
    let seen = rw c.as_slice.ensures.value at c.find_due.ensures in
    let some : 0 < due_count s.now s.timers.items = some_due s.now s.timers.items c.in_ok-first.first (sym seen ∙ c.in_ok-first.was) in
    let counted : s.due ≡ due_count s.now s.timers.items = s.counted in
    omega arith

pub invariant_of-self-clause-rising : goal.invariant_of-self-clause-rising
invariant_of-self-clause-rising c = rw c.drop_serial.ensures.items
    (AreRising-filter _ 0 c.args.self.now.timers.items c.args.self.now.rising)

pub invariant_of-self-clause-kept : goal.invariant_of-self-clause-kept
invariant_of-self-clause-kept c =
    let s = c.args.self.now in
    rw c.drop_serial.ensures.items (kept-without s.now s.last_serial c.in_ok-first.first.serial s.timers.items s.kept)

pub invariant_of-self-clause-counted : goal.invariant_of-self-clause-counted
invariant_of-self-clause-counted c =
    let s = c.args.self.now in
    let seen = rw c.as_slice.ensures.value at c.find_due.ensures in
    let counted : s.due ≡ due_count s.now s.timers.items = s.counted in
    let rest = due_count-after_expiry s.now s.timers.items c.in_ok-first.first (sym seen ∙ c.in_ok-first.was) s.rising in
    rw c.drop_serial.ensures.items (omega arith)

pub returns-clause-first : goal.returns-clause-first
returns-clause-first c =
    let s = c.args.self.now in
    let seen = rw c.as_slice.ensures.value at c.find_due.ensures in
    sym c.in_ok-first.was ∙ seen ∙ first_is_due s.now s.last_serial s.timers.items

pub returns-clause-rest : goal.returns-clause-rest
returns-clause-rest c =
    let s = c.args.self.now in
    let seen = rw c.as_slice.ensures.value at c.find_due.ensures in
    rw c.drop_serial.ensures.items (ap (with_room s.room) (plain_state-after_expiry s.now s.last_serial s.timers.items c.in_ok-first.first
    (sym seen
    ∙ c.in_ok-first.was) s.rising))
