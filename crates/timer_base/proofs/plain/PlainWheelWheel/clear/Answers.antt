use Rattle.timer_base.specs.WheelState.{with_room}
use Rattle.std.proofs.Common.{ap, sym, ◌∙◌}
use Rattle.timer_base.proofs.OrderLaws.{AreRising-filter, All-filter}
use Rattle.timer_base.specs.PlainState.{IsKept}
use Rattle.timer_base.proofs.PlainExpiries.{plain_state-after_clear, due_count-after_clear}
use Rattle.timer_base.proofs.plain.PlainWheelWheel.clear.Goals as goal

pub invariant_of-self-clause-rising : goal.invariant_of-self-clause-rising
invariant_of-self-clause-rising c = rw c.keep_due.ensures.items (AreRising-filter _ 0 c.args.self.now.timers.items c.args.self.now.rising)

pub invariant_of-self-clause-kept : goal.invariant_of-self-clause-kept
invariant_of-self-clause-kept c =
    let s = c.args.self.now in
    rw c.keep_due.ensures.items (All-filter (IsKept s.now s.last_serial) (IsKept s.now s.last_serial) _ s.timers.items (λ x e k. k) s.kept)

pub invariant_of-self-clause-counted : goal.invariant_of-self-clause-counted
invariant_of-self-clause-counted c =
    let s = c.args.self.now in
    rw c.keep_due.ensures.items (s.counted ∙ sym (due_count-after_clear s.now s.timers.items))

pub returns-clause-cleared : goal.returns-clause-cleared
returns-clause-cleared c =
    let s = c.args.self.now in
    rw c.keep_due.ensures.items (ap (with_room s.room) (plain_state-after_clear s.now s.last_serial s.timers.items))
