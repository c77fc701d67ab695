use Rattle.std.proofs.Common.{sym, ◌∙◌, ap}
use Rattle.timer_base.proofs.HeldLaws.{none_removed}
use Rattle.timer_base.proofs.OrderLaws.{AreRising-filter}
use Rattle.timer_base.specs.PlainState.{due_count, plain_state}
use Rattle.timer_base.specs.WheelState.{with_room}
use Rattle.timer_base.proofs.PlainHeld.{kept-without, plain_state-after_removal}
use Rattle.timer_base.proofs.plain.PlainWheelWheel.stop.Goals as goal

pub returns-in_err-stopped-clause-stopped : goal.returns-in_err-stopped-clause-stopped
returns-in_err-stopped-clause-stopped c =
    let s = c.args.self.now in
    none_removed c.args.handle (with_room s.room (plain_state s.now s.last_serial s.timers.items))
    (sym c.look.ensures.timer ∙ c.in_err-stopped.was)

pub invariant_of-self-clause-rising : goal.invariant_of-self-clause-rising
invariant_of-self-clause-rising c = rw c.drop_serial.ensures.items
    (AreRising-filter _ 0 c.args.self.now.timers.items c.args.self.now.rising)

pub invariant_of-self-clause-kept : goal.invariant_of-self-clause-kept
invariant_of-self-clause-kept c =
    let s = c.args.self.now in
    rw c.drop_serial.ensures.items (kept-without s.now s.last_serial c.in_ok-stopped.stopped.serial s.timers.items s.kept)

pub invariant_of-self-clause-counted : goal.invariant_of-self-clause-counted
invariant_of-self-clause-counted c =
    let s = c.args.self.now in
    c.count_due-self.ensures ∙ ap (due_count s.now) c.as_slice.ensures.value

pub returns-clause-stopped : goal.returns-clause-stopped
returns-clause-stopped c =
    let s = c.args.self.now in
    rw c.drop_serial.ensures.items (ap (with_room s.room) (plain_state-after_removal s.now s.last_serial s.timers.items
    c.args.handle s.kept s.rising c.in_ok-stopped.stopped (sym c.look.ensures.timer ∙ c.in_ok-stopped.was)))
