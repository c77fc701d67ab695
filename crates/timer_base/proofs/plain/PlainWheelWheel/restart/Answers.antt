use Rattle.std.proofs.Common.{◌<◌, List, length, sym, ◌∙◌, ap, subst}
use Rattle.timer_base.specs.Types.{Timer}
use Rattle.timer_base.proofs.HeldLaws.{with_room-held_start}
use Rattle.timer_base.proofs.OrderLaws.{AreRising-filter}
use Rattle.timer_base.specs.PlainState.{due_count, plain_state}
use Rattle.timer_base.specs.WheelState.{after_held_start, after_removal, with_room}
use Rattle.timer_base.proofs.PlainHeld.{kept-without, one_less, plain_state-after_removal}
use Rattle.timer_base.proofs.PlainSteps.{plain_state-after_held_start, kept-after_start, rising-after_start}
use Rattle.timer_base.proofs.plain.PlainWheelWheel.restart.Goals as goal

pub push_reserved-requires : goal.push_reserved-requires
push_reserved-requires c =
    let s = c.args.self.now in
    let P : List Timer → Type 0 = λ less. length less < length s.timers.items in
    c.drop_serial.ensures.room (subst P (sym c.drop_serial.ensures.items)
    (one_less s.now s.last_serial s.timers.items c.args.handle s.kept s.rising c.in_ok-old.old (sym c.look.ensures.timer
    ∙ c.in_ok-old.was)))

pub invariant_of-self-clause-rising : goal.invariant_of-self-clause-rising
invariant_of-self-clause-rising c =
    let s = c.args.self.now in
    rw (c.push_reserved.ensures.items, c.drop_serial.ensures.items)
    (rising-after_start s.now s.last_serial _ c.args.timer (kept-without s.now s.last_serial c.in_ok-old.old.serial s.timers.items
    s.kept) (AreRising-filter _ 0 s.timers.items s.rising) c.requires.fresh)

pub invariant_of-self-clause-kept : goal.invariant_of-self-clause-kept
invariant_of-self-clause-kept c =
    let s = c.args.self.now in
    rw (c.push_reserved.ensures.items, c.drop_serial.ensures.items)
    (kept-after_start s.now s.last_serial _ c.args.timer (kept-without s.now s.last_serial c.in_ok-old.old.serial s.timers.items s.kept)
    c.requires.fresh c.requires.not_past c.requires.deadline)

pub invariant_of-self-clause-counted : goal.invariant_of-self-clause-counted
invariant_of-self-clause-counted c =
    let s = c.args.self.now in
    c.count_due-self.ensures ∙ ap (due_count s.now) c.as_slice.ensures.value

pub returns-clause-restarted : goal.returns-clause-restarted
returns-clause-restarted c =
    let s = c.args.self.now in
    rw (c.push_reserved.ensures.items, c.drop_serial.ensures.items)
    (ap (with_room s.room) (plain_state-after_held_start s.now s.last_serial _ c.args.timer
    (kept-without s.now s.last_serial c.in_ok-old.old.serial s.timers.items s.kept) c.requires.fresh c.requires.not_past
    ∙ ap (after_held_start 0 c.args.timer) (plain_state-after_removal s.now s.last_serial s.timers.items c.args.handle
    s.kept s.rising c.in_ok-old.old (sym c.look.ensures.timer ∙ c.in_ok-old.was)))
    ∙ with_room-held_start s.room 0 c.args.timer (after_removal c.args.handle (plain_state s.now s.last_serial s.timers.items)))
