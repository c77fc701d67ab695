use Rattle.timer_base.specs.WheelState.{with_room}
use Rattle.std.proofs.Common.{◌+◌, ◌∙◌, ap}
use Rattle.timer_base.specs.PlainState.{due_count}
use Rattle.timer_base.proofs.PlainSteps.{plain_state-after_tick, kept-after_tick, none_of_them}
use Rattle.timer_base.proofs.plain.PlainWheelWheel.per_tick.Goals as goal

pub invariant_of-self-clause-kept : goal.invariant_of-self-clause-kept
invariant_of-self-clause-kept c =
    let s = c.args.self.now in
    kept-after_tick s.now s.last_serial s.timers.items s.kept (none_of_them s.now s.last_serial s.timers.items c.requires.nothing_due)

pub invariant_of-self-clause-counted : goal.invariant_of-self-clause-counted
invariant_of-self-clause-counted c =
    let s = c.args.self.now in
    c.count_due-self.ensures ∙ ap (due_count (s.now + 1)) c.as_slice.ensures.value

pub returns-clause-ticked : goal.returns-clause-ticked
returns-clause-ticked c =
    let s = c.args.self.now in
    ap (with_room s.room) (plain_state-after_tick s.now s.last_serial s.timers.items s.kept s.rising
    (none_of_them s.now s.last_serial s.timers.items c.requires.nothing_due))
