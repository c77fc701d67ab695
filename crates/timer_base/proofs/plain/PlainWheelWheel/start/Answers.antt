use Rattle.std.proofs.Common.{◌≡◌, ◌≢◌, ◌+◌, arith, ap, ◌∙◌}
use Rattle.std.proofs.lemmas.Bool.{eq-eqb, ne_eqb}
use Rattle.timer_base.proofs.HeldLaws.{with_room-held_start}
use Rattle.timer_base.specs.PlainState.{due_count, plain_state}
use Rattle.timer_base.specs.WheelState.{with_room}
use Rattle.timer_base.proofs.PlainSteps.{held_count-all, plain_state-after_held_start, kept-after_start, rising-after_start, due_count-after_start, due_count_le}
use Rattle.timer_base.proofs.plain.PlainWheelWheel.start.Goals as goal

counts : (c : goal.After-from) → c.args.self.now.due + c.from.result ≡ due_count c.args.self.now.now c.push.new.self.items
counts c =
    let s = c.args.self.now in
    let t = c.args.timer in
    rw c.in-Ok.ensures.items (due_count-after_start s.now s.due c.from.result s.timers.items t s.counted
    (λ (e : t.deadline ≡ s.now). rw (eq-eqb t.deadline s.now e) at c.from.ensures)
    (λ (n : t.deadline ≢ s.now). rw (ne_eqb t.deadline s.now n) at c.from.ensures))

pub overflow_add-self : goal.overflow_add-self
overflow_add-self c =
    let s = c.args.self.now in
    let kept = kept-after_start s.now s.last_serial s.timers.items c.args.timer s.kept c.requires.fresh c.requires.not_past
    c.requires.deadline in
    let due = due_count_le s.now c.args.timer.serial c.push.new.self.items (rw c.in-Ok.ensures.items kept) in
    let v = c.push.new.self in
    omega (arith, counts c, due, v.ok.0, v.ok.1, v.small)

pub invariant_of-self-2-clause-rising : goal.invariant_of-self-2-clause-rising
invariant_of-self-2-clause-rising c =
    let s = c.args.self.now in
    rw c.in-Ok.ensures.items (rising-after_start s.now s.last_serial s.timers.items c.args.timer s.kept s.rising c.requires.fresh)

pub invariant_of-self-2-clause-kept : goal.invariant_of-self-2-clause-kept
invariant_of-self-2-clause-kept c =
    let s = c.args.self.now in
    rw c.in-Ok.ensures.items (kept-after_start s.now s.last_serial s.timers.items c.args.timer s.kept c.requires.fresh
    c.requires.not_past c.requires.deadline)

pub invariant_of-self-2-clause-counted : goal.invariant_of-self-2-clause-counted
invariant_of-self-2-clause-counted c = counts c

pub returns-clause-started : goal.returns-clause-started
returns-clause-started c =
    let s = c.args.self.now in
    rw c.in-Ok.ensures.items (ap (with_room s.room) (plain_state-after_held_start s.now s.last_serial s.timers.items c.args.timer
    s.kept c.requires.fresh c.requires.not_past)
    ∙ with_room-held_start s.room 0 c.args.timer (plain_state s.now s.last_serial s.timers.items))

pub returns-in_default-clause-full : goal.returns-in_default-clause-full
returns-in_default-clause-full c =
    let s = c.args.self.now in
    let all = held_count-all s.now s.last_serial s.room s.timers.items s.kept in
    omega (arith, all, s.has_room, c.in_default.ensures.full, s.timers.ok.0)
