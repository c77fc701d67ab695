use Rattle.std.proofs.Common.{◌+◌, length, sym, ◌∙◌, ap}
use Rattle.timer_base.proofs.PlainJumps.{kept-skipped, none_due_after}
use Rattle.timer_base.proofs.PlainSteps.{none_of_them}
use Rattle.timer_base.proofs.plain.PlainWheel.skip.Goals as goal

pub invariant_of-self-clause-kept : goal.invariant_of-self-clause-kept
invariant_of-self-clause-kept c =
    let s = c.args.self.now in
    kept-skipped s.now s.last_serial c.args.ticks s.timers.items c.requires.quiet s.kept

pub invariant_of-self-clause-counted : goal.invariant_of-self-clause-counted
invariant_of-self-clause-counted c =
    let s = c.args.self.now in
    s.counted
    ∙ (ap length (none_of_them s.now s.last_serial s.timers.items c.requires.nothing_due)
    ∙ sym (ap length (none_due_after (s.now + c.args.ticks) s.timers.items c.requires.quiet)))
