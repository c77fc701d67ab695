use Rattle.std.proofs.Common.{sym}
use Rattle.timer_base.proofs.PlainHeld.{held_nowhere}
use Rattle.timer_base.proofs.plain.PlainWheelWheel.look.Goals as goal

pub returns-then-handle-ne0-clause-timer : goal.returns-then-handle-ne0-clause-timer
returns-then-handle-ne0-clause-timer c =
    let s = c.args.self.now in
    sym (held_nowhere s.now s.last_serial s.timers.items c.args.handle c.if-handle-ne0.true)
