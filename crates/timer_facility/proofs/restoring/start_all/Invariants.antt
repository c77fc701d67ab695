use Rattle.std.proofs.Common.{take}
use Rattle.timer_facility.specs.Restored.{AreStarted}
use Rattle.timer_facility.proofs.restoring.start_all.Given as goal

-- the timers so far are started
abbrev pub invariant-loop-timer : goal.invariant-loop-timer
invariant-loop-timer g l =
    AreStarted (g.W.Wheel.state l.fn.wheel) (take l.timer-index l.fn.saved.saved.timers) l.handles.items (g.W.Wheel.state l.wheel)
