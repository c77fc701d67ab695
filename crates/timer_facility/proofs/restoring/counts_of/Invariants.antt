use Rattle.std.proofs.Common.{take}
use Rattle.timer_facility.specs.Facility.{AreCounted}
use Rattle.timer_facility.proofs.restoring.counts_of.Given as goal

-- the timers so far are counted
abbrev pub invariant-loop-timer : goal.invariant-loop-timer
invariant-loop-timer l = AreCounted 64 l.counts (take l.timer-index l.fn.saved.saved.timers)
