use Rattle.std.proofs.Common.{◌≡◌, ◌++◌, drop}
use Rattle.std.specs.Prelude.{filter, vec_capacity}
use Rattle.timer_base.specs.PlainState.{is_after}
use Rattle.timer_base.proofs.plain.copy_pending.Given as goal

-- what was copied, and what is still to be copied, in the same room
abbrev pub invariant-loop-timer : goal.invariant-loop-timer
invariant-loop-timer l =
    (l.pending.items ++ filter (is_after l.tick) (drop l.timer-index l.timers)
    ≡ l.initial.pending.items ++ filter (is_after l.tick) l.timers)
    × (vec_capacity l.pending ≡ vec_capacity l.initial.pending)
