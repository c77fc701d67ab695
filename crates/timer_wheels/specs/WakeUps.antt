-- Exactly when the owner of a wheel wakes up: at the next tick that visits or sweeps a slot with a pending timer.
use Rattle.std.specs.Prelude.{ℕ, ◌+◌, ◌-◌, ◌%◌, List, [], ◌∷◌, Option, Some, None}
use Rattle.timer_base.specs.Pending.{Entry}
use Rattle.timer_base.specs.PlainState.{earliest}
use Rattle.timer_wheels.specs.hier.Leap.{timer_visit}

-- the next tick at which a hierarchy visits a bucket with a pending timer: that of the first timer's bucket, since
-- no later deadline has an earlier visit
abbrev pub next_visit : List ℕ → ℕ → List Entry → Option ℕ
next_visit table now [] = None
next_visit table now (entry ∷ entries) = Some (timer_visit table now entry.timer.deadline)

-- the next tick that sweeps the slot of this deadline, one of n slots: at most n ticks ahead
abbrev pub sweep_of : ℕ → ℕ → ℕ → ℕ
sweep_of n now deadline = now + 1 + (deadline - now - 1) % n

-- the earliest of the next sweeps of these timers' slots
abbrev pub earliest_sweep : ℕ → ℕ → List Entry → Option ℕ
earliest_sweep n now [] = None
earliest_sweep n now (entry ∷ entries) = earliest (Some (sweep_of n now entry.timer.deadline))
    (earliest_sweep n now entries)
