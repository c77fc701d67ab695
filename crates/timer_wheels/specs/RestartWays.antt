-- What becomes of a timer of a lazy wheel that is restarted for a deadline.
use Rattle.std.specs.Prelude.{ℕ, ◌≡◌, ◌<◌, ◌≤◌, Some, IsSome}
use Rattle.timer_base.specs.declared.timer.Handle.{Handle}
use Rattle.timer_base.specs.declared.timer.Timer.{Timer}
use Rattle.timer_base.specs.WheelState.{WheelState, held_at}

-- it is pending, and the deadline is not before its own
abbrev pub IsStay : Handle → ℕ → WheelState → Type 0
IsStay handle deadline state = (t : Timer) × (held_at handle state ≡ Some t) × (state.now < t.deadline) × (t.deadline ≤ deadline)

-- it is there, and the deadline is after now
abbrev pub IsLater : Handle → ℕ → WheelState → Type 0
IsLater handle deadline state = IsSome (held_at handle state) × (state.now < deadline)
