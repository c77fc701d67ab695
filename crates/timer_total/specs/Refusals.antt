-- Why a call is refused, and what an accepted start adds.
use Rattle.std.specs.Prelude.{ℕ, ◌≡◌, ◌+◌, ◌-◌, ◌<◌, ◌≤◌, ◌⊎◌, [], length, max, None, IsSome}
use Rattle.timer_base.specs.declared.limits.TheConstants.{LAST}
use Rattle.timer_base.specs.declared.timer.Handle.{Handle}
use Rattle.timer_base.specs.declared.timer.Timer.{Timer}
use Rattle.timer_base.specs.WheelState.{WheelState, held_count, held_at, after_held_start}
use Rattle.timer_total.specs.TimersState.{TimersState}
use Rattle.timer_total.specs.declared.fault.StartFault.{StartFault}
use Rattle.timer_total.specs.declared.fault.StartFault.TheVariants as start
use Rattle.timer_total.specs.declared.fault.RestartFault.{RestartFault}
use Rattle.timer_total.specs.declared.fault.RestartFault.TheVariants as restart
use Rattle.timer_total.specs.declared.fault.AdvanceFault.{AdvanceFault}
use Rattle.timer_total.specs.declared.fault.AdvanceFault.TheVariants as tick

-- the timer that a start for this tick adds: the next serial, and the action under the client 0 and the number 0
abbrev pub timer_due : ℕ → ℕ → TimersState → Timer
timer_due deadline action s = record {
  serial = s.last_serial + 1;
  client = 0;
  number = 0;
  deadline = deadline;
  action = action;
}

-- the timer that a start with this interval adds
abbrev pub next_timer : ℕ → ℕ → TimersState → Timer
next_timer interval action s = timer_due (s.wheel.now + interval) action s

-- how many ticks are left until this one, 0 if it is not after now
abbrev pub left_until : ℕ → TimersState → ℕ
left_until deadline s = deadline - s.wheel.now

-- how many ticks are left until this one, and 1 if it is not after now: a passed deadline is accepted exactly
-- if the next tick is
abbrev pub interval_until : ℕ → TimersState → ℕ
interval_until deadline s = max 1 (deadline - s.wheel.now)

-- the next timer is started in a wheel for this tick, or for now if that is later: it is pending until then, or it is
-- the last of what is due
abbrev pub after_start_at : ℕ → ℕ → ℕ → WheelState → TimersState → WheelState
after_start_at place deadline action wheel s =
    after_held_start place (timer_due (max s.wheel.now deadline) action s) wheel

-- a timer with this interval may be started if memory is available
abbrev pub IsStartable : ℕ → TimersState → Type 0
IsStartable interval s = (0 < interval) × (s.wheel.now + interval ≤ s.wheel.last_tick) × (s.last_serial < LAST)

-- as many timers are held as room was made for, or more: only then a start may find no memory
abbrev pub IsRoomUsed : TimersState → Type 0
IsRoomUsed s = s.wheel.room ≤ held_count s.wheel

-- why a start is refused before anything is allocated: the first test that holds
abbrev pub WhyNotStarted : ℕ → TimersState → StartFault → Type 0
WhyNotStarted interval s fault =
    ((fault ≡ start.ZeroInterval) × (interval ≡ 0))
    ⊎ ((fault ≡ start.TooLate) × (0 < interval) × (s.wheel.last_tick < s.wheel.now + interval))
    ⊎ ((fault ≡ start.SerialsSpent) × (0 < interval) × (s.wheel.now + interval ≤ s.wheel.last_tick)
    × (LAST ≤ s.last_serial))

-- a timer waits under this handle
abbrev pub IsAt : Handle → TimersState → Type 0
IsAt handle s = IsSome (held_at handle s.wheel)

-- why a restart is refused: the first test that holds, the handle before the interval
abbrev pub WhyNotRestarted : Handle → ℕ → TimersState → RestartFault → Type 0
WhyNotRestarted handle interval s fault =
    ((fault ≡ restart.NotPending) × (held_at handle s.wheel ≡ None))
    ⊎ ((fault ≡ restart.ZeroInterval) × IsAt handle s × (interval ≡ 0))
    ⊎ ((fault ≡ restart.TooLate) × IsAt handle s × (0 < interval) × (s.wheel.last_tick < s.wheel.now + interval))
    ⊎ ((fault ≡ restart.SerialsSpent) × IsAt handle s × (0 < interval) × (s.wheel.now + interval ≤ s.wheel.last_tick)
    × (LAST ≤ s.last_serial))

-- why the clock does not advance; at its end nothing is left, neither due nor pending
abbrev pub WhyNotTicked : TimersState → AdvanceFault → Type 0
WhyNotTicked s fault =
    ((fault ≡ tick.Due) × (0 < length s.wheel.due))
    ⊎ ((fault ≡ tick.ClockEnd) × (s.wheel.due ≡ []) × (s.wheel.now ≡ s.wheel.last_tick) × (s.wheel.pending ≡ []))

-- why no tick of those that were asked for is passed: for no tick there is no reason
abbrev pub WhyNotAdvanced : ℕ → TimersState → AdvanceFault → Type 0
WhyNotAdvanced most s fault = (0 < most) × WhyNotTicked s fault
