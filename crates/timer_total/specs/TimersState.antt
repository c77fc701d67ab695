-- What a caller sees of `Timers`, and the state after a start, after ticks and after timers are dropped.
use Rattle.std.specs.Prelude.{◌≡◌, ◌≤◌, ℕ, ◌+◌, ◌==◌, if◌then◌else◌, []}
use Rattle.timer_base.specs.Counts.{WheelCounts}
use Rattle.timer_base.specs.declared.timer.Timer.{Timer}
use Rattle.timer_base.specs.WheelState.{WheelState}

pub record TimersState : Type 0 where
  -- the wheel's state; its last serial may be lower than that of the timers
  pub wheel : WheelState
  -- what the wheel counted
  pub counts : WheelCounts
  -- the serial of the last start or restart, also of one over an earlier wheel
  pub last_serial : ℕ

-- of a wheel that keeps such timers: it keeps each timer without an owner, that is of client 0 and number 0
abbrev pub KeepsUnowned : (Timer → Type 0) → Type 0
KeepsUnowned keeps = (timer : Timer) → timer.client ≡ 0 → timer.number ≡ 0 → keeps timer

-- the invariant over a wheel in this state that keeps such timers
pub record IsTimersOver (keeps : Timer → Type 0) (wheel : WheelState) (last_serial : ℕ) : Type 0 where
  pub serials : wheel.last_serial ≤ last_serial
  pub keeps_unowned : KeepsUnowned keeps

-- the wheel is in this state, and nothing was counted
abbrev pub with_wheel : WheelState → TimersState → TimersState
with_wheel wheel s = record s { wheel = wheel }

-- a timer was started or restarted, and the wheel is in this state
abbrev pub with_start : (WheelCounts → WheelCounts) → WheelState → TimersState → TimersState
with_start count_start wheel s = record {
  wheel = wheel;
  counts = count_start s.counts;
  last_serial = s.last_serial + 1;
}

-- how a wheel counts an advance from one state to another
abbrev pub Counting : Type 0
Counting = WheelState → WheelState → WheelCounts → WheelCounts

-- the counts after an advance by this many ticks: one by none is no call of the wheel
abbrev pub counts_of_ticks : Counting → ℕ → Counting
counts_of_ticks count passed old new counts = if passed == 0 then counts else count old new counts

-- nothing is due
abbrev pub without_due : WheelState → WheelState
without_due w = record w { due = [] }

-- no timer is left; the clock and the last serial stay
abbrev pub after_drop : WheelState → WheelState
after_drop w = record w {
  pending = [];
  due = [];
}
