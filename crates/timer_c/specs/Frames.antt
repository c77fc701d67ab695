-- What C holds, before and after a call.
use Rattle.std.specs.Prelude.{◌≡◌, ◌⊎◌, ℕ, true, false}
use Rattle.timer_total.specs.TimersState.{TimersState}
use Rattle.timer_c.specs.declared.c_timers.CTimers.{CTimers}
use Rattle.timer_c.specs.declared.status.TheConstants.{NOT_OPEN}
use Rattle.timer_ffi_base.specs.Cells.{is_open}

-- it holds timers
abbrev pub IsOpen : CTimers → Type 0
IsOpen t = is_open t.slot.mark ≡ true

-- it holds none
abbrev pub IsShut : CTimers → Type 0
IsShut t = is_open t.slot.mark ≡ false

-- a call returned this status: it holds no timers, or this is why
abbrev pub IsRefused : CTimers → ℕ → Type 0 → Type 0
IsRefused t status reason = ((status ≡ NOT_OPEN) × IsShut t) ⊎ (IsOpen t × reason)

-- the same, with timers of this state
abbrev pub with_timers : CTimers → TimersState → CTimers
with_timers t state = record t { slot = record t.slot { state = state } }
