-- What a call returns, and why one is refused: its status is that of the first reason that holds. What an accepted call
-- does to the timers is in Calls.antt.
use Rattle.std.specs.Prelude.{ℕ, ◌≡◌, ◌+◌, ◌<◌, ◌≤◌, ◌⊎◌, [], length, drop, Option, Some, None, true}
use Rattle.timer_base.specs.Counts.{no_counts}
use Rattle.timer_base.specs.declared.limits.TheConstants.{LAST}
use Rattle.timer_base.specs.declared.timer.Timer.{Timer}
use Rattle.timer_base.specs.declared.timer.Handle as base
use Rattle.timer_base.specs.WakeUps.{IsWakeUp}
use Rattle.timer_base.specs.WheelState.{WheelState, empty_wheel, held_at}
use Rattle.timer_wheels.specs.declared.tiers.Tiers.{Tiers}
use Rattle.timer_wheels.specs.Tiers.{tiers_with_number, last_of_tiers, layout_of_tiers, AreTiersFor}
use Rattle.timer_wheels.specs.HeldPlaces.{AreBefore, AreElsewhere, IsAlone}
use Rattle.timer_wheels.specs.TieredWheel.{radices_of, is_smooth}
use Rattle.timer_wheels.specs.WakeUps.{next_visit}
use Rattle.timer_total.specs.Refusals.{interval_until, IsStartable, IsRoomUsed, IsAt}
use Rattle.timer_total.specs.declared.fault.StartFault.{StartFault}
use Rattle.timer_total.specs.declared.fault.StartFault.TheVariants as start
use Rattle.timer_total.specs.declared.fault.RestartFault.{RestartFault}
use Rattle.timer_total.specs.declared.fault.RestartFault.TheVariants as restart
use Rattle.timer_total.specs.TimersState.{TimersState}
use Rattle.timer_c.specs.declared.layout.CHandle.{CHandle}
use Rattle.timer_c.specs.declared.layout.Expired.{Expired}
use Rattle.timer_c.specs.declared.status.TheConstants.{NO_TABLE, NO_MEMORY, DUE, NOT_PENDING, ZERO_INTERVAL, TOO_LATE, SERIALS_SPENT, CLOCK_END, NEVER}

-- an empty hierarchy with the table of this number, at its first tick
pub record IsEmptyWheel (number first_tick : ℕ) (wheel : WheelState) : Type 0 where
  pub tiers : Tiers
  pub are_tiers : AreTiersFor number first_tick tiers
  pub empty : wheel ≡ empty_wheel (layout_of_tiers tiers) (last_of_tiers tiers) first_tick

-- timers over such a wheel, with this last serial, and nothing was counted
abbrev pub IsEmptyAt : ℕ → ℕ → ℕ → TimersState → Type 0
IsEmptyAt table first_tick serial new =
    IsEmptyWheel table first_tick new.wheel × (new.counts ≡ no_counts) × (new.last_serial ≡ serial)

-- there is such a table, and it has the first tick
abbrev pub IsOpenable : ℕ → ℕ → Type 0
IsOpenable number first_tick = (tiers : Tiers) × AreTiersFor number first_tick tiers

-- why no wheel is made
abbrev pub WhyNoWheel : ℕ → ℕ → ℕ → Type 0
WhyNoWheel number first_tick status =
    ((status ≡ NO_TABLE) × (tiers_with_number number ≡ None))
    ⊎ ((status ≡ TOO_LATE) × ((tiers : Tiers) × (tiers_with_number number ≡ Some tiers)
    × (last_of_tiers tiers < first_tick)))
    ⊎ ((status ≡ NO_MEMORY) × IsOpenable number first_tick)

-- why a start is refused
abbrev pub IsStartRefusal : ℕ → TimersState → ℕ → Type 0
IsStartRefusal interval old status =
    ((status ≡ ZERO_INTERVAL) × (interval ≡ 0))
    ⊎ ((status ≡ TOO_LATE) × (0 < interval) × (old.wheel.last_tick < old.wheel.now + interval))
    ⊎ ((status ≡ SERIALS_SPENT) × (0 < interval) × (old.wheel.now + interval ≤ old.wheel.last_tick)
    × (LAST ≤ old.last_serial))
    ⊎ ((status ≡ NO_MEMORY) × IsStartable interval old × IsRoomUsed old)

-- the handle as the wheel's type
abbrev pub base_handle : CHandle → base.Handle
base_handle handle = record { place = handle.place; serial = handle.serial }

-- why one for this tick is: an interval until a tick is never 0
abbrev pub IsStartAtRefusal : ℕ → TimersState → ℕ → Type 0
IsStartAtRefusal deadline old status = IsStartRefusal (interval_until deadline old) old status

-- why a restart is refused
abbrev pub IsRestartRefusal : CHandle → ℕ → TimersState → ℕ → Type 0
IsRestartRefusal handle interval old status =
    ((status ≡ NOT_PENDING) × (held_at (base_handle handle) old.wheel ≡ None))
    ⊎ ((status ≡ ZERO_INTERVAL) × IsAt (base_handle handle) old × (interval ≡ 0))
    ⊎ ((status ≡ TOO_LATE) × IsAt (base_handle handle) old × (0 < interval)
    × (old.wheel.last_tick < old.wheel.now + interval))
    ⊎ ((status ≡ SERIALS_SPENT) × IsAt (base_handle handle) old × (0 < interval)
    × (old.wheel.now + interval ≤ old.wheel.last_tick) × (LAST ≤ old.last_serial))

-- why one for this tick is, as such a start
abbrev pub IsRestartAtRefusal : CHandle → ℕ → TimersState → ℕ → Type 0
IsRestartAtRefusal handle deadline old status =
    IsRestartRefusal handle (interval_until deadline old) old status

-- why a set is refused: only a start may find no memory
abbrev pub IsSetRefusal : CHandle → ℕ → TimersState → ℕ → Type 0
IsSetRefusal handle deadline old status =
    ((status ≡ TOO_LATE) × (old.wheel.last_tick < old.wheel.now + interval_until deadline old))
    ⊎ ((status ≡ SERIALS_SPENT) × (old.wheel.now + interval_until deadline old ≤ old.wheel.last_tick) × (LAST ≤ old.last_serial))
    ⊎ ((status ≡ NO_MEMORY) × (held_at (base_handle handle) old.wheel ≡ None)
    × IsStartable (interval_until deadline old) old × IsRoomUsed old)

-- the status of a start that was refused
abbrev pub start_status : StartFault → ℕ
start_status start.ZeroInterval = ZERO_INTERVAL
start_status start.TooLate = TOO_LATE
start_status start.SerialsSpent = SERIALS_SPENT
start_status start.OutOfMemory = NO_MEMORY

-- the status of a restart that was refused
abbrev pub restart_status : RestartFault → ℕ
restart_status restart.NotPending = NOT_PENDING
restart_status restart.ZeroInterval = ZERO_INTERVAL
restart_status restart.TooLate = TOO_LATE
restart_status restart.SerialsSpent = SERIALS_SPENT

-- why a stop is refused; a look that finds no timer has the same reason
abbrev pub IsStopRefusal : CHandle → TimersState → ℕ → Type 0
IsStopRefusal handle old status =
    (status ≡ NOT_PENDING) × (held_at (base_handle handle) old.wheel ≡ None)

-- why the clock does not advance; at its end nothing is left, neither due nor pending
abbrev pub IsTickRefusal : TimersState → ℕ → Type 0
IsTickRefusal old status =
    ((status ≡ DUE) × (0 < length old.wheel.due))
    ⊎ ((status ≡ CLOCK_END) × (old.wheel.due ≡ []) × (old.wheel.now ≡ old.wheel.last_tick) × (old.wheel.pending ≡ []))

-- why no tick of those that were asked for is passed
abbrev pub IsAdvanceRefusal : ℕ → TimersState → ℕ → Type 0
IsAdvanceRefusal most old status = (0 < most) × IsTickRefusal old status

-- a timer as C's struct
abbrev pub tell : Timer → Expired
tell t = record { deadline = t.deadline; serial = t.serial; action = t.action }

abbrev pub told : Option Timer → Option Expired
told None = None
told (Some t) = Some (tell t)

-- the timer with this handle, pending or expired and not yet taken
abbrev pub IsSeen : CHandle → WheelState → Expired → Type 0
IsSeen handle w out = told (held_at (base_handle handle) w) ≡ Some out

-- this many of the due timers were taken
abbrev pub after_expiries : ℕ → WheelState → WheelState
after_expiries count w = record w { due = drop count w.due }

-- the tick until which the caller may sleep: now if an expired timer waits, else one before which nothing expires. Of a
-- smooth wheel it is the first at which a timer expires, or would move to a lower wheel in Scheme 7.
abbrev pub IsNextCall : ℕ → WheelState → Type 0
IsNextCall tick w =
    ((tick ≡ w.now) × (0 < length w.due))
    ⊎ ((tick ≡ NEVER) × (w.due ≡ []) × (w.pending ≡ []))
    ⊎ ((w.due ≡ []) × IsWakeUp tick w.now w.pending
    × (is_smooth w.layout ≡ true → next_visit (radices_of w.layout) w.now w.pending ≡ Some tick))

-- a visit from a place on came to this timer, which is the first one there, and goes on after it
abbrev pub IsVisited : ℕ → WheelState → ℕ → CHandle → Expired → Type 0
IsVisited from w next handle out =
    (from ≤ handle.place) × (next ≡ handle.place + 1) × IsSeen handle w out
    × AreElsewhere from handle.place w.pending × AreElsewhere from handle.place w.due

-- no other timer is held at the place of the one with this handle
abbrev pub IsAloneAt : CHandle → WheelState → Type 0
IsAloneAt handle w = IsAlone (base_handle handle) w

-- no timer is left for a visit from this place on
abbrev pub IsAllVisited : ℕ → WheelState → Type 0
IsAllVisited from w = AreBefore from w.pending × AreBefore from w.due
