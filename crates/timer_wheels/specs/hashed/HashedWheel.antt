-- The names in the public clauses of `HashedWheel`.
use Rattle.std.specs.Prelude.{◌≡◌, ◌⊎◌, ℕ, ◌||◌, ◌==◌, nat_lt, if◌then◌else◌, Option, Some, None}
use Rattle.timer_base.specs.declared.fault.MakeFault.{MakeFault}
use Rattle.timer_base.specs.declared.fault.MakeFault.TheVariants.{Slots, FirstTick, OutOfMemory}
use Rattle.timer_wheels.specs.Types.{LAST, WheelState}
use Rattle.timer_wheels.specs.Buckets.{state_of}
use Rattle.timer_wheels.specs.declared.hashed.HashedWheel.{HashedWheel}

-- the state of the wheel
abbrev pub hashed_state : HashedWheel → WheelState
hashed_state wheel = state_of wheel.buckets

-- how many slots the wheel has
abbrev pub slots_of : HashedWheel → ℕ
slots_of wheel = wheel.buckets.slots

-- why a hashed wheel can't be made, other than out of memory: the number of slots is tested before the first
-- tick
abbrev pub argument_fault : ℕ → ℕ → Option MakeFault
argument_fault slots first_tick =
    if slots == 0 || nat_lt 65536 slots then Some Slots
    else (if nat_lt LAST first_tick then Some FirstTick else None)

-- the error of `new`: that of its arguments if there is one, else out of memory
abbrev pub IsHashedFault : ℕ → ℕ → MakeFault → Type 0
IsHashedFault slots first_tick fault =
    (argument_fault slots first_tick ≡ Some fault)
    ⊎ ((argument_fault slots first_tick ≡ None) × (fault ≡ OutOfMemory))
