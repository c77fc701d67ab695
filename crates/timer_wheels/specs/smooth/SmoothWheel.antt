-- The names in the public clauses of `SmoothWheel`.
use Rattle.std.specs.Prelude.{◌≡◌, ◌<◌, ◌-◌, ℕ, []}
use Rattle.timer_base.specs.WellFormed.{with_layout-well_formed}
use Rattle.timer_base.specs.WheelState.{IsWellFormed, with_layout, after_ticks}
use Rattle.timer_links.specs.Lists.{list_at}
use Rattle.timer_wheels.specs.Types.{Timer, WheelState, Ghosts, KeyedLists, Table}
use Rattle.timer_wheels.specs.smooth.Wheels.{movable, potential_of, wheel_of}
use Rattle.timer_wheels.specs.Buckets.{state_of, state_of-well_formed}
use Rattle.timer_wheels.specs.smooth.Paces.{pace_sum, FitPaces}
use Rattle.timer_wheels.specs.hier.Placement.{no_rounds}
use Rattle.timer_wheels.specs.Shown.{ShowsBuckets}
use Rattle.timer_wheels.specs.smooth.Smooth.{smooth_slots, smooth_bucket, mark}
use Rattle.timer_wheels.specs.Tables.{radices, smooth_layout}
use Rattle.timer_wheels.specs.declared.smooth.SmoothWheel.{SmoothWheel}
use Rattle.timer_wheels.specs.declared.table.Table.TheVariants.{Wide}

-- the state of the wheel
abbrev pub smooth_state : {N : Type 0} {kept : Ghosts N} → SmoothWheel N kept → WheelState
smooth_state wheel = with_layout (smooth_layout Wide) (state_of wheel.wheels.buckets)

pub smooth-well_formed : {N : Type 0} {kept : Ghosts N} (wheel : SmoothWheel N kept) → IsWellFormed (smooth_state wheel)
smooth-well_formed wheel = with_layout-well_formed (smooth_layout Wide) (state_of wheel.wheels.buckets) (state_of-well_formed wheel.wheels.buckets)

-- how many timers were started or restarted, and how many times one moved to a lower wheel
abbrev pub starts_of : {N : Type 0} {kept : Ghosts N} → SmoothWheel N kept → ℕ
starts_of wheel = wheel.starts

abbrev pub moves_of : {N : Type 0} {kept : Ghosts N} → SmoothWheel N kept → ℕ
moves_of wheel = wheel.moves

-- the most moves of the next tick: the sum of the paces
abbrev pub next_moves : {N : Type 0} {kept : Ghosts N} → SmoothWheel N kept → ℕ
next_moves wheel = pace_sum wheel.paces

-- its lists, each with the timers that stand in it: the last with those that are due
abbrev pub lists_in : {N : Type 0} {kept : Ghosts N} → SmoothWheel N kept → KeyedLists
lists_in wheel = wheel.wheels.buckets.links.lists

-- each pending timer stands where it stood
abbrev pub AreWhereTheyWere : {N : Type 0} {kept : Ghosts N} → SmoothWheel N kept → SmoothWheel N kept → Type 0
AreWhereTheyWere old new = (s : ℕ) → s < old.wheels.buckets.slots → list_at s (lists_in new) ≡ list_at s (lists_in old)

-- how many timers stand in next buckets: the most that a tick could move
abbrev pub moves_ahead : {N : Type 0} {kept : Ghosts N} → SmoothWheel N kept → ℕ
moves_ahead wheel = movable Wide wheel.wheels.buckets

-- the wheels in which its pending timers stand, added up: how many moves are left, if none is stopped and each goes one
-- wheel down at a time
abbrev pub wheels_left : {N : Type 0} {kept : Ghosts N} → SmoothWheel N kept → ℕ
wheels_left wheel = potential_of Wide wheel.wheels.buckets

-- the wheel in which a timer stands or, if it is started now, comes to; 0 for one that is due
abbrev pub wheel_in : {N : Type 0} {kept : Ghosts N} → SmoothWheel N kept → Timer → ℕ
wheel_in wheel timer = wheel_of Wide wheel.wheels.buckets timer

-- each pace was fixed when at most n timers were held
abbrev pub IsPacedFor : {N : Type 0} {kept : Ghosts N} → ℕ → SmoothWheel N kept → Type 0
IsPacedFor n wheel = FitPaces (radices Wide) n wheel.paces

-- each list has the pending timers that stand there by the placement law, with the marks of the lists themselves, by
-- serial, and the list after them has what is due
abbrev pub ShowsSmooth : Table → WheelState → KeyedLists → Type 0
ShowsSmooth table w lists = ShowsBuckets (smooth_slots (radices table))
    (smooth_bucket (radices table) w.now (mark (radices table) w.now lists)) no_rounds w lists

-- some ticks were passed, and nothing was due before the last of them
pub record PassesSomeTicks (old new : WheelState) : Type 0 where
  pub later : old.now < new.now
  pub ticked : new ≡ after_ticks (new.now - old.now) old
  pub quiet : (n : ℕ) → n < new.now - old.now → (after_ticks n old).due ≡ []
