-- The names in the public clauses of `TieredWheel`.
use Rattle.std.specs.Prelude.{◌==◌, ℕ, if◌then◌else◌, ⊤, length, Option, Some, None}
use Rattle.timer_base.specs.Counts.{WheelCounts}
use Rattle.timer_base.specs.Layout.{Layout}
use Rattle.timer_base.specs.WellFormed.{with_layout-well_formed}
use Rattle.timer_base.specs.WheelState.{WheelState, IsWellFormed, with_layout}
use Rattle.timer_links.specs.declared.kept.Kept.{Ghosts}
use Rattle.timer_wheels.specs.Buckets.{state_of, state_of-well_formed}
use Rattle.timer_wheels.specs.declared.buckets.Buckets.{Buckets}
use Rattle.timer_wheels.specs.lazy.LazyWheel.{lazy_counts}
use Rattle.timer_wheels.specs.hier.Placement.{most_moves}
use Rattle.timer_wheels.specs.smooth.SmoothWheel.{starts_of, moves_of, IsPacedFor}
use Rattle.timer_wheels.specs.Tables.{layout_of_table, smooth_layout}
pub use Rattle.timer_wheels.specs.Tables.{radices_of, is_smooth}
use Rattle.timer_wheels.specs.declared.smooth.SmoothWheel.{SmoothWheel}
use Rattle.timer_wheels.specs.declared.table.Table.TheVariants.{Wide}
use Rattle.timer_wheels.specs.declared.tiered.TheConstants.{NEVER}
use Rattle.timer_wheels.specs.declared.tiered.TieredWheel.{TieredWheel}
use Rattle.timer_wheels.specs.declared.tiered.TieredWheel.TheVariants.{Lazy, Smooth}

-- the buckets of either wheel
abbrev pub buckets_in : {N : Type 0} {kept : Ghosts N} → TieredWheel N kept → Buckets N kept
buckets_in (Lazy wheel) = wheel.files.buckets
buckets_in (Smooth wheel) = wheel.wheels.buckets

-- how their slots are laid out
abbrev pub layout_in : {N : Type 0} {kept : Ghosts N} → TieredWheel N kept → Layout
layout_in (Lazy wheel) = layout_of_table wheel.files.table
layout_in (Smooth wheel) = smooth_layout Wide

-- the state of the wheel
abbrev pub tiered_state : {N : Type 0} {kept : Ghosts N} → TieredWheel N kept → WheelState
tiered_state wheel = with_layout (layout_in wheel) (state_of (buckets_in wheel))

-- how many times a timer went to a lower wheel, or of a lazy wheel was filed anew
abbrev pub moves_in : {N : Type 0} {kept : Ghosts N} → TieredWheel N kept → ℕ
moves_in (Lazy wheel) = (lazy_counts wheel).filings
moves_in (Smooth wheel) = moves_of wheel

-- the most moves that a start or a restart leads to: a lazy wheel may file a timer anew once in each wheel
abbrev pub moves_of_start : Layout → ℕ
moves_of_start layout = if is_smooth layout then most_moves (radices_of layout) else length (radices_of layout)

-- What follows from the calls and the states alone: the starts. How many timers move depends on where they stand, and no
-- visit is counted.
abbrev pub counts_in : {N : Type 0} {kept : Ghosts N} → TieredWheel N kept → WheelCounts
counts_in (Lazy wheel) = record { starts = (lazy_counts wheel).starts; moves = 0; visits = 0 }
counts_in (Smooth wheel) = record { starts = starts_of wheel; moves = 0; visits = 0 }

-- What a smooth wheel's call does, if the wheel is smooth before the call and after it, and nothing if it is lazy. No call
-- makes one of the other.
abbrev pub IfSmooth : {N : Type 0} {kept : Ghosts N} → (SmoothWheel N kept → SmoothWheel N kept → Type 0)
    → TieredWheel N kept → TieredWheel N kept → Type 0
IfSmooth does (Lazy old) (Lazy new) = ⊤
IfSmooth does (Smooth old) (Smooth new) = does old new
IfSmooth does (Lazy old) (Smooth new) = ⊥
IfSmooth does (Smooth old) (Lazy new) = ⊥

-- each number of timers for which the paces were fixed stays one
abbrev pub KeepsPace : {N : Type 0} {kept : Ghosts N} → SmoothWheel N kept → SmoothWheel N kept → Type 0
KeepsPace old new = (n : ℕ) → IsPacedFor n old → IsPacedFor n new

-- the paces were fixed when at most n timers were held, if it is a smooth wheel
abbrev pub IsPacedIn : {N : Type 0} {kept : Ghosts N} → ℕ → TieredWheel N kept → Type 0
IsPacedIn n (Lazy wheel) = ⊤
IsPacedIn n (Smooth wheel) = IsPacedFor n wheel

pub tiered-well_formed : {N : Type 0} {kept : Ghosts N} (wheel : TieredWheel N kept) → IsWellFormed (tiered_state wheel)
tiered-well_formed wheel = with_layout-well_formed (layout_in wheel) (state_of (buckets_in wheel)) (state_of-well_formed (buckets_in wheel))

-- the tick, unless it is NEVER
abbrev pub option_of : ℕ → Option ℕ
option_of tick = if tick == NEVER then None else Some tick
