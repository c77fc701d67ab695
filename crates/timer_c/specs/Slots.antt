-- The row of the timers on the heap: `Cells` says what a slot owns of them.
use Rattle.std.specs.Prelude.{◌≡◌, ⊤}
use denote.RattleType.{RattleType}
use Rattle.std.specs.declared.clone.Clone as clone
use Rattle.timer_base.specs.declared.wheel.Wheel.{Ghosts}
use Rattle.timer_links.specs.declared.kept.Unowned.{Unowned}
use Rattle.timer_links.specs.contracts.kept.Unowned as unowned
use Rattle.timer_links.specs.contracts.kept.UnownedKept.TheImpl as kept
use Rattle.timer_total.specs.contracts.timers.Timers as timers
use Rattle.timer_wheels.specs.contracts.tiered.TieredWheel as tiered
use Rattle.timer_wheels.specs.declared.tiered.TieredWheel.{TieredWheel}
use Rattle.timer_wheels.specs.contracts.tiered.TieredWheelWheel.TheImpl as wheel

-- a copy of what is kept of a timer is the same
abbrev pub unowned_clone : clone.Ghosts Unowned
unowned_clone = record { is_clone = λ kept copy. copy ≡ kept; is_infallible = λ kept. ⊤ }

-- C's wheel
abbrev pub tiered_row : RattleType
tiered_row = tiered.the_row unowned.the_row kept.ghosts

-- what the wheel's impl of `Wheel` says of it
abbrev pub wheel_ghosts : Ghosts (TieredWheel Unowned kept.ghosts)
wheel_ghosts = wheel.ghosts unowned.the_row kept.ghosts kept.dict unowned_clone kept.dict

abbrev pub the_timers : RattleType
the_timers = timers.the_row tiered_row wheel_ghosts
