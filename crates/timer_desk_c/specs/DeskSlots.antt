-- The state of a desk, and the row of a desk on the heap: `Cells` says what a slot owns of it.
use Rattle.std.specs.Prelude.{◌≡◌, ⊤}
use denote.RattleType.{RattleType}
use Rattle.std.specs.declared.clone.Clone as clone
use Rattle.timer_base.specs.declared.timer.Timer.{Timer}
use Rattle.timer_base.specs.declared.wheel.Wheel.{Ghosts}
use Rattle.timer_base.specs.contracts.timer.Timer as timer
use Rattle.timer_links.specs.contracts.kept.TimerKept.TheImpl as kept
use Rattle.timer_wheels.specs.declared.tiered.TieredWheel.{TieredWheel}
use Rattle.timer_wheels.specs.contracts.tiered.TieredWheel as tiered
use Rattle.timer_wheels.specs.contracts.tiered.TieredWheelWheel.TheImpl as wheel
use Rattle.timer_desk.specs.declared.ring_ends.RingInlet.{RingInlet}
use Rattle.timer_desk.specs.contracts.ring_ends.RingInlet as ring
use Rattle.timer_desk.specs.contracts.ring_ends.RingInletInlet.TheImpl as inlet
use Rattle.timer_desk.specs.contracts.desk.Desk as desk
use Rattle.timer_desk.specs.Desk.{DeskState}

abbrev pub RingDesk : Type 0
RingDesk = DeskState RingInlet

-- a copy of what is kept of a timer is the same
abbrev pub timer_clone : clone.Ghosts Timer
timer_clone = record { is_clone = λ kept copy. copy ≡ kept; is_infallible = λ kept. ⊤ }

-- the desk's wheel
abbrev pub desk_wheel_row : RattleType
desk_wheel_row = tiered.the_row timer.the_row kept.ghosts

-- what the wheel's impl of `Wheel` says of it
abbrev pub desk_wheel_ghosts : Ghosts (TieredWheel Timer kept.ghosts)
desk_wheel_ghosts = wheel.ghosts timer.the_row kept.ghosts kept.dict timer_clone kept.dict

abbrev pub the_desk : RattleType
the_desk = desk.the_row desk_wheel_row ring.the_row desk_wheel_ghosts inlet.ghosts
