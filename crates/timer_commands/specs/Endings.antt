-- The exit status of each ending, and how and where each error ends a call.
use Rattle.std.specs.Prelude.{ℕ}
use Rattle.timer_script.specs.declared.fault.RunFault.TheVariants as runs
use Rattle.timer_script.specs.declared.fault.ServeFault.TheVariants as serves
use Rattle.timer_script.specs.declared.fault.CheckFault.TheVariants as checks
use Rattle.timer_commands.specs.declared.ending.Ending.{Ending}
use Rattle.timer_commands.specs.declared.ending.Ending.TheVariants as endings
use Rattle.timer_commands.specs.declared.fault.Fault.{Fault}
use Rattle.timer_commands.specs.declared.fault.Fault.TheVariants as Faults
use Rattle.timer_commands.specs.declared.fault.Spot.{Spot}
use Rattle.timer_commands.specs.declared.fault.Spot.TheVariants as spots

-- how a call ends with an error
abbrev pub ending_of : Fault → Ending
ending_of (Faults.Options fault) = endings.Refused
ending_of (Faults.Run fault) = endings.Failed
ending_of (Faults.Serve fault) = endings.Failed
ending_of (Faults.Check fault) = endings.CheckFailed

-- where in its input an error is
abbrev pub spot_of : Fault → Spot
spot_of (Faults.Run (runs.Bad line)) = spots.Line line
spot_of (Faults.Serve (serves.Bad line)) = spots.Line line
spot_of (Faults.Run runs.Read) = spots.Input
spot_of (Faults.Run runs.TooLong) = spots.Input
spot_of (Faults.Serve serves.Read) = spots.Input
spot_of (Faults.Serve serves.TooLong) = spots.Input
spot_of (Faults.Check checks.Read) = spots.Input
spot_of (Faults.Check checks.TooLong) = spots.Input
spot_of fault = spots.Elsewhere

abbrev pub status_of : Ending → ℕ
-- made by tools/facts: clauses of statuses
status_of endings.Done = 0
status_of endings.Failed = 1
status_of endings.Bad = 1
status_of endings.Skipped = 1
status_of endings.CheckFailed = 2
status_of endings.Refused = 2
