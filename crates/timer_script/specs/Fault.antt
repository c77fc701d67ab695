-- The errors of one step as those of the whole.
use Rattle.timer_script.specs.Types.{ScriptFault, ReadFault, RunFault, CheckFault, TurnFault, ServeFault}
use Rattle.timer_script.specs.declared.fault.ScriptFault.TheVariants as scripts
use Rattle.timer_script.specs.declared.fault.ReadFault.TheVariants as reads
use Rattle.timer_script.specs.declared.fault.RunFault.TheVariants as runs
use Rattle.timer_script.specs.declared.fault.CheckFault.TheVariants as checks
use Rattle.timer_script.specs.declared.fault.TurnFault.TheVariants as turns
use Rattle.timer_script.specs.declared.fault.ServeFault.TheVariants as serves

abbrev pub run_read_fault : ReadFault → RunFault
run_read_fault reads.Read = runs.Read
run_read_fault reads.TooLong = runs.TooLong
run_read_fault reads.OutOfMemory = runs.OutOfMemory

abbrev pub run_script_fault : ScriptFault → RunFault
run_script_fault (scripts.Bad line) = runs.Bad line
run_script_fault scripts.OutOfMemory = runs.OutOfMemory

abbrev pub check_read_fault : ReadFault → CheckFault
check_read_fault reads.Read = checks.Read
check_read_fault reads.TooLong = checks.TooLong
check_read_fault reads.OutOfMemory = checks.OutOfMemory

abbrev pub serve_fault : TurnFault → ServeFault
serve_fault turns.OutOfMemory = serves.OutOfMemory
serve_fault turns.Write = serves.Write
