use Rattle.std.proofs.Common.{length}
use Rattle.timer_script.proofs.ScriptRunLemmas.{HasPlayedTo}
use Rattle.timer_script.proofs.script_run.play_lines.Given as goal

abbrev pub invariant-loop-rest : goal.invariant-loop-rest
invariant-loop-rest g l = HasPlayedTo l.fn.player l.script l.rest l.lines l.fn.text.items l.text.items l.player

abbrev pub decreases-loop-rest : goal.decreases-loop-rest
decreases-loop-rest g l = length l.rest
