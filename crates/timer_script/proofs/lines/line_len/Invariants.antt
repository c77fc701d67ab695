use Rattle.std.proofs.Common.{take}
use Rattle.timer_script.specs.Script.{HasNoFeed}
use Rattle.timer_script.proofs.lines.line_len.Given as goal

abbrev pub invariant-loop-i : goal.invariant-loop-i
invariant-loop-i l = HasNoFeed (take l.i l.bytes)
