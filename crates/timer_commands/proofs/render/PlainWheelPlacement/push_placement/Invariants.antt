use Rattle.timer_commands.proofs.IndentedLemmas.{HasGrownByFront}
use Rattle.timer_commands.proofs.render.PlainWheelPlacement.push_placement.Given as goal

-- the line has begun
abbrev pub invariant-loop-timer : goal.invariant-loop-timer
invariant-loop-timer l = HasGrownByFront l.fn.text.items l.text.items
