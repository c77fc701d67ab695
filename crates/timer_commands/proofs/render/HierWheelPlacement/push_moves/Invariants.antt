use Rattle.timer_commands.specs.Indented.{HasGrownByIndented}
use Rattle.timer_commands.proofs.render.HierWheelPlacement.push_moves.Given as goal

abbrev pub invariant-loop-to : goal.invariant-loop-to
invariant-loop-to l = HasGrownByIndented l.fn.text.items l.text.items
