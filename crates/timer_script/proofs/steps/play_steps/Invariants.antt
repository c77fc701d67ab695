use Rattle.timer_script.proofs.StepLemmas.{HasPlayedSteps}
use Rattle.timer_script.proofs.steps.play_steps.Given as goal

-- the ticks that are no longer left were played
abbrev pub invariant-loop-left : goal.invariant-loop-left
invariant-loop-left g l =
    HasPlayedSteps (g.D.Decorator.adds l.decorator) l.fn.session.player l.fn.count l.left l.session.player l.fn.text.items l.text.items

abbrev pub decreases-loop-left : goal.decreases-loop-left
decreases-loop-left g l = l.left
