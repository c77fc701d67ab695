use Rattle.std.proofs.Common.{refl, codes, subst, rules}
use Rattle.timer_script.proofs.StepLemmas.{grown_join as joined}
use Rattle.timer_commands.specs.Indented.{HasGrownByIndented}
use Rattle.timer_commands.proofs.IndentedLemmas.{begun, grown_join, grown_more, line_joined}
use Rattle.timer_commands.proofs.render.HierWheelPlacement.push_moves.Goals as goal
use Rattle.timer_commands.proofs.render.HierWheelPlacement.push_moves.Goals.{then-has_kept+in_ok-push_number+in_ok-push_move, else-has_kept}

pub returns-in_err-push_number-clause-kept : goal.returns-in_err-push_number-clause-kept
returns-in_err-push_number-clause-kept c = grown_more _ _ _ c.loop-to.invariant c.in_err-push_number.ensures.kept

pub returns-in_err-push_move-clause-kept : goal.returns-in_err-push_move-clause-kept
returns-in_err-push_move-clause-kept c =
    grown_more _ _ _ c.loop-to.invariant (joined _ _ _ c.in_ok-push_number.ensures.kept c.in_err-push_move.ensures.kept)

pub loop-to-preserved : goal.loop-to-preserved
loop-to-preserved c =
    let before = c.loop-to.invariant in
    elim c.if-has_kept.branch [
      | then-has_kept+in_ok-push_number+in_ok-push_move w ↦
          let at = begun _ _ (codes " moved at ") _ refl w.in_ok-push_number.ensures.text in
          subst (HasGrownByIndented c.args.text.now.items) (search rules)
          (grown_join _ _ w.push_move.new.text.items before (line_joined _ _ w.push_move.new.text.items at w.in_ok-push_move.ensures.ended))
      | else-has_kept w ↦ subst (HasGrownByIndented c.args.text.now.items) (search rules) before
    ]
