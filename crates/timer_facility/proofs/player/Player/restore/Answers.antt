use Rattle.std.proofs.Common.{◌≡◌, subst}
use Rattle.timer_facility.specs.Types.{Stage}
use Rattle.timer_facility.specs.Saved.{lines_at, saved_of, state_lines}
use Rattle.timer_facility.proofs.RestoredLemmas.{restored_goes_on}
use Rattle.timer_facility.proofs.player.Player.restore.Goals as goal

pub returns-clause-goes_on : goal.returns-clause-goes_on
returns-clause-goes_on g c = λ s sound same lines. restored_goes_on s _ c.args.checked (g.W.Wheel.state c.args.wheel).last_tick
    c.args.saved.now.saved c.in_ok-facility.ensures.state sound same
    (subst (λ (stage : Stage). lines_at stage c.args.saved.now.saved ≡ state_lines (saved_of s)) c.requires.whole lines)
