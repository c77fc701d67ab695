use Rattle.std.proofs.Common.{sym, subst}
use Rattle.std.specs.Prelude.{OnOk}
use Rattle.timer_facility.specs.Types.{Event}
use Rattle.timer_facility.specs.Played.{AddsRun}
use Rattle.timer_facility.proofs.PlayedLemmas.{AddsRun-start_at, done_with}
use Rattle.timer_facility.proofs.player.Player.play_one.Goals as goal

pub returns-in-StartAt-clause-ok : goal.returns-in-StartAt-clause-ok
returns-in-StartAt-clause-ok g c =
    let played = c.play_for_a_tick in
    let start = c.in-StartAt in
    subst (λ (event : Event). OnOk played.result (AddsRun c.args.self.now event c.args.outs.now.items played.new.outs.items played.new.self))
    (sym start.is)
    (done_with played.result (AddsRun-start_at start.client start.number start.deadline start.action) played.ensures.ok)
