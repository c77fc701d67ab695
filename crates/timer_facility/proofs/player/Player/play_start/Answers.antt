use Rattle.std.proofs.lemmas.Result.{IfOk-weaker}
use Rattle.timer_facility.proofs.PlayedLemmas.{AddsRun-start}
use Rattle.timer_facility.proofs.player.Player.play_start.Goals as goal

pub returns-clause-ok : goal.returns-clause-ok
returns-clause-ok g c = IfOk-weaker c.play_request.result _ _
    (λ out. AddsRun-start c.args.client c.args.number c.args.interval c.args.action) c.play_request.ensures.ok
