use Rattle.std.proofs.Common.{subst}
use Rattle.std.proofs.lemmas.Result.{IfOk-weaker}
use Rattle.timer_facility.specs.State.{After}
use Rattle.timer_facility.specs.Handles.{HandleList, AreRecorded}
use Rattle.timer_facility.proofs.PlayedLemmas.{AddsRun-restart, makes-by_serial, unless_done}
use Rattle.timer_facility.proofs.player.Player.play_restart.Goals as goal

pub returns-clause-ok : goal.returns-clause-ok
returns-clause-ok g c =
    let handles : HandleList = c.self.inside.handles.list.items in
    let recorded : AreRecorded handles c.args.self.now = subst (AreRecorded handles) c.self.view_is c.self.invariant.recorded in
    IfOk-weaker c.play_request.result _ _ (λ out. AddsRun-restart c.args.client c.args.number c.args.interval c.args.action recorded
    (record { same_serial = c.handle_of-handle.ensures.serial; same_place = c.handle_of-handle.ensures.place }))
    c.play_request.ensures.ok

pub returns-clause-memory : goal.returns-clause-memory
returns-clause-memory g c =
    let handles : HandleList = c.self.inside.handles.list.items in
    let recorded : AreRecorded handles c.args.self.now = subst (AreRecorded handles) c.self.view_is c.self.invariant.recorded in
    unless_done c.play_request.result (makes-by_serial c.args.client c.args.number (After c.args.interval) c.args.action recorded
    (record { same_serial = c.handle_of-handle.ensures.serial; same_place = c.handle_of-handle.ensures.place }))
    c.play_request.ensures.memory
