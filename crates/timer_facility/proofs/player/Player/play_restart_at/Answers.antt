use Rattle.std.proofs.Common.{subst}
use Rattle.timer_facility.specs.State.{At}
use Rattle.timer_facility.specs.Handles.{HandleList, AreRecorded}
use Rattle.timer_facility.proofs.PlayedLemmas.{AddsRun-restart_at, makes-by_serial, done_with, unless_either}
use Rattle.timer_facility.proofs.player.Player.play_restart_at.Goals as goal

pub returns-clause-ok : goal.returns-clause-ok
returns-clause-ok g c =
    let handles : HandleList = c.self.inside.handles.list.items in
    let recorded : AreRecorded handles c.args.self.now = subst (AreRecorded handles) c.self.view_is c.self.invariant.recorded in
    done_with c.play_for_a_tick.result (AddsRun-restart_at c.args.client c.args.number c.args.deadline c.args.action recorded
    (record { same_serial = c.handle_of-handle.ensures.serial; same_place = c.handle_of-handle.ensures.place }))
    c.play_for_a_tick.ensures.ok

pub returns-clause-memory : goal.returns-clause-memory
returns-clause-memory g c =
    let handles : HandleList = c.self.inside.handles.list.items in
    let recorded : AreRecorded handles c.args.self.now = subst (AreRecorded handles) c.self.view_is c.self.invariant.recorded in
    unless_either _ c.play_for_a_tick.result (makes-by_serial c.args.client c.args.number (At c.args.deadline) c.args.action recorded
    (record { same_serial = c.handle_of-handle.ensures.serial; same_place = c.handle_of-handle.ensures.place }))
    c.play_for_a_tick.ensures.memory
