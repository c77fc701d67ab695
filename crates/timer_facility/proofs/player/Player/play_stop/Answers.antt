use Rattle.std.proofs.Common.{◌≡◌, [], refl, subst}
use Rattle.timer_facility.specs.declared.request.NotTaken.TheVariants as NotTakens
use Rattle.timer_facility.specs.declared.request.Request.TheVariants as Requests
use Rattle.timer_facility.specs.State.{FacilityState}
use Rattle.timer_facility.specs.Facility.{WhyNotTaken}
use Rattle.timer_facility.specs.Handles.{HandleList, AreRecorded}
use Rattle.timer_facility.proofs.HandlesLemmas.{recorded-stopped, makes-unplaced, no_stop_makes}
use Rattle.timer_facility.proofs.PlayedLemmas.{MakesStep-taken, MakesStep-not_taken, AddsRun-stop}
use Rattle.timer_facility.proofs.player.Player.play_stop.Goals as goal

pub forget-requires : goal.forget-requires
forget-requires g c = recorded-stopped c.self.invariant.recorded c.in-Ok.ensures.taken

pub returns-in-Ok : goal.returns-in-Ok
returns-in-Ok g c =
    let handles : HandleList = c.self.inside.handles.list.items in
    let recorded : AreRecorded handles c.args.self.now = subst (AreRecorded handles) c.self.view_is c.self.invariant.recorded in
    AddsRun-stop c.args.client c.args.number recorded
    (record { same_serial = c.handle_of-handle.ensures.serial; same_place = c.handle_of-handle.ensures.place })
    (MakesStep-taken c.self.view_is c.in-Ok.ensures.taken (c.take.ensures.quiet refl))

pub returns-in-Err : goal.returns-in-Err
returns-in-Err g c =
    let client = c.args.client in
    let number = c.args.number in
    let handle = c.handle_of-handle.result in
    let s : FacilityState = c.self.inside.facility.state in
    let handles : HandleList = c.self.inside.handles.list.items in
    let recorded : AreRecorded handles c.args.self.now = subst (AreRecorded handles) c.self.view_is c.self.invariant.recorded in
    let other : c.in-Err.reason ≡ NotTakens.OutOfMemory → ⊥ = λ is. no_stop_makes s client number handle
    (makes-unplaced s client number (Requests.Stop handle)
    (subst (WhyNotTaken s client number (Requests.Stop handle)) is c.in-Err.ensures.taken.why)) in
    AddsRun-stop client number recorded
    (record { same_serial = c.handle_of-handle.ensures.serial; same_place = c.handle_of-handle.ensures.place })
    (MakesStep-not_taken [] c.self.view_is c.in-Err.ensures.taken other)
