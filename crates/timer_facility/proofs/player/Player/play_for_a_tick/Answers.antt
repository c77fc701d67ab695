use Rattle.std.proofs.Common.{◌≡◌, ◌∙◌, ap, sym, subst, inr}
use Rattle.timer_facility.specs.State.{FacilityState}
use Rattle.timer_facility.specs.Facility.{FacilityView, model_of, MakesTimer, WhyNotTaken}
use Rattle.timer_facility.specs.Handles.{HandleList, AreRecorded, with_answer}
use Rattle.timer_facility.proofs.HandlesLemmas.{recorded-taken, makes-unplaced}
use Rattle.timer_facility.proofs.player.Player.play_for_a_tick.Goals as goal

pub forget-requires : goal.forget-requires
forget-requires g c =
    let handles : HandleList = c.record.new.self.list.items in
    let left : c.hand_out.new.facility.state ≡ c.take.new.self.state = ap (λ (v : FacilityView). v.state) c.hand_out.ensures.facility in
    subst (AreRecorded handles) (sym left) (subst (λ (handles : HandleList). AreRecorded handles c.take.new.self.state)
    (sym (c.record.ensures ∙ ap (with_answer c.in-Ok.answer) c.make_room.ensures.list))
    (recorded-taken c.self.invariant.recorded c.in-Ok.ensures.taken))

pub returns-in-Err-OutOfMemory-clause-memory : goal.returns-in-Err-OutOfMemory-clause-memory
returns-in-Err-OutOfMemory-clause-memory g c =
    let client = c.args.client in
    let number = c.args.number in
    let request = c.args.request in
    let s : FacilityState = c.self.inside.facility.state in
    inr (subst (λ (t : FacilityState). MakesTimer t client number (model_of request)) c.self.view_is
    (makes-unplaced s client number request
    (subst (WhyNotTaken s client number request) c.in-Err-OutOfMemory.field-0-is c.in-Err-OutOfMemory.ensures.taken.why)))
