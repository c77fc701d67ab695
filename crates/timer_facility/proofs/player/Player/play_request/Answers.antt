use Rattle.std.proofs.Common.{[], ◌∙◌, ap, sym, subst}
use Rattle.timer_facility.specs.State.{FacilityState}
use Rattle.timer_facility.specs.Facility.{model_of, MakesTimer, WhyNotTaken}
use Rattle.timer_facility.specs.Handles.{HandleList, AreRecorded, with_answer}
use Rattle.timer_facility.proofs.HandlesLemmas.{recorded-taken, makes-answered, makes-unplaced}
use Rattle.timer_facility.proofs.PlayedLemmas.{MakesStep-taken, MakesStep-not_taken}
use Rattle.timer_facility.proofs.player.Player.play_request.Goals as goal

pub record-requires : goal.record-requires
record-requires g c = λ adds. c.in_ok-make_room.ensures.room (makes-answered c.in-Ok.ensures.taken adds)

pub forget-requires : goal.forget-requires
forget-requires g c =
    subst (λ (handles : HandleList). AreRecorded handles c.take.new.self.state)
    (sym (c.record.ensures ∙ ap (with_answer c.in-Ok.answer) c.make_room.ensures.list))
    (recorded-taken c.self.invariant.recorded c.in-Ok.ensures.taken)

pub invariant_of-self-in-Ok : goal.invariant_of-self-in-Ok
invariant_of-self-in-Ok g c = record {
  waiting = c.take.ensures.quiet c.requires;
  recorded = c.forget.ensures.recorded;
  few = c.forget.ensures.few;
}

pub returns-in-Ok-clause-ok : goal.returns-in-Ok-clause-ok
returns-in-Ok-clause-ok g c = MakesStep-taken c.self.view_is c.in-Ok.ensures.taken (c.take.ensures.quiet c.requires)

pub returns-in_default-clause-ok : goal.returns-in_default-clause-ok
returns-in_default-clause-ok g c = MakesStep-not_taken [] c.self.view_is c.in-Err.ensures.taken c.in_default.not-OutOfMemory

pub returns-in-OutOfMemory-clause-memory : goal.returns-in-OutOfMemory-clause-memory
returns-in-OutOfMemory-clause-memory g c =
    let client = c.args.client in
    let number = c.args.number in
    let request = c.args.request in
    let s : FacilityState = c.self.inside.facility.state in
    subst (λ (t : FacilityState). MakesTimer t client number (model_of request)) c.self.view_is
    (makes-unplaced s client number request (subst (WhyNotTaken s client number request) c.in-OutOfMemory.is c.in-Err.ensures.taken.why))
