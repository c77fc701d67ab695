use Rattle.std.proofs.Common.{◌<◌, ◌∙◌, ap, arith}
use Rattle.timer_facility.specs.State.{FacilityState}
use Rattle.timer_facility.specs.Facility.{FacilityView, model_of}
use Rattle.timer_facility.proofs.FacilityFields.{agrees, view-used, facility-used}
use Rattle.timer_facility.proofs.VerdictLemmas.{takable}
use Rattle.timer_facility.proofs.StepLemmas.{answered-leaves, answered-waiting, taken-answered}
use Rattle.timer_facility.proofs.facility.Facility.take.Goals as goal

pub invariant_of-self : goal.invariant_of-self
invariant_of-self g c =
    let t = takable c.args.self.now.state c.args.client c.args.number c.in_default.ensures.verdict in
    record {
      fields = facility-used c.self.invariant.fields c.args.client c.args.number (omega (arith, t.to_next, t.in_range));
      keeps_all = c.self.invariant.keeps_all;
    }

pub returns-clause-quiet : goal.returns-clause-quiet
returns-clause-quiet g c = λ h.
    ap (λ (u : FacilityView). u.waiting) c.self.view_is
    ∙ answered-waiting c.args.self.now.state c.args.client c.args.number c.args.request c.in-Ok.answer c.answer.new.self c.in-Ok.ensures.answered h

pub returns-clause-taken : goal.returns-clause-taken
returns-clause-taken g c =
    let s : FacilityState = c.args.self.now.state in
    let v : FacilityView = c.answer.new.self in
    let leaves = answered-leaves s c.args.client c.args.number (model_of c.args.request) c.in-Ok.answer v c.in-Ok.ensures.answered in
    let known : c.args.client < c.self.inside.clients = omega (
      arith,
      (takable s c.args.client c.args.number c.in_default.ensures.verdict).is_client,
      leaves.as_many,
      (agrees c.self.invariant.fields c.self.view_is).clients_are,
    ) in
    taken-answered s c.args.client c.args.number c.args.request c.in-Ok.answer v _ c.in_default.ensures.verdict c.in-Ok.ensures.answered
    (view-used c.self.invariant.fields c.self.view_is c.args.client c.args.number known)
