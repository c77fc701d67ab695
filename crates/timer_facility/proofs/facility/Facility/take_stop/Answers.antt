use Rattle.std.proofs.Common.{sym}
use Rattle.timer_facility.proofs.FacilityFields.{stopped_now, answered-stop}
use Rattle.timer_facility.proofs.facility.Facility.take_stop.Goals as goal

pub count_one_less-requires : goal.count_one_less-requires
count_one_less-requires g c =
    (stopped_now c.self.invariant.fields c.self.view_is (g.met.W.Wheel.well_formed c.self.inside.wheel) c.requires c.args.client c.args.handle
    c.in-Some.timer (sym c.in-Some.ensures) c.stop.ensures.stopped).counted

pub invariant_of-self : goal.invariant_of-self
invariant_of-self g c = record {
  fields = (stopped_now c.self.invariant.fields c.self.view_is (g.met.W.Wheel.well_formed c.self.inside.wheel) c.requires c.args.client c.args.handle
      c.in-Some.timer (sym c.in-Some.ensures) c.stop.ensures.stopped).parts c.count_one_less.ensures;
  keeps_all = c.self.invariant.keeps_all;
}

pub returns-in-Some : goal.returns-in-Some
returns-in-Some g c = λ number. answered-stop c.self.invariant.fields c.self.view_is c.requires c.in-Some.ensures
    (stopped_now c.self.invariant.fields c.self.view_is (g.met.W.Wheel.well_formed c.self.inside.wheel) c.requires c.args.client c.args.handle
    c.in-Some.timer (sym c.in-Some.ensures) c.stop.ensures.stopped).stopped
