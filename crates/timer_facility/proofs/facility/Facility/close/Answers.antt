use Rattle.std.proofs.Common.{vec_capacity}
use Rattle.timer_facility.proofs.FacilityFields.{view-close, facility-close}
use Rattle.timer_facility.proofs.facility.Facility.close.Goals as goal

pub returns-clause-closed : goal.returns-clause-closed
returns-clause-closed g c = view-close c.self.invariant.fields c.self.view_is c.requires c.if-self.false c.in-Ok.ensures.timers
    c.in-Ok.ensures.cleared (vec_capacity c.take_all.new.timers)

pub invariant_of-self-2 : goal.invariant_of-self-2
invariant_of-self-2 g c = record {
  fields = facility-close c.self.invariant.fields c.self.view_is c.requires c.in-Ok.ensures.timers c.in-Ok.ensures.cleared
      (vec_capacity c.take_all.new.timers) c.in-Ok.ensures.capacity;
  keeps_all = c.self.invariant.keeps_all;
}
