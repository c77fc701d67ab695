use Rattle.std.proofs.Common.{sym}
use Rattle.timer_facility.proofs.FacilityFields.{idle, before_end, view-tick, facility-tick}
use Rattle.timer_facility.proofs.facility.Facility.tick.Goals as goal

pub per_tick-requires-clause-nothing_due : goal.per_tick-requires-clause-nothing_due
per_tick-requires-clause-nothing_due g c = (idle c.self.invariant.fields c.self.view_is c.requires).none_due

pub per_tick-requires-clause-before_last : goal.per_tick-requires-clause-before_last
per_tick-requires-clause-before_last g c = before_end c.self.invariant.fields c.self.view_is (g.met.W.Wheel.well_formed c.self.inside.wheel)
    (sym c.in_default.ensures)

pub invariant_of-self : goal.invariant_of-self
invariant_of-self g c = record {
  fields = facility-tick c.self.invariant.fields (idle c.self.invariant.fields c.self.view_is c.requires).none_due c.per_tick.ensures.ticked;
  keeps_all = c.self.invariant.keeps_all;
}

pub returns-clause-ticked : goal.returns-clause-ticked
returns-clause-ticked g c = view-tick c.self.invariant.fields c.self.view_is (idle c.self.invariant.fields c.self.view_is c.requires).none_returned
    (sym c.in_default.ensures) c.per_tick.ensures.ticked
