use Rattle.timer_facility.proofs.FacilityFields.{idle}
use Rattle.timer_facility.proofs.facility.Facility.wheel.Goals as goal

pub returns-clause-due : goal.returns-clause-due
returns-clause-due g c = λ h. (idle c.self.invariant.fields c.self.view_is h).none_due
