use Rattle.std.proofs.Common.{sym, ◌∙◌}
use Rattle.timer_facility.proofs.FacilityFields.{pending_is}
use Rattle.timer_facility.proofs.facility.Facility.pending_of.Goals as goal

pub returns-then-client-self-clause-value : goal.returns-then-client-self-clause-value
returns-then-client-self-clause-value g c = sym (c.self.invariant.fields.timers.counted.no_others c.args.client c.if-client-self.true)
    ∙ pending_is c.self.invariant.fields c.self.view_is c.requires c.args.client

pub returns-clause-value : goal.returns-clause-value
returns-clause-value g c = pending_is c.self.invariant.fields c.self.view_is c.requires c.args.client
