use Rattle.std.proofs.Common.{refl}
use Rattle.std.proofs.lemmas.Bool.{eq-eqb}
use Rattle.std.specs.Prelude.{Some}
use Rattle.timer_facility.proofs.FacilityFields.{found_pending}
use Rattle.timer_facility.proofs.facility.Facility.find_named.Goals as goal

pub returns-then-timer-client : goal.returns-then-timer-client
returns-then-timer-client g c =
    let there = found_pending c.self.invariant.fields c.self.view_is c.requires c.args.handle (Some c.in_ok-timer.timer)
    c.in_ok-timer.ensures.timer in
    rw there (rw (eq-eqb c.in_ok-timer.timer.client c.args.client c.if-timer-client.true) refl)
