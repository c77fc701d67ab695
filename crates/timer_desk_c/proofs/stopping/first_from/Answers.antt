use Rattle.std.proofs.Common.{◌∙◌, ap, subst}
use Rattle.timer_facility.specs.Facility.{FacilityView}
use Rattle.timer_desk_c.specs.Stopping.{IsFirstPending}
use Rattle.timer_wheels.specs.TieredWheel.{tiered_state}
use Rattle.timer_desk_c.proofs.StoppingLemmas.{first_pending}
use Rattle.timer_desk_c.proofs.stopping.first_from.Goals as goal

pub returns-clause-first : goal.returns-clause-first
returns-clause-first c =
    let view = c.facility.ensures in
    let wheel = c.wheel-wheel.ensures in
    let found = c.held_from.result in
    subst (λ es. IsFirstPending c.args.place es found)
    (wheel.pending ∙ ap (λ (v : FacilityView). v.state.pending) view)
    (first_pending (tiered_state c.wheel-wheel.result.now) c.args.place found
    (wheel.due (ap (λ (v : FacilityView). v.waiting) view)) c.held_from.ensures.first c.held_from.ensures.alone)
