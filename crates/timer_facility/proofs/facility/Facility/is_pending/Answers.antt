use Rattle.std.proofs.Common.{ℕ, ◌∙◌, ap}
use Rattle.std.specs.Prelude.{nat_lt}
use Rattle.timer_facility.specs.Facility.{FacilityView}
use Rattle.timer_facility.specs.Handles.{is_pending}
use Rattle.timer_facility.proofs.TimerLists.{pending_by_deadline}
use Rattle.timer_facility.proofs.facility.Facility.is_pending.Goals as goal

pub returns-in-Some : goal.returns-in-Some
returns-in-Some g c =
    let w = g.W.Wheel.state c.self.inside.wheel in
    ap (λ (now : ℕ). nat_lt now c.in-Some.timer.deadline) c.now.ensures
    ∙ (pending_by_deadline c.args.handle w c.in-Some.timer (g.met.W.Wheel.well_formed c.self.inside.wheel) c.in-Some.ensures.timer
    ∙ ap (λ (v : FacilityView). is_pending v.state c.args.handle) c.self.view_is)
