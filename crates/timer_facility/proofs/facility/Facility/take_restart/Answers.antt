use Rattle.std.proofs.Common.{sym}
use Rattle.timer_facility.proofs.FacilityFields.{in_time, in_clock, restarted_now, answered-restart}
use Rattle.timer_facility.proofs.facility.Facility.take_restart.Goals as goal

pub new_timer-timer-requires : goal.new_timer-timer-requires
new_timer-timer-requires g c = in_clock c.self.invariant.fields c.self.view_is (g.met.W.Wheel.well_formed c.self.inside.wheel) c.args.left
    c.args.interval (sym c.in_default-interval_refusal.ensures) c.requires.left

pub restart-requires-clause-deadline : goal.restart-requires-clause-deadline
restart-requires-clause-deadline g c = (in_time c.self.invariant.fields c.self.view_is (g.met.W.Wheel.well_formed c.self.inside.wheel)
    c.args.interval (sym c.in_default-interval_refusal.ensures) c.requires.left c.new_timer-timer.ensures).within

pub restart-requires-clause-serial : goal.restart-requires-clause-serial
restart-requires-clause-serial g c = (in_time c.self.invariant.fields c.self.view_is (g.met.W.Wheel.well_formed c.self.inside.wheel)
    c.args.interval (sym c.in_default-interval_refusal.ensures) c.requires.left c.new_timer-timer.ensures).unspent

pub invariant_of-self : goal.invariant_of-self
invariant_of-self g c =
    let w = g.met.W.Wheel.well_formed c.self.inside.wheel in
    record {
      fields = (restarted_now c.self.invariant.fields c.self.view_is w c.requires.waiting c.args.client c.args.handle c.in-Some.old
          (sym c.in-Some.ensures) (in_time c.self.invariant.fields c.self.view_is w c.args.interval (sym c.in_default-interval_refusal.ensures) c.requires.left
          c.new_timer-timer.ensures) c.in-Some-restart.ensures.restarted).parts;
      keeps_all = c.self.invariant.keeps_all;
    }

pub returns : goal.returns
returns g c =
    let w = g.met.W.Wheel.well_formed c.self.inside.wheel in
    answered-restart c.self.invariant.fields c.self.view_is c.requires.waiting c.in-Some.ensures c.in_default-interval_refusal.ensures
    c.new_timer-timer.ensures c.in-Some-restart.handle c.in-Some-restart.ensures.named
    (restarted_now c.self.invariant.fields c.self.view_is w c.requires.waiting c.args.client c.args.handle c.in-Some.old (sym c.in-Some.ensures)
    (in_time c.self.invariant.fields c.self.view_is w c.args.interval (sym c.in_default-interval_refusal.ensures) c.requires.left
    c.new_timer-timer.ensures) c.in-Some-restart.ensures.restarted)
