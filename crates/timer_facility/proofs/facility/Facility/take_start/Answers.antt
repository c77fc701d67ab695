use Rattle.std.proofs.Common.{◌∙◌, sym, arith}
use Rattle.timer_facility.proofs.FacilityFields.{in_time, in_clock, agrees, facility-start, answered-start, few_counted, no_room}
use Rattle.timer_facility.proofs.VerdictLemmas.{startable}
use Rattle.timer_facility.proofs.facility.Facility.take_start.Goals as goal

pub new_timer-timer-requires : goal.new_timer-timer-requires
new_timer-timer-requires g c = in_clock c.self.invariant.fields c.self.view_is (g.met.W.Wheel.well_formed c.self.inside.wheel) c.args.left
    c.args.interval (startable c.args.self.now.state c.args.interval (sym c.in_default.ensures)).unrefused c.requires.left

pub start-requires-clause-deadline : goal.start-requires-clause-deadline
start-requires-clause-deadline g c = (in_time c.self.invariant.fields c.self.view_is (g.met.W.Wheel.well_formed c.self.inside.wheel)
    c.args.interval (startable c.args.self.now.state c.args.interval (sym c.in_default.ensures)).unrefused c.requires.left
    c.new_timer-timer.ensures).within

pub start-requires-clause-serial : goal.start-requires-clause-serial
start-requires-clause-serial g c = (in_time c.self.invariant.fields c.self.view_is (g.met.W.Wheel.well_formed c.self.inside.wheel)
    c.args.interval (startable c.args.self.now.state c.args.interval (sym c.in_default.ensures)).unrefused c.requires.left
    c.new_timer-timer.ensures).unspent

pub overflow_add-self-2 : goal.overflow_add-self-2
overflow_add-self-2 g c = omega (arith, few_counted c.self.invariant.fields c.self.view_is c.requires.waiting c.args.client)

pub invariant_of-self-2 : goal.invariant_of-self-2
invariant_of-self-2 g c =
    let s = startable c.args.self.now.state c.args.interval (sym c.in_default.ensures) in
    let told = agrees c.self.invariant.fields c.self.view_is in
    record {
      fields = facility-start c.self.invariant.fields (λ e. s.room (told.length_is ∙ e ∙ sym told.capacity_is)) c.in-Ok.handle.place
          (in_time c.self.invariant.fields c.self.view_is (g.met.W.Wheel.well_formed c.self.inside.wheel) c.args.interval s.unrefused
          c.requires.left c.new_timer-timer.ensures) (omega (arith, told.clients_are, c.requires.client)) c.in-Ok.ensures.started;
      keeps_all = c.self.invariant.keeps_all;
    }

pub returns-clause-answered : goal.returns-clause-answered
returns-clause-answered g c =
    answered-start c.self.invariant.fields c.self.view_is c.requires.waiting c.in_default.ensures c.new_timer-timer.ensures
    c.in-Ok.handle c.in-Ok.ensures.named c.in-Ok.ensures.started

pub returns-in_default-start-clause-room : goal.returns-in_default-start-clause-room
returns-in_default-start-clause-room g c =
    no_room c.self.invariant.fields c.self.view_is c.requires.waiting
    (startable c.args.self.now.state c.args.interval (sym c.in_default.ensures)).room (c.in_default-start.ensures.full)
