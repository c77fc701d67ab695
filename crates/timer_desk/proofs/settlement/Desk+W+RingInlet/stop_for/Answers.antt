use Rattle.std.proofs.Common.{◌≡◌, refl, subst}
use Rattle.timer_facility.specs.State.{number_of}
use Rattle.timer_desk.specs.declared.ring_ends.RingInlet.{RingInlet}
use Rattle.timer_desk.specs.Desk.{DeskState}
use Rattle.timer_desk.specs.RingEnds.{ring_lines}
use Rattle.timer_desk.specs.Settlement.{stop_step, stop_outs}
use Rattle.timer_desk.proofs.SettlementLemmas.{stop_is, stopped_desk, stopped_desk_is}
use Rattle.timer_desk.proofs.settlement.Desk+W+RingInlet.stop_for.Goals as goal

pub invariant_of-self : goal.invariant_of-self
invariant_of-self g c =
    let is = stop_is c.self.inside.facility c.args.c c.unwrap_or-number.result c.next_number.result c.args.handle c.take.result
    c.take.new.self c.self.invariant.nothing_waits c.next_number.ensures c.unwrap_or-number.ensures c.take.ensures.taken (c.take.ensures.quiet refl) in
    stopped_desk ring_lines c.self.inside.facility c.take.new.self c.self.inside.inlets.items c.self.inside.backlogs.items c.args.c
    c.args.handle c.take.result c.self.invariant is

pub returns-clause-answer : goal.returns-clause-answer
returns-clause-answer g c =
    let is = stop_is c.self.inside.facility c.args.c c.unwrap_or-number.result c.next_number.result c.args.handle c.take.result
    c.take.new.self c.self.invariant.nothing_waits c.next_number.ensures c.unwrap_or-number.ensures c.take.ensures.taken (c.take.ensures.quiet refl) in
    subst (λ (d : DeskState RingInlet). (stop_step d.facility c.args.c c.args.handle).outs
    ≡ stop_outs c.args.c (number_of d.facility c.args.c) c.take.result) c.self.view_is is.outs_are

pub returns-clause-desk : goal.returns-clause-desk
returns-clause-desk g c =
    let is = stop_is c.self.inside.facility c.args.c c.unwrap_or-number.result c.next_number.result c.args.handle c.take.result
    c.take.new.self c.self.invariant.nothing_waits c.next_number.ensures c.unwrap_or-number.ensures c.take.ensures.taken (c.take.ensures.quiet refl) in
    stopped_desk_is c.self.inside.facility c.take.new.self c.self.inside.inlets.items c.self.inside.backlogs.items c.args.c
    c.args.handle c.take.result c.args.self.now c.self.view_is is
