use Rattle.std.proofs.Common.{subst, arith}
use Rattle.timer_desk.specs.declared.report.Done.TheVariants.{Passed}
use Rattle.timer_desk.specs.Desk.{DeskState, ReportHolds, event_report}
use Rattle.timer_desk.proofs.DeskLemmas.{desk_of, kept_event, report_event, desk_event}
use Rattle.timer_desk.proofs.EventLemmas.{event_of_ticks}
use Rattle.timer_desk.proofs.desk.Desk.ticks.Goals as goal

pub hand_out-requires : goal.hand_out-requires
hand_out-requires g c =
    let d = c.self.invariant in
    let e = c.ticks-result.ensures in
    let event = event_of_ticks c.args.limit c.self.inside.facility c.ticks-result.new.self c.ticks-result.result
    d.nothing_waits (record { ticked = e.ticked; fault = e.fault; unchanged = e.err }) in record {
      room = (kept_event g.I.Inlet.kind (Passed c.args.limit c.ticks-result.result) c.self.inside.facility c.ticks-result.new.self
          c.self.inside.inlets.items c.self.inside.backlogs.items event d).room;
      clients = omega (arith, event.same_numbers, d.kept.as_many, d.clients, c.self.inside.backlogs.ok);
    }

pub invariant_of-self : goal.invariant_of-self
invariant_of-self g c =
    let d = c.self.invariant in
    let e = c.ticks-result.ensures in
    let event = event_of_ticks c.args.limit c.self.inside.facility c.ticks-result.new.self c.ticks-result.result
    d.nothing_waits (record { ticked = e.ticked; fault = e.fault; unchanged = e.err }) in
    desk_event g.I.Inlet.kind (Passed c.args.limit c.ticks-result.result) c.self.inside.facility c.ticks-result.new.self c.hand_out.new.facility
    c.self.inside.inlets.items c.self.inside.backlogs.items c.hand_out.new.backlogs.items event d c.hand_out.ensures.facility
    c.hand_out.ensures.noted

pub returns-clause-report : goal.returns-clause-report
returns-clause-report g c =
    let d = c.self.invariant in
    let e = c.ticks-result.ensures in
    let event = event_of_ticks c.args.limit c.self.inside.facility c.ticks-result.new.self c.ticks-result.result
    d.nothing_waits (record { ticked = e.ticked; fault = e.fault; unchanged = e.err }) in
    let first = Passed c.args.limit c.ticks-result.result in
    let new = desk_of c.hand_out.new.facility c.self.inside.inlets.items c.hand_out.new.backlogs.items in
    subst (λ (x : DeskState g.row.I.Denot). ReportHolds g.I.Inlet.kind (event_report x.facility first) x new) c.self.view_is
    (report_event g.I.Inlet.kind first c.self.inside.facility c.ticks-result.new.self c.hand_out.new.facility
    c.self.inside.inlets.items c.self.inside.backlogs.items c.hand_out.new.backlogs.items event d c.hand_out.ensures.facility
    c.hand_out.ensures.noted)
