use Rattle.std.proofs.Common.{◌<◌, length, ap, arith, subst}
use Rattle.std.specs.Prelude.{slice_set}
use Rattle.timer_desk.specs.declared.report.Done.TheVariants.{Served}
use Rattle.timer_desk.specs.Desk.{DeskState, clients_of, ReportHolds, event_report}
use Rattle.timer_desk.proofs.DeskLemmas.{desk_of, serve_call, kept_client, client_handed, desk_handed, report_handed}
use Rattle.timer_desk.proofs.desk.Desk.serve.Goals as goal

pub hand_out-requires : goal.hand_out-requires
hand_out-requires g c =
    let s = c.serve-served.ensures in
    let d = c.self.invariant in
    let low : c.args.c < length c.self.inside.inlets.items = omega (arith, c.requires, ap clients_of c.self.view_is) in
    let i = c.index_mut-2.result.now in
    let b = c.index_mut.result.now in
    let call = serve_call g.I.Inlet.kind c.args.c c.serve-served.result c.self.inside.facility c.serve-served.new.facility i
    c.serve-served.new.inlet b c.serve-served.new.self s.line s.account s.serve s.member s.notices s.clients s.room s.adds in
    let kept = kept_client g.I.Inlet.kind c.args.c (Served c.args.c c.serve-served.result) c.self.inside.facility c.serve-served.new.facility
    c.self.inside.inlets.items c.self.inside.backlogs.items i c.serve-served.new.inlet b c.serve-served.new.self call d low
    c.index_mut-2.ensures.value c.index_mut.ensures.value in record {
      room = kept.room;
      clients = omega (arith, s.clients, d.kept.as_many, d.clients, c.self.inside.backlogs.ok);
    }

pub invariant_of-self : goal.invariant_of-self
invariant_of-self g c =
    let s = c.serve-served.ensures in
    let d = c.self.invariant in
    let low : c.args.c < length c.self.inside.inlets.items = omega (arith, c.requires, ap clients_of c.self.view_is) in
    let i = c.index_mut-2.result.now in
    let b = c.index_mut.result.now in
    let first = Served c.args.c c.serve-served.result in
    let inlets = slice_set c.self.inside.inlets.items c.args.c c.serve-served.new.inlet in
    let between = slice_set c.self.inside.backlogs.items c.args.c c.serve-served.new.self in
    let call = serve_call g.I.Inlet.kind c.args.c c.serve-served.result c.self.inside.facility c.serve-served.new.facility i
    c.serve-served.new.inlet b c.serve-served.new.self s.line s.account s.serve s.member s.notices s.clients s.room s.adds in
    desk_handed g.I.Inlet.kind first c.self.inside.facility c.serve-served.new.facility c.hand_out.new.facility
    c.self.inside.inlets.items inlets c.self.inside.backlogs.items between c.hand_out.new.backlogs.items
    (client_handed g.I.Inlet.kind c.args.c first c.self.inside.facility c.serve-served.new.facility c.hand_out.new.facility
    c.self.inside.inlets.items c.self.inside.backlogs.items c.hand_out.new.backlogs.items i c.serve-served.new.inlet b
    c.serve-served.new.self call d low c.index_mut-2.ensures.value c.index_mut.ensures.value c.hand_out.ensures.facility
    c.hand_out.ensures.noted)

pub returns-clause-report : goal.returns-clause-report
returns-clause-report g c =
    let s = c.serve-served.ensures in
    let d = c.self.invariant in
    let low : c.args.c < length c.self.inside.inlets.items = omega (arith, c.requires, ap clients_of c.self.view_is) in
    let i = c.index_mut-2.result.now in
    let b = c.index_mut.result.now in
    let first = Served c.args.c c.serve-served.result in
    let inlets = slice_set c.self.inside.inlets.items c.args.c c.serve-served.new.inlet in
    let between = slice_set c.self.inside.backlogs.items c.args.c c.serve-served.new.self in
    let call = serve_call g.I.Inlet.kind c.args.c c.serve-served.result c.self.inside.facility c.serve-served.new.facility i
    c.serve-served.new.inlet b c.serve-served.new.self s.line s.account s.serve s.member s.notices s.clients s.room s.adds in
    let new = desk_of c.hand_out.new.facility inlets c.hand_out.new.backlogs.items in
    subst (λ (x : DeskState g.row.I.Denot). ReportHolds g.I.Inlet.kind (event_report x.facility first) x new) c.self.view_is
    (report_handed g.I.Inlet.kind first c.self.inside.facility c.serve-served.new.facility c.hand_out.new.facility
    c.self.inside.inlets.items inlets c.self.inside.backlogs.items between c.hand_out.new.backlogs.items
    (client_handed g.I.Inlet.kind c.args.c first c.self.inside.facility c.serve-served.new.facility c.hand_out.new.facility
    c.self.inside.inlets.items c.self.inside.backlogs.items c.hand_out.new.backlogs.items i c.serve-served.new.inlet b
    c.serve-served.new.self call d low c.index_mut-2.ensures.value c.index_mut.ensures.value c.hand_out.ensures.facility
    c.hand_out.ensures.noted))
