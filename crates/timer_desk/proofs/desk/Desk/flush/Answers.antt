use Rattle.std.proofs.Common.{◌<◌, [], ◌∷◌, length, ap, arith, subst}
use Rattle.std.specs.Prelude.{slice_set}
use Rattle.timer_desk.specs.declared.report.Done.TheVariants.{Flushed}
use Rattle.timer_desk.specs.Desk.{DeskState, clients_of, ReportHolds}
use Rattle.timer_desk.proofs.DeskLemmas.{desk_of, flush_call, client_quiet, desk_handed, report_handed, FlushesClient-one}
use Rattle.timer_desk.specs.Flush.{FlushesClient}
use Rattle.timer_desk.proofs.desk.Desk.flush.Goals as goal

pub invariant_of-self : goal.invariant_of-self
invariant_of-self g c =
    let s = c.flush.ensures in
    let d = c.self.invariant in
    let low : c.args.c < length c.self.inside.inlets.items = omega (arith, c.requires, ap clients_of c.self.view_is) in
    let i = c.index_mut-2.result.now in
    let b = c.index_mut.result.now in
    let call = flush_call g.I.Inlet.kind c.args.c c.flush.result c.self.inside.facility c.self.inside.inlets.items
    c.self.inside.backlogs.items i c.flush.new.inlet b c.flush.new.self d low c.index_mut-2.ensures.value c.index_mut.ensures.value
    s.given s.left in
    let first = Flushed c.args.c c.flush.result in
    let inlets = slice_set c.self.inside.inlets.items c.args.c c.flush.new.inlet in
    let backlogs = slice_set c.self.inside.backlogs.items c.args.c c.flush.new.self in
    desk_handed g.I.Inlet.kind first c.self.inside.facility c.self.inside.facility c.self.inside.facility
    c.self.inside.inlets.items inlets c.self.inside.backlogs.items backlogs backlogs
    (client_quiet g.I.Inlet.kind c.args.c first c.self.inside.facility c.self.inside.facility c.self.inside.inlets.items
    c.self.inside.backlogs.items i c.flush.new.inlet b c.flush.new.self call d low c.index_mut-2.ensures.value
    c.index_mut.ensures.value d.nothing_waits)

pub returns-clause-report : goal.returns-clause-report
returns-clause-report g c =
    let s = c.flush.ensures in
    let d = c.self.invariant in
    let low : c.args.c < length c.self.inside.inlets.items = omega (arith, c.requires, ap clients_of c.self.view_is) in
    let i = c.index_mut-2.result.now in
    let b = c.index_mut.result.now in
    let call = flush_call g.I.Inlet.kind c.args.c c.flush.result c.self.inside.facility c.self.inside.inlets.items
    c.self.inside.backlogs.items i c.flush.new.inlet b c.flush.new.self d low c.index_mut-2.ensures.value c.index_mut.ensures.value
    s.given s.left in
    let first = Flushed c.args.c c.flush.result in
    let inlets = slice_set c.self.inside.inlets.items c.args.c c.flush.new.inlet in
    let backlogs = slice_set c.self.inside.backlogs.items c.args.c c.flush.new.self in
    let new = desk_of c.self.inside.facility inlets backlogs in
    subst (λ (x : DeskState g.row.I.Denot). ReportHolds g.I.Inlet.kind (first ∷ []) x new) c.self.view_is
    (report_handed g.I.Inlet.kind first c.self.inside.facility c.self.inside.facility c.self.inside.facility
    c.self.inside.inlets.items inlets c.self.inside.backlogs.items backlogs backlogs
    (client_quiet g.I.Inlet.kind c.args.c first c.self.inside.facility c.self.inside.facility c.self.inside.inlets.items
    c.self.inside.backlogs.items i c.flush.new.inlet b c.flush.new.self call d low c.index_mut-2.ensures.value
    c.index_mut.ensures.value d.nothing_waits))

pub returns-clause-flushes : goal.returns-clause-flushes
returns-clause-flushes g c =
    let flushed = c.flush.ensures in
    let low : c.args.c < length c.self.inside.inlets.items = omega (arith, c.requires, ap clients_of c.self.view_is) in
    let new = desk_of c.self.inside.facility (slice_set c.self.inside.inlets.items c.args.c c.flush.new.inlet)
    (slice_set c.self.inside.backlogs.items c.args.c c.flush.new.self) in
    subst (λ (d : DeskState g.row.I.Denot). FlushesClient g.I.Inlet.kind c.args.c c.flush.result d new) c.self.view_is
    (FlushesClient-one g.I.Inlet.kind c.args.c c.flush.result c.self.inside.facility c.self.inside.inlets.items c.self.inside.backlogs.items
    c.index_mut-2.result.now c.flush.new.inlet c.index_mut.result.now c.flush.new.self
    c.self.invariant.kept.as_many low c.index_mut-2.ensures.value c.index_mut.ensures.value flushed.given flushed.left)
