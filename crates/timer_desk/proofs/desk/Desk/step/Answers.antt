use Rattle.std.proofs.Common.{◌<◌, refl, ◌++◌, map, ◌∙◌, ap, subst, arith, length}
use Rattle.std.specs.Prelude.{slice_set}
use Rattle.timer_facility.specs.Facility.{FacilityView}
use Rattle.timer_desk.specs.declared.report.Done.TheVariants.{Served, Noticed}
use Rattle.timer_desk.specs.Desk.{DeskState, clients_of, InRange, AddsStep}
use Rattle.timer_desk.proofs.DeskLemmas.{desk_of, desk_event, adds_event, serve_call, kept_client, client_handed, desk_handed, adds_handed}
use Rattle.timer_desk.proofs.desk.Desk.step.Goals as goal

pub hand_out_and_report-requires : goal.hand_out_and_report-requires
hand_out_and_report-requires g c =
    let s = c.serve-served.ensures in
    let d = c.self.invariant in
    let client = c.in-Serve.client in
    let within : client < clients_of c.args.self.now = subst (λ st. InRange (clients_of c.args.self.now) st) c.in-Serve.is c.requires.client in
    let low : client < length c.self.inside.inlets.items = omega (arith, within, ap clients_of c.self.view_is) in
    let i = c.index_mut-in-Serve.result.now in
    let b = c.index_mut.result.now in
    let call = serve_call g.I.Inlet.kind client c.serve-served.result c.self.inside.facility c.serve-served.new.facility i
    c.serve-served.new.inlet b c.serve-served.new.self s.line s.account s.serve s.member s.notices s.clients s.room s.adds in
    let kept = kept_client g.I.Inlet.kind client (Served client c.serve-served.result) c.self.inside.facility c.serve-served.new.facility
    c.self.inside.inlets.items c.self.inside.backlogs.items i c.serve-served.new.inlet b c.serve-served.new.self call d low
    c.index_mut-in-Serve.ensures.value c.index_mut.ensures.value in
    let pending = ap (λ (x : DeskState g.row.I.Denot). length x.facility.pending) c.self.view_is in record {
      room = kept.room;
      clients = omega (arith, s.clients, d.kept.as_many, d.clients, c.self.inside.backlogs.ok);
      report = omega (arith, s.adds.all, pending, c.requires.room, c.push_reserved.ensures.len, c.push_reserved.ensures.capacity);
    }

pub invariant_of-self : goal.invariant_of-self
invariant_of-self g c =
    let s = c.serve-served.ensures in
    let d = c.self.invariant in
    let client = c.in-Serve.client in
    let within : client < clients_of c.args.self.now = subst (λ st. InRange (clients_of c.args.self.now) st) c.in-Serve.is c.requires.client in
    let low : client < length c.self.inside.inlets.items = omega (arith, within, ap clients_of c.self.view_is) in
    let i = c.index_mut-in-Serve.result.now in
    let b = c.index_mut.result.now in
    let first = Served client c.serve-served.result in
    let handed = c.hand_out_and_report in
    let call = serve_call g.I.Inlet.kind client c.serve-served.result c.self.inside.facility c.serve-served.new.facility i
    c.serve-served.new.inlet b c.serve-served.new.self s.line s.account s.serve s.member s.notices s.clients s.room s.adds in
    desk_handed g.I.Inlet.kind first c.self.inside.facility c.serve-served.new.facility handed.new.facility
    c.self.inside.inlets.items (slice_set c.self.inside.inlets.items client c.serve-served.new.inlet) c.self.inside.backlogs.items
    (slice_set c.self.inside.backlogs.items client c.serve-served.new.self) handed.new.backlogs.items
    (client_handed g.I.Inlet.kind client first c.self.inside.facility c.serve-served.new.facility handed.new.facility
    c.self.inside.inlets.items c.self.inside.backlogs.items handed.new.backlogs.items i c.serve-served.new.inlet b
    c.serve-served.new.self call d low c.index_mut-in-Serve.ensures.value c.index_mut.ensures.value handed.ensures.facility
    handed.ensures.noted)

pub returns-in-Serve : goal.returns-in-Serve
returns-in-Serve g c =
    let s = c.serve-served.ensures in
    let d = c.self.invariant in
    let client = c.in-Serve.client in
    let within : client < clients_of c.args.self.now = subst (λ st. InRange (clients_of c.args.self.now) st) c.in-Serve.is c.requires.client in
    let low : client < length c.self.inside.inlets.items = omega (arith, within, ap clients_of c.self.view_is) in
    let i = c.index_mut-in-Serve.result.now in
    let b = c.index_mut.result.now in
    let first = Served client c.serve-served.result in
    let handed = c.hand_out_and_report in
    let push = c.push_reserved.ensures in
    let before = c.args.report.now.items in
    let after = handed.new.report.items in
    let inlets = slice_set c.self.inside.inlets.items client c.serve-served.new.inlet in
    let between = slice_set c.self.inside.backlogs.items client c.serve-served.new.self in
    let new = desk_of handed.new.facility inlets handed.new.backlogs.items in
    let call = serve_call g.I.Inlet.kind client c.serve-served.result c.self.inside.facility c.serve-served.new.facility i
    c.serve-served.new.inlet b c.serve-served.new.self s.line s.account s.serve s.member s.notices s.clients s.room s.adds in
    let added = handed.ensures.report ∙ ap (λ report. report ++ map (λ n. Noticed n) c.serve-served.new.facility.waiting) push.items in
    let pending = ap (λ (x : DeskState g.row.I.Denot). length x.facility.pending) c.self.view_is in
    let left = ap (λ (v : FacilityView). length v.state.pending) handed.ensures.facility in record {
      adds = subst (λ (x : DeskState g.row.I.Denot). AddsStep g.I.Inlet.kind c.args.step before after x new) c.self.view_is
          (adds_handed g.I.Inlet.kind first c.self.inside.facility c.serve-served.new.facility handed.new.facility
          c.self.inside.inlets.items inlets c.self.inside.backlogs.items between handed.new.backlogs.items
          (client_handed g.I.Inlet.kind client first c.self.inside.facility c.serve-served.new.facility handed.new.facility
          c.self.inside.inlets.items c.self.inside.backlogs.items handed.new.backlogs.items i c.serve-served.new.inlet b
          c.serve-served.new.self call d low c.index_mut-in-Serve.ensures.value c.index_mut.ensures.value handed.ensures.facility
          handed.ensures.noted) c.args.step before after (rw c.in-Serve.is refl) added);
      capacity = handed.ensures.capacity ∙ push.capacity;
      room = omega (arith, s.adds.all, pending, left, handed.ensures.len, push.len);
    }

pub invariant_of-self-in_default : goal.invariant_of-self-in_default
invariant_of-self-in_default g c =
    let made = c.make_event-done in
    let handed = c.hand_out_and_report-in_default in
    desk_event g.I.Inlet.kind made.result c.self-in_default.inside.facility made.new.facility handed.new.facility
    c.self-in_default.inside.inlets.items c.self-in_default.inside.backlogs.items handed.new.backlogs.items made.ensures.event
    c.self-in_default.invariant handed.ensures.facility handed.ensures.noted

pub returns-in_default : goal.returns-in_default
returns-in_default g c =
    let made = c.make_event-done in
    let handed = c.hand_out_and_report-in_default in
    let push = c.push_reserved-in_default.ensures in
    let old = c.self-in_default.inside in
    let before = c.args.report.now.items in
    let after = handed.new.report.items in
    let new = desk_of handed.new.facility old.inlets.items handed.new.backlogs.items in
    let added = handed.ensures.report ∙ ap (λ report. report ++ map (λ n. Noticed n) made.new.facility.waiting) push.items in
    let pending = ap (λ (d : DeskState g.row.I.Denot). length d.facility.pending) c.self-in_default.view_is in
    let left = ap (λ (v : FacilityView). length v.state.pending) handed.ensures.facility in
    let all = made.ensures.event.all in record {
      adds = subst (λ (d : DeskState g.row.I.Denot). AddsStep g.I.Inlet.kind c.args.step before after d new) c.self-in_default.view_is
          (adds_event g.I.Inlet.kind made.result old.facility made.new.facility handed.new.facility
          old.inlets.items old.backlogs.items handed.new.backlogs.items made.ensures.event c.self-in_default.invariant
          handed.ensures.facility handed.ensures.noted c.args.step before after made.ensures.step added);
      capacity = handed.ensures.capacity ∙ push.capacity;
      room = omega (arith, all, pending, left, handed.ensures.len, push.len);
    }
