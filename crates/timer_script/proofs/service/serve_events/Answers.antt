use Rattle.std.proofs.Common.{true, [], ◌∙◌, ◌+◌, ◌++◌, ap, sym, subst, append-nil, rules}
use Rattle.std.proofs.lemmas.List.{take_more, take_all}
use Rattle.timer_script.specs.Service.{HasAnsweredEvents, HasSentText}
use Rattle.timer_script.proofs.Results.{handed_on, true_false}
use Rattle.timer_script.proofs.PeerLemmas.{but_none, but_sent}
use Rattle.timer_script.proofs.ServicePieces.{answered_none, but_more, but_part, but_first, but_ended, but_as, some_of_read, stops_unsent}
use Rattle.timer_script.proofs.service.serve_events.Goals as goal

pub loop-event-init : goal.loop-event-init
loop-event-init g c =
    let s = c.args.session.now.player in
    let A = g.D.Decorator.adds c.args.decorator.now in
    record {
      sent = but_none (HasAnsweredEvents A s [] s) (g.P.Peer.state c.args.peer.now) c.clear.new.self.items
          (subst (HasAnsweredEvents A s [] s) (sym c.clear.ensures.items) (answered_none A s));
      good = c.requires;
      each = λ e. c.clear.ensures.items;
    }

pub returns-in_err-send-clause-fault : goal.returns-in_err-send-clause-fault
returns-in_err-send-clause-fault g c =
    let i = c.loop-event.invariant in
    let n = c.loop-event.event-index in
    let events = c.args.events.now in
    let text = c.answer_one.new.text.items in
    let fault = c.in_err-send.field-0.0 in
    handed_on _ c.from_residual.result fault c.from_residual.ensures.1 (stops_unsent fault c.in_err-send.ensures.fault
    (but_part _ text events n _ (take_more events n _ c.loop-event-test.true) i.sent (c.in_default.ensures.part _))
    c.deref.ensures.value c.in_err-send.ensures.part i.good.reading)

pub returns-in_default-clause-fault : goal.returns-in_default-clause-fault
returns-in_default-clause-fault g c =
    let i = c.loop-event.invariant in
    let n = c.loop-event.event-index in
    let events = c.args.events.now in
    let text = c.answer_one.new.text.items in
    let sent = subst (λ t. HasSentText (g.P.Peer.state c.loop-event.peer) t (g.P.Peer.state c.send.new.peer)) c.deref.ensures.value
    c.in_ok-send.ensures.ok in (
      but_sent text [] _ (sym (append-nil text))
          (but_part _ text events n _ (take_more events n _ c.loop-event-test.true) i.sent (c.in_default.ensures.part _))
          sent.written sent.flushed,
      record { reading = sent.written.reading ∙ i.good.reading; writing = sent.good },
    )

pub loop-event-preserved-then-not-each_line : goal.loop-event-preserved-then-not-each_line
loop-event-preserved-then-not-each_line g c =
    let i = c.loop-event.invariant in
    let n = c.loop-event.event-index in
    record {
      sent = but_more _ c.answer_one.new.text.items c.args.events.now n _ (take_more c.args.events.now n _ c.loop-event-test.true) i.sent
          c.in-Ok.ensures.whole;
      good = i.good;
      each = λ e. absurd (true_false _ e (search rules));
    }

pub returns-in_err-send-2-clause-fault : goal.returns-in_err-send-2-clause-fault
returns-in_err-send-2-clause-fault g c =
    let i = c.loop-event.invariant in
    let n = c.loop-event.event-index in
    let events = c.args.events.now in
    let text = c.answer_one.new.text.items in
    let fault = c.in_err-send-2.field-0.0 in
    handed_on _ c.from_residual-in_err-send-2.result fault c.from_residual-in_err-send-2.ensures.1
    (stops_unsent fault c.in_err-send-2.ensures.fault
    (but_first events (n + 1) (but_more _ text events n _ (take_more events n _ c.loop-event-test.true) i.sent c.in-Ok.ensures.whole))
    c.deref-in-loop-event.ensures.value c.in_err-send-2.ensures.part i.good.reading)

pub loop-event-preserved : goal.loop-event-preserved
loop-event-preserved g c =
    let i = c.loop-event.invariant in
    let n = c.loop-event.event-index in
    let events = c.args.events.now in
    let text = c.answer_one.new.text.items in
    let q = g.P.Peer.state c.loop-event.peer in
    let r = g.P.Peer.state c.send-in-loop-event.new.peer in
    let sent = subst (λ t. HasSentText q t r) c.deref-in-loop-event.ensures.value c.in_ok-send-2.ensures.ok in
    let all = but_more _ text events n _ (take_more events n _ c.loop-event-test.true) i.sent c.in-Ok.ensures.whole in
    record {
      sent = but_sent text _ true (sym (append-nil text) ∙ ap (λ t. text ++ t) (sym c.clear-in-loop-event.ensures.items)) all
          sent.written sent.flushed;
      good = record { reading = sent.written.reading ∙ i.good.reading; writing = sent.good };
      each = λ e. c.clear-in-loop-event.ensures.items;
    }

-- what comes after the read can't be added
pub returns-in_err-send-3-clause-fault : goal.returns-in_err-send-3-clause-fault
returns-in_err-send-3-clause-fault g c =
    let i = c.loop-event.invariant in
    let fault = c.in_err-send-3.field-0.0 in
    handed_on _ c.from_residual-in_err-send-3.result fault c.from_residual-in_err-send-3.ensures.1
    (stops_unsent fault c.in_err-send-3.ensures.fault (but_first c.args.events.now c.loop-event.event-index i.sent)
    (c.deref-in_default-end_read.ensures.value ∙ c.in_default-end_read.ensures.nothing) c.in_err-send-3.ensures.part i.good.reading)

pub returns-in_default-end_read-clause-fault : goal.returns-in_default-end_read-clause-fault
returns-in_default-end_read-clause-fault g c =
    let i = c.loop-event.invariant in
    let text = c.loop-event.text.items in
    let now = c.deref-in_default-end_read.ensures.value ∙ c.in_default-end_read.ensures.nothing in
    let sent = subst (λ t. HasSentText (g.P.Peer.state c.loop-event.peer) t (g.P.Peer.state c.send-in_default-end_read.new.peer)) now
    c.in_ok-send-3.ensures.ok in (
      but_sent text [] _ (sym (append-nil text)) (but_first c.args.events.now c.loop-event.event-index i.sent) sent.written sent.flushed,
      record { reading = sent.written.reading ∙ i.good.reading; writing = sent.good },
    )

pub returns-in_err-send-4-clause-fault : goal.returns-in_err-send-4-clause-fault
returns-in_err-send-4-clause-fault g c =
    let i = c.loop-event.invariant in
    let n = c.loop-event.event-index in
    let events = c.args.events.now in
    let fault = c.in_err-send-4.field-0.0 in
    handed_on _ c.from_residual-in_err-send-4.result fault c.from_residual-in_err-send-4.ensures.1
    (stops_unsent fault c.in_err-send-4.ensures.fault
    (but_as (but_ended _ c.end_read.new.text.items events n (take_all n events c.loop-event-test.false) i.sent c.in-Ok-end_read.ensures.whole)
    (some_of_read (g.D.Decorator.adds c.args.decorator.now) c.args.session.now.player c.loop-event.session.player events))
    c.deref-2.ensures.value c.in_err-send-4.ensures.part i.good.reading)

pub returns-clause-served : goal.returns-clause-served
returns-clause-served g c =
    let i = c.loop-event.invariant in
    let n = c.loop-event.event-index in
    let events = c.args.events.now in
    let text = c.end_read.new.text.items in
    let sent = subst (λ t. HasSentText (g.P.Peer.state c.loop-event.peer) t (g.P.Peer.state c.send-2.new.peer)) c.deref-2.ensures.value
    c.in_ok-send-4.ensures.ok in
    but_sent text [] true (sym (append-nil text))
    (but_ended _ text events n (take_all n events c.loop-event-test.false) i.sent c.in-Ok-end_read.ensures.whole) sent.written sent.flushed
