use Rattle.std.proofs.Common.{◌∙◌, ◌||◌, true, false, ap, subst, take_all, arith, eq-eqb, ne_eqb, length, ◌-◌}
use Rattle.std.proofs.lemmas.List.{take_rest, length-drop}
use Rattle.timer_script.specs.Service.{HasWritten}
use Rattle.timer_script.proofs.PeerLemmas.{written_none, written_more, written_failed, written_flush, sent_all}
use Rattle.timer_script.proofs.service.send.Goals as goal

pub loop-written-init : goal.loop-written-init
loop-written-init g c = record { sent = written_none (g.P.Peer.state c.args.peer.now); good = c.requires }

pub returns-in_default-clause-part : goal.returns-in_default-clause-part
returns-in_default-clause-part g c =
    let i = c.loop-written.invariant in
    record {
      count = c.loop-written.written;
      written = written_failed _ _ _ _ _ _ i.sent c.in_default.ensures;
      failed = c.in_default.ensures.failed ∙ ap (λ b. b || true) i.good;
    }

pub returns-then-n-eq0-clause-part : goal.returns-then-n-eq0-clause-part
returns-then-n-eq0-clause-part g c =
    let i = c.loop-written.invariant in
    record {
      count = _;
      written = written_more _ _ _ c.args.text.now c.loop-written.written c.in-Ok.n i.sent c.in-Ok.ensures;
      failed = simp (
        i.good,
        eq-eqb c.in-Ok.n 0 c.if-n-eq0.true,
        take_rest,
        length-drop,
        ne_eqb (length c.args.text.now - c.loop-written.written) 0 (λ e. omega arith),
      ) at c.in-Ok.ensures.failed;
    }

pub loop-written-preserved : goal.loop-written-preserved
loop-written-preserved g c =
    let i = c.loop-written.invariant in
    record {
      sent = written_more _ _ _ c.args.text.now c.loop-written.written c.in-Ok.n i.sent c.in-Ok.ensures;
      good = simp (i.good, ne_eqb c.in-Ok.n 0 c.if-n-eq0.false) at c.in-Ok.ensures.failed;
    }

pub returns-in-Ok-flush-clause-ok : goal.returns-in-Ok-flush-clause-ok
returns-in-Ok-flush-clause-ok g c =
    let i = c.loop-written.invariant in
    let whole = subst (λ t. HasWritten (g.P.Peer.state c.args.peer.now) t (g.P.Peer.state c.loop-written.peer))
    (take_all c.loop-written.written c.args.text.now c.loop-written-test.false) i.sent in
    sent_all _ _ _ c.args.text.now _ whole c.in-Ok-flush.ensures (c.in-Ok-flush.ensures.failed ∙ ap (λ b. b || false) i.good)

pub returns-in-Err-clause-part : goal.returns-in-Err-clause-part
returns-in-Err-clause-part g c =
    let i = c.loop-written.invariant in
    record {
      count = c.loop-written.written;
      written = written_flush _ _ _ _ _ i.sent c.in-Err.ensures;
      failed = c.in-Err.ensures.failed ∙ ap (λ b. b || true) i.good;
    }
