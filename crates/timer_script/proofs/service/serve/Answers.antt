use Rattle.std.proofs.Common.{◌≡◌, ◌≤◌, ◌++◌, ◌∙◌, ◌||◌, true, [], length, take, ap, refl, sym, subst, arith, rules, length-append}
use Rattle.std.proofs.lemmas.List.{length-take}
use Rattle.std.specs.Io.KnownBytes.{IsAtEnd}
use Rattle.timer_facility.specs.State.{IsSound}
use Rattle.timer_script.specs.Service.{server_with, HasAnsweredSoFar, HasServedPeer}
use Rattle.timer_script.proofs.Results.{passed_on}
use Rattle.timer_script.proofs.CutterLemmas.{taken_none}
use Rattle.timer_script.proofs.ServicePieces.{so_none, so_more}
use Rattle.timer_script.proofs.ServiceLemmas.{after_told, untold, served_nothing, read_failed, turn_read, piece_lost, piece_stopped, bad_at, unstopped}
use Rattle.timer_script.proofs.service.serve.Goals as goal

-- nothing was read or written
pub returns-in_default : goal.returns-in_default
returns-in_default g c = served_nothing (server_with c.args.on_bad (g.D.Decorator.adds c.args.decorator.now) c.args.player g.F.Write.contents)
    (g.P.Peer.state c.args.peer.now) c.args.faults.now c.requires.good

pub loop-turned-init : goal.loop-turned-init
loop-turned-init g c =
    let e = c.new-cutter.ensures in
    let o = c.args.on_bad in
    let A = g.D.Decorator.adds c.args.decorator.now in
    let before = c.args.player in
    let p = g.P.Peer.state c.args.peer.now in
    record {
      so = record {
        came = [];
        events = [];
        taken = taken_none o g.F.Write.contents c.args.faults.now c.new-cutter.result e.on_bad e.held e.number e.clean;
        so_far = subst (HasAnsweredSoFar o A before [] [] p p) (sym c.new-session.ensures) (so_none o A before p);
      };
      many = omega arith;
      good = c.requires.good;
      room = c.in-Ok.ensures.len;
    }

pub returns-in_err-tell_state : goal.returns-in_err-tell_state
returns-in_err-tell_state g c =
    let i = c.loop-turned.invariant in
    subst (HasServedPeer _ _ _) (sym (passed_on c.from_residual.result _ c.from_residual.ensures.1))
    (untold c.in_err-tell_state.field-0.0 (g.P.Peer.state c.tell_state.new.peer) i.so i.good c.in_err-tell_state.ensures.fault)

pub returns-in_default-read : goal.returns-in_default-read
returns-in_default-read g c =
    let i = c.loop-turned.invariant in
    let h = after_told c.tell_state.new.session.player i.so c.tell_state.ensures.player c.in_ok-tell_state.ensures.told in
    let e = c.in_default-read.ensures in
    let good = c.in_ok-tell_state.ensures.good in
    read_failed (g.P.Peer.state c.read.new.self) _ h i.room (search rules) (e.failed ∙ ap (λ b. b || true) good.reading)
    (e.writing ∙ good.writing) e

pub returns-in_default-take_in : goal.returns-in_default-take_in
returns-in_default-take_in g c =
    let i = c.loop-turned.invariant in
    let h = after_told c.tell_state.new.session.player i.so c.tell_state.ensures.player c.in_ok-tell_state.ensures.told in
    let read = turn_read _ _ c.deref.result.now i.room (search rules) c.deref.ensures.value h c.in-Ok-read.ensures in
    piece_lost _ (take c.in-Ok-read.n c.deref.result.now)
    (record { peer = g.P.Peer.state c.read.new.self; faults = c.take_in.new.faults }) h refl read c.in_default-take_in.ensures.unreported
    (search rules)

pub returns-in_err-serve_events : goal.returns-in_err-serve_events
returns-in_err-serve_events g c =
    let i = c.loop-turned.invariant in
    let h = after_told c.tell_state.new.session.player i.so c.tell_state.ensures.player c.in_ok-tell_state.ensures.told in
    let read = turn_read _ _ c.deref.result.now i.room (search rules) c.deref.ensures.value h c.in-Ok-read.ensures in
    let taken = c.in-Ok-take_in.ensures.taken c.args.on_bad c.args.faults.now h.came h.events h.taken in
    subst (HasServedPeer _ _ _) (sym (passed_on c.from_residual-in_err-serve_events.result _ c.from_residual-in_err-serve_events.ensures.1))
    (piece_stopped h c.in_err-serve_events.field-0.0 c.take_in.new.self c.in-Ok-take_in.bad
    (record { peer = g.P.Peer.state c.serve_events.new.peer; faults = c.take_in.new.faults }) c.deref-in-loop-turned.result.now _
    c.deref-in-loop-turned.ensures.value read taken c.in_err-serve_events.ensures.fault)

pub returns-in-Some : goal.returns-in-Some
returns-in-Some g c =
    let i = c.loop-turned.invariant in
    let h = after_told c.tell_state.new.session.player i.so c.tell_state.ensures.player c.in_ok-tell_state.ensures.told in
    let read = turn_read _ _ c.deref.result.now i.room (search rules) c.deref.ensures.value h c.in-Ok-read.ensures in
    let taken = c.in-Ok-take_in.ensures.taken c.args.on_bad c.args.faults.now h.came h.events h.taken in
    bad_at h c.in-Ok-take_in.bad c.in-Some.line
    (record { peer = g.P.Peer.state c.serve_events.new.peer; faults = c.take_in.new.faults }) _ c.in-Some.is taken
    c.in_ok-serve_events.ensures.good (so_more c.deref-in-loop-turned.ensures.value read c.in_ok-serve_events.ensures.served)

pub end_stream-requires-clause-ended : goal.end_stream-requires-clause-ended
end_stream-requires-clause-ended g c = subst IsAtEnd (sym c.in_ok-serve_events.ensures.served.written.remaining)
    (c.in-Ok-read.ensures.bytes.1 c.if-n-eq0.true (search rules))

pub returns-then-n-eq0 : goal.returns-then-n-eq0
returns-then-n-eq0 g c =
    let i = c.loop-turned.invariant in
    let h = after_told c.tell_state.new.session.player i.so c.tell_state.ensures.player c.in_ok-tell_state.ensures.told in
    let read = turn_read _ _ c.deref.result.now i.room (search rules) c.deref.ensures.value h c.in-Ok-read.ensures in
    let taken = c.in-Ok-take_in.ensures.taken c.args.on_bad c.args.faults.now h.came h.events h.taken in
    c.end_stream.ensures c.args.on_bad c.args.player (record { peer = g.P.Peer.state c.args.peer.now; faults = c.args.faults.now })
    (subst IsSound c.facility.ensures.state c.lemma_sound.ensures) (record {
      came = h.came ++ take c.in-Ok-read.n c.deref.result.now;
      events = h.events ++ c.take_in.new.self.events.items;
      taken = unstopped _ c.args.on_bad _ _ _ _ c.in-Ok-take_in.bad (search rules) taken;
      so_far = so_more c.deref-in-loop-turned.ensures.value read c.in_ok-serve_events.ensures.served;
    })

pub loop-turned-preserved : goal.loop-turned-preserved
loop-turned-preserved g c =
    let i = c.loop-turned.invariant in
    let h = after_told c.tell_state.new.session.player i.so c.tell_state.ensures.player c.in_ok-tell_state.ensures.told in
    let read = turn_read _ _ c.deref.result.now i.room (search rules) c.deref.ensures.value h c.in-Ok-read.ensures in
    let taken = c.in-Ok-take_in.ensures.taken c.args.on_bad c.args.faults.now h.came h.events h.taken in
    let n = c.in-Ok-read.n in
    let now = c.deref.result.now in
    let within : n ≤ length now = search rules in
    let some : n ≡ 0 → ⊥ = c.if-n-eq0.false in
    let many = i.many in
    record {
      so = record {
        came = h.came ++ take n now;
        events = h.events ++ c.take_in.new.self.events.items;
        taken = unstopped _ c.args.on_bad _ _ _ _ c.in-Ok-take_in.bad (search rules) taken;
        so_far = so_more c.deref-in-loop-turned.ensures.value read c.in_ok-serve_events.ensures.served;
      };
      many = omega (arith, length-append h.came (take n now), length-take n now, many, within, some);
      good = c.in_ok-serve_events.ensures.good;
      room = search rules;
    }

-- more bytes came than are counted
pub returns : goal.returns
returns g c =
    let h = c.loop-turned.invariant.so in
    let many = c.loop-turned.invariant.many in
    let all = c.loop-turned-test.false in (
      c.loop-turned.session.player,
      record { came = h.came; events = h.events; passed = h.taken.passed; so_far = h.so_far },
      omega arith,
      c.loop-turned.invariant.good,
    )
