use Rattle.std.proofs.Common.{[], Err, ◌∙◌, ap, sym, subst, append-nil, rules}
use Rattle.timer_script.specs.Fault.{serve_fault}
use Rattle.timer_script.specs.Service.{HasSentText, HasSentPart, HasServedPeer}
use Rattle.timer_script.proofs.Results.{passed_on}
use Rattle.timer_script.proofs.CutterLemmas.{ended_seen}
use Rattle.timer_script.proofs.ServicePieces.{so_some}
use Rattle.timer_script.proofs.ServiceLemmas.{piece_lost, bad_at, unstopped, end_unsent, end_served}
use Rattle.timer_script.proofs.service.end_stream.Goals as goal

pub returns-in_default : goal.returns-in_default
returns-in_default g c = λ o before start sound h.
    piece_lost h.came [] _ h (append-nil h.came) h.so_far c.in_default.ensures.unreported c.requires.good

pub returns-in-Some : goal.returns-in-Some
returns-in-Some g c = λ o before start sound h.
    bad_at h c.in-Ok.bad c.in-Some.line (record { peer = g.P.Peer.state c.args.peer.now; faults = c.end.new.faults }) _ c.in-Some.is
    (c.in-Ok.ensures.ended o start.faults h.came h.events h.taken) c.requires.good h.so_far

pub returns-in_default-write_end : goal.returns-in_default-write_end
returns-in_default-write_end g c = λ o before start sound h.
    let ended = unstopped _ o start.faults c.end.new.faults h.came h.events c.in-Ok.bad c.in-None.is
    (c.in-Ok.ensures.ended o start.faults h.came h.events h.taken) in
    (record { came = h.came; events = h.events; passed = ended_seen ended; some = so_some h.so_far }, c.requires.good)

pub returns-in_err-send-in-None : goal.returns-in_err-send-in-None
returns-in_err-send-in-None g c = λ o before start sound h.
    let r = g.P.Peer.state c.send.new.peer in
    let ended = unstopped _ o start.faults c.end.new.faults h.came h.events c.in-Ok.bad c.in-None.is
    (c.in-Ok.ensures.ended o start.faults h.came h.events h.taken) in
    subst (HasServedPeer _ _ _) (sym (passed_on c.from_residual.result _ c.from_residual.ensures.1 ∙ ap (λ f. Err (serve_fault f)) c.in_err-send-in-None.ensures.fault))
    (end_unsent h ended c.requires.good c.requires.ended sound
    (subst (λ t. HasSentPart (g.P.Peer.state c.args.peer.now) t r) (search rules) c.in_err-send-in-None.ensures.part))

pub returns-in_ok-send-in-None : goal.returns-in_ok-send-in-None
returns-in_ok-send-in-None g c = λ o before start sound h.
    let r = g.P.Peer.state c.send.new.peer in
    let ended = unstopped _ o start.faults c.end.new.faults h.came h.events c.in-Ok.bad c.in-None.is
    (c.in-Ok.ensures.ended o start.faults h.came h.events h.taken) in
    end_served h ended c.requires.good c.requires.ended sound
    (subst (λ t. HasSentText (g.P.Peer.state c.args.peer.now) t r) (search rules) c.in_ok-send-in-None.ensures.ok)
