use Rattle.std.proofs.Common.{length, ap, arith}
use Rattle.std.proofs.lemmas.List.{length-drop}
use Rattle.timer_durable.proofs.peer.JournaledPeer.prepare.Goals as goal

-- there is something to give
pub returns-then-self-len-clause-ready : goal.returns-then-self-len-clause-ready
returns-then-self-len-clause-ready g c = λ some none.
    let s = c.args.self.now in
    absurd (omega (arith, c.if-self-len.true, c.len.ensures, ap length none, length-drop s.given s.lines.items))
