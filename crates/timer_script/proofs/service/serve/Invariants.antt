use Rattle.std.proofs.Common.{◌≡◌, ◌≤◌, length, vec_len}
use Rattle.timer_script.specs.declared.service.TheConstants.{PIECE}
use Rattle.timer_script.specs.Service.{AreGood, HasServedSoFar, server_with}
use Rattle.timer_script.proofs.service.serve.Given as goal

-- each complete line that came and passed is answered, and each turn brought some bytes
abbrev pub invariant-loop-turned : goal.invariant-loop-turned
invariant-loop-turned g l = record {
  so : HasServedSoFar (server_with l.fn.on_bad (g.D.Decorator.adds l.decorator) l.fn.player g.F.Write.contents) l.cutter
      (record { peer = g.P.Peer.state l.fn.peer; faults = l.fn.faults }) (record { peer = g.P.Peer.state l.peer; faults = l.faults })
      l.session.player;
  many : l.turned ≤ length so.came;
  good : AreGood (g.P.Peer.state l.peer);
  room : vec_len l.piece ≡ PIECE;
}
