use Rattle.std.proofs.Common.{◌≡◌, ◌-◌, length, take, false}
use Rattle.timer_script.specs.Service.{HasWritten}
use Rattle.timer_script.proofs.service.send.Given as goal

abbrev pub invariant-loop-written : goal.invariant-loop-written
invariant-loop-written g l = record {
  sent : HasWritten (g.P.Peer.state l.fn.peer) (take l.written l.text) (g.P.Peer.state l.peer);
  good : (g.P.Peer.state l.peer).write_failed ≡ false;
}

abbrev pub decreases-loop-written : goal.decreases-loop-written
decreases-loop-written g l = length l.text - l.written
