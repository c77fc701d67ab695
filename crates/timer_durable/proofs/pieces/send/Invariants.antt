use Rattle.std.proofs.Common.{◌≡◌, ◌≤◌, ◌-◌, ◌++◌, length, take}
use Rattle.std.specs.Io.KnownBytes.{Appends}
use Rattle.timer_script.specs.Service.{gone_of}
use Rattle.timer_durable.proofs.pieces.send.Given as goal

abbrev pub invariant-loop-written : goal.invariant-loop-written
invariant-loop-written g l = record {
  sent : Appends (g.P.Peer.state l.fn.peer).contents (g.P.Peer.state l.peer).contents (take l.written l.text);
  noted : gone_of l.calls.so_far ≡ gone_of l.fn.calls.so_far ++ take l.written l.text;
  within : l.written ≤ length l.text;
  remaining : (g.P.Peer.state l.peer).remaining ≡ (g.P.Peer.state l.fn.peer).remaining;
}

abbrev pub decreases-loop-written : goal.decreases-loop-written
decreases-loop-written g l = length l.text - l.written
