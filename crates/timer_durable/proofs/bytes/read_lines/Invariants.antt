use Rattle.std.proofs.Common.{◌≡◌, ◌⊎◌, ◌-◌, ◌≤◌, length, drop, slice_index}
use Rattle.timer_script.specs.Script.{HasNoFeed}
use Rattle.timer_durable.specs.declared.bytes.TheConstants.{LONGEST}
use Rattle.timer_durable.specs.Durable.{HasReadOn}
use Rattle.timer_durable.proofs.bytes.read_lines.Given as goal

abbrev pub invariant-loop-whole : goal.invariant-loop-whole
invariant-loop-whole g l = record {
  read : HasReadOn (g.P.Peer.state l.fn.peer) l.fn.bytes.items (g.P.Peer.state l.peer) l.bytes.items;
  within : l.whole ≤ length l.bytes.items;
  ends : (l.whole ≡ 0) ⊎ (slice_index l.bytes.items (l.whole - 1) ≡ 10);
  rest : HasNoFeed (drop l.whole l.bytes.items);
}

abbrev pub decreases-loop-whole : goal.decreases-loop-whole
decreases-loop-whole g l = LONGEST - length l.bytes.items
