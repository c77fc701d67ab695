use Rattle.std.proofs.Common.{◌≤◌, length, drop}
use Rattle.timer_script.specs.Script.{HasNoFeed}
use Rattle.timer_durable.proofs.bytes.whole_len.Given as goal

abbrev pub invariant-loop-len : goal.invariant-loop-len
invariant-loop-len l = record {
  within : l.len ≤ length l.bytes;
  rest : HasNoFeed (drop l.len l.bytes);
}

abbrev pub decreases-loop-len : goal.decreases-loop-len
decreases-loop-len l = l.len
