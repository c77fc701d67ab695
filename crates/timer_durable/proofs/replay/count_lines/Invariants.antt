use Rattle.std.proofs.Common.{◌≡◌, ◌+◌, ◌≤◌, drop}
use Rattle.timer_durable.specs.Answers.{lines_in}
use Rattle.timer_durable.proofs.replay.count_lines.Given as goal

abbrev pub invariant-loop-byte : goal.invariant-loop-byte
invariant-loop-byte l = record {
  counted : l.count + lines_in (drop l.byte-index l.text) ≡ lines_in l.text;
  few : l.count ≤ l.byte-index;
}
