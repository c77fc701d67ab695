use Rattle.std.proofs.Common.{◌≡◌, ◌+◌, ◌≤◌, drop}
use Rattle.timer_durable.specs.Answers.{lines_in}
use Rattle.timer_durable.proofs.Sifting.{sift, begun_by}
use Rattle.timer_durable.proofs.replay.count_answers.Given as goal

abbrev pub invariant-loop-byte : goal.invariant-loop-byte
invariant-loop-byte l = record {
  counted : l.count + lines_in (sift l.line (drop l.byte-index l.text)) ≡ lines_in (sift l.fn.begun l.text);
  begun : begun_by l.line (drop l.byte-index l.text) ≡ begun_by l.fn.begun l.text;
  few : l.count ≤ l.byte-index;
}
