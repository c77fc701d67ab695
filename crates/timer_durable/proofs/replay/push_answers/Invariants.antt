use Rattle.std.proofs.Common.{◌≡◌, ◌++◌, length, take, drop}
use Rattle.timer_durable.specs.Answers.{after_lines}
use Rattle.timer_durable.proofs.Sifting.{sift}
use Rattle.timer_durable.proofs.replay.push_answers.Given as goal

-- what is appended and what is still to be are all of it
abbrev pub invariant-loop-byte : goal.invariant-loop-byte
invariant-loop-byte l = record {
  all : l.to.items ++ after_lines l.left (sift l.line (drop l.byte-index l.text)) ≡ l.fn.to.items ++ after_lines l.fn.skipped (sift l.fn.begun l.text);
  kept : take (length l.fn.to.items) l.to.items ≡ l.fn.to.items;
}
