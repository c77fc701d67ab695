use Rattle.std.proofs.Common.{◌≡◌, ◌<◌, ℕ, get_or}
use Rattle.timer_desk_c.specs.declared.c_structs.CLine.{CLine}
use Rattle.timer_desk_c.specs.Frames.{HasNoLine}
use Rattle.timer_desk_c.proofs.placement.are_empty.Given as goal

-- nothing has changed, and none so far holds a line
abbrev pub invariant-loop-k : goal.invariant-loop-k
invariant-loop-k l = record {
  same : l.lines ≡ l.fn.lines;
  shut : (k : ℕ) (x : CLine) → k < l.k → HasNoLine (get_or l.fn.lines k x);
}
