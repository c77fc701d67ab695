use Rattle.std.proofs.Common.{◌≡◌, ◌≤◌, ◌+◌, ◌-◌, ◌^◌, length, min}
use Rattle.timer_script.proofs.CutterLines.{HasTakenLines}
use Rattle.timer_script.proofs.cutter.Cutter.take_good_lines.Given as goal

-- lines were taken, and are counted by their events
abbrev pub invariant-loop-rest : goal.invariant-loop-rest
invariant-loop-rest l = record {
  taken : HasTakenLines l.fn.self
      (record l.self { number = min (l.fn.self.number + (length l.self.events.items - l.before)) (2 ^ 64 - 1) }) l.bytes l.rest;
  within : l.before ≤ length l.self.events.items;
  same : l.self.number ≡ l.fn.self.number;
}

abbrev pub decreases-loop-rest : goal.decreases-loop-rest
decreases-loop-rest l = length l.rest
