use Rattle.std.proofs.Common.{◌≡◌, ◌≤◌, ◌+◌, ◌-◌}
use Rattle.timer_base.specs.WheelState.{IsPassing}
use Rattle.timer_wheels.specs.Buckets.{state_of}
use Rattle.timer_wheels.specs.lazy.Files.{filings_left}
use Rattle.timer_wheels.proofs.lazy.files.Files.advance_far.Given as goal

abbrev pub invariant-loop-self : goal.invariant-loop-self
invariant-loop-self g l = record {
  later : l.first ≤ l.self.buckets.tick;
  at_most : l.self.buckets.tick ≤ l.end;
  passing : IsPassing (l.self.buckets.tick - l.first) (state_of l.initial.self.buckets) (state_of l.self.buckets);
  last_tick : l.self.buckets.last_tick ≡ l.initial.self.buckets.last_tick;
  starts : l.self.counts.starts ≡ l.initial.self.counts.starts;
  counted : l.self.counts.filings + filings_left l.self.table l.self.buckets
      ≤ l.initial.self.counts.filings + filings_left l.initial.self.table l.initial.self.buckets;
  table : l.self.table ≡ l.initial.self.table;
}

abbrev pub decreases-loop-self : goal.decreases-loop-self
decreases-loop-self g l = l.end - l.self.buckets.tick
