use Rattle.std.proofs.Common.{◌≤◌, ◌-◌}
use Rattle.timer_wheels.specs.BucketLists.{row_timers, rows_below}
use Rattle.timer_wheels.specs.FirstDeadline.{IsLeastDeadline}
use Rattle.timer_wheels.proofs.lazy.files.Files.next_deadline.Given as goal

abbrev pub invariant-loop-list : goal.invariant-loop-list
invariant-loop-list g l = record {
  at_most : l.list ≤ l.count;
  least : IsLeastDeadline l.least (row_timers (rows_below l.list l.self.buckets.links.lists));
}

abbrev pub decreases-loop-list : goal.decreases-loop-list
decreases-loop-list g l = l.count - l.list
