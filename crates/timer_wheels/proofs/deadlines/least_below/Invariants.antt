use Rattle.timer_wheels.specs.BucketLists.{row_timers, rows_below}
use Rattle.timer_wheels.specs.FirstDeadline.{IsLeastDeadline}
use Rattle.timer_wheels.proofs.deadlines.least_below.Given as goal

abbrev pub invariant-loop-list : goal.invariant-loop-list
invariant-loop-list g l = IsLeastDeadline l.least (row_timers (rows_below l.list l.links.lists))
