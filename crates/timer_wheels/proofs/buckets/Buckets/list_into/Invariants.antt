use Rattle.std.proofs.Common.{◌≡◌, ◌≤◌, length}
use Rattle.std.specs.Prelude.{vec_capacity}
use Rattle.timer_wheels.specs.BucketLists.{row_timers, rows_below}
use Rattle.timer_wheels.proofs.buckets.Buckets.list_into.Given as goal

-- the timers of the buckets so far, in a vector that has room for those of all buckets
abbrev pub invariant-loop-bucket : goal.invariant-loop-bucket
invariant-loop-bucket g l = (l.timers.items ≡ row_timers (rows_below l.bucket l.self.links.lists))
    × (length (rows_below l.self.slots l.self.links.lists) ≤ vec_capacity l.timers)
    × (vec_capacity l.initial.timers ≤ vec_capacity l.timers)
