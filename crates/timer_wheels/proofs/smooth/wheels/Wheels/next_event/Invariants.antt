use Rattle.std.proofs.Common.{◌<◌, ◌≤◌, ◌-◌}
use Rattle.timer_wheels.specs.BucketLists.{EachRow}
use Rattle.timer_wheels.specs.smooth.WakeUps.{IsEventFrom}
use Rattle.timer_wheels.specs.Tables.{radices}
use Rattle.timer_wheels.specs.declared.table.Table.TheVariants.{Wide}
use Rattle.timer_wheels.proofs.smooth.wheels.Wheels.next_event.Given as goal

abbrev pub invariant-loop-wheel : goal.invariant-loop-wheel
invariant-loop-wheel g l = record {
  above : 0 < l.wheel;
  most : l.wheel ≤ l.count;
  later : l.self.buckets.tick < l.event;
  at_most : l.event ≤ l.end;
  events : EachRow (IsEventFrom (radices Wide) l.event l.wheel) l.self.buckets.slots l.self.buckets.links.lists;
}

abbrev pub decreases-loop-wheel : goal.decreases-loop-wheel
decreases-loop-wheel g l = l.count - l.wheel
