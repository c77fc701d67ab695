use Rattle.std.proofs.Common.{◌≡◌, ◌≤◌, ◌+◌, ◌-◌}
use Rattle.timer_wheels.specs.smooth.Wheels.{next_len, potential_of, IsEarly, OthersStay}
use Rattle.timer_wheels.specs.Buckets.{state_of}
use Rattle.timer_wheels.specs.declared.table.Table.TheVariants.{Wide}
use Rattle.timer_wheels.proofs.smooth.wheels.Wheels.move_some.Given as goal

abbrev pub invariant-loop-moved : goal.invariant-loop-moved
invariant-loop-moved g l = record {
  state : state_of l.self.buckets ≡ state_of l.initial.self.buckets;
  tick : l.self.buckets.tick ≡ l.initial.self.buckets.tick;
  at_most : l.moved ≤ l.most;
  counted : l.moved + next_len Wide l.self.buckets l.wheel ≡ next_len Wide l.initial.self.buckets l.wheel;
  falls : potential_of Wide l.self.buckets + l.moved ≤ potential_of Wide l.initial.self.buckets;
  exact : IsEarly Wide l.initial.self.buckets l.wheel
      → potential_of Wide l.self.buckets + l.moved ≡ potential_of Wide l.initial.self.buckets;
  others : IsEarly Wide l.initial.self.buckets l.wheel
      → OthersStay Wide l.wheel l.initial.self.buckets l.self.buckets;
}

abbrev pub decreases-loop-moved : goal.decreases-loop-moved
decreases-loop-moved g l = l.most - l.moved
