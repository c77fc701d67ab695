use Rattle.std.proofs.Common.{◌≡◌, ◌≤◌, ◌+◌, ◌-◌, ◌*◌, ℕ}
use Rattle.timer_base.specs.WheelState.{IsPassing, held_count}
use Rattle.timer_wheels.specs.smooth.Paces.{tick_bound}
use Rattle.timer_wheels.specs.smooth.SmoothWheel.{smooth_state, starts_of, moves_of, wheels_left, IsPacedFor}
use Rattle.timer_wheels.proofs.smooth.SmoothWheelWheel.advance.Given as goal

abbrev pub invariant-loop-self : goal.invariant-loop-self
invariant-loop-self g l = record {
  later : l.first ≤ l.self.wheels.buckets.tick;
  at_most : l.self.wheels.buckets.tick ≤ l.end;
  passing : IsPassing (l.self.wheels.buckets.tick - l.first) (smooth_state l.initial.self) (smooth_state l.self);
  last_tick : l.self.wheels.buckets.last_tick ≡ l.initial.self.wheels.buckets.last_tick;
  held : held_count (smooth_state l.self) ≡ held_count (smooth_state l.initial.self);
  bound : (n : ℕ) → held_count (smooth_state l.initial.self) ≤ n → IsPacedFor n l.initial.self → moves_of l.self
      ≤ moves_of l.initial.self + (l.self.wheels.buckets.tick - l.first) * tick_bound n;
  starts : starts_of l.self ≡ starts_of l.initial.self;
  counted : moves_of l.self + wheels_left l.self ≡ moves_of l.initial.self + wheels_left l.initial.self;
  paced : (n : ℕ) → held_count (smooth_state l.initial.self) ≤ n → IsPacedFor n l.initial.self → IsPacedFor n l.self;
}

abbrev pub decreases-loop-self : goal.decreases-loop-self
decreases-loop-self g l = l.end - l.self.wheels.buckets.tick
