-- The wheel state of a list of timers in order of starting: those after now are pending, and those at now are
-- due.
use Rattle.std.specs.List.{AllByRecursion}
use Rattle.std.proofs.Common.{◌<◌, ◌≤◌, ◌+◌, ◌-◌, ℕ, Bool, nat_lt, min, if◌then◌else◌, List, [], ◌∷◌, Option, Some, None, map, filter, length}
use Rattle.timer_base.specs.Types.{LAST, Timer}
use Rattle.timer_base.specs.Layout.{NoSlots}
use Rattle.timer_base.specs.Order.{in_order, itself}
use Rattle.timer_base.specs.Pending.{Entry, is_due_at}
use Rattle.timer_base.specs.WheelState.{WheelState}

-- the deadline is after the tick
abbrev pub is_after : ℕ → Timer → Bool
is_after tick t = nat_lt tick t.deadline

-- every timer has place 0
abbrev pub at_first_place : Timer → Entry
at_first_place t = record { place = 0; timer = t }

-- the wheel state of the timers, with no room
abbrev pub plain_state : ℕ → ℕ → List Timer → WheelState
plain_state now last_serial timers = record {
  layout = NoSlots;
  last_tick = LAST;
  now = now;
  pending = map at_first_place (in_order itself (filter (is_after now) timers));
  due = map at_first_place (filter (is_due_at now) timers);
  last_serial = last_serial;
  room = 0;
}

-- each deadline is after the tick
abbrev pub AreDueAfter : ℕ → List Timer → Type 0
AreDueAfter tick timers = AllByRecursion (λ t. tick < t.deadline) timers

-- how many of the timers are due
abbrev pub due_count : ℕ → List Timer → ℕ
due_count now timers = length (filter (is_due_at now) timers)

-- the earlier one of two deadlines, each of which may be missing
abbrev pub earliest : Option ℕ → Option ℕ → Option ℕ
earliest None second = second
earliest (Some first) None = Some first
earliest (Some first) (Some second) = Some (min first second)

-- the earliest deadline after the tick, if there is one
abbrev pub first_after : ℕ → List Timer → Option ℕ
first_after tick [] = None
first_after tick (t ∷ ts) = if is_after tick t then earliest (Some t.deadline)
    (first_after tick ts) else first_after tick ts

-- the deadline is not before now and not after the last tick, and the serial is at most the last one
pub record IsKept (now last_serial : ℕ) (t : Timer) : Type 0 where
  pub not_before : now ≤ t.deadline
  pub in_range : t.deadline ≤ LAST
  pub serial : t.serial ≤ last_serial

-- the clock jumps by this many ticks, at most by `most`: to the first deadline, or over ticks at which
-- nothing is due
pub record IsJump (now most passed : ℕ) (ts : List Timer) : Type 0 where
  pub some : 0 < passed
  pub at_most : passed ≤ most
  pub quiet : AreDueAfter (now + (passed - 1)) ts
  pub early : passed < most → 0 < length (filter (is_due_at (now + passed)) ts)
