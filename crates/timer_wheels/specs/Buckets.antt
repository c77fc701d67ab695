-- The state that `Buckets` represents, and how its calls change the lists.
use Rattle.std.specs.Prelude.{◌≡◌, ◌<◌, ◌⊎◌, ℕ, map, Option, Some, None, MatchOption}
use Rattle.timer_base.specs.WellFormed.{with_room-well_formed}
use Rattle.timer_base.specs.WheelState.{IsWellFormed, with_room}
use Rattle.timer_links.specs.Lists.{with_row, without_key}
use Rattle.timer_wheels.specs.Types.{Handle, Timer, WheelState, Ghosts, KeyedLists, Row}
use Rattle.timer_wheels.specs.declared.buckets.Buckets.{Buckets}
use Rattle.timer_wheels.specs.BucketLists.{wheel_state}
use Rattle.timer_wheels.specs.BucketLaws.{wheel_state-well_formed}

-- the wheel whose buckets these are, but for its room
abbrev pub roomless_state : {N : Type 0} {kept : Ghosts N} → Buckets N kept → WheelState
roomless_state buckets =
    wheel_state buckets.slots buckets.last_tick buckets.tick buckets.last_serial buckets.links.lists

-- the wheel whose buckets these are
abbrev pub state_of : {N : Type 0} {kept : Ghosts N} → Buckets N kept → WheelState
state_of buckets = with_room buckets.links.room (roomless_state buckets)

-- the clock and the number of buckets are unchanged
pub record IsSameFrame {N : Type 0} {kept : Ghosts N} (old new : Buckets N kept) : Type 0 where
  pub last_tick : new.last_tick ≡ old.last_tick
  pub tick : new.tick ≡ old.tick
  pub slots : new.slots ≡ old.slots

-- the list of a timer that is started now: a bucket if its deadline is later, and list n if it is now
abbrev pub IsListOf : ℕ → ℕ → ℕ → ℕ → Type 0
IsListOf list n now deadline = ((list < n) × (now < deadline)) ⊎ ((list ≡ n) × (deadline ≡ now))

-- the timer that was removed, if one was found
abbrev pub taken_timer : Option (Timer × Option ℕ) → Option Timer
taken_timer None = None
taken_timer (Some r) = Some r.0

-- the new handle and the timer that was replaced, if one was found
abbrev pub replaced : Option ((Handle × Timer) × Option ℕ) → Option (Handle × Timer)
replaced None = None
replaced (Some r) = Some r.0

-- a timer at its place, as a row
abbrev pub row_at : ℕ → Timer → ℕ → Row
row_at place timer rounds = (place, record { timer = timer; rounds = rounds })

-- where a timer was found, the row under its key is removed; else the lists are unchanged
abbrev pub RemovesRow : {X : Type 0} → Option X → ℕ → KeyedLists → KeyedLists → Type 0
RemovesRow found key old new = MatchOption found (new ≡ old) (λ r. new ≡ map (without_key key) old)

-- where a timer was found, the row under its key is removed, and this row is pushed to the back of a list;
-- else the lists are unchanged
abbrev pub ReplacesRow : {X : Type 0} → Option X → ℕ → Row → KeyedLists → KeyedLists → Type 0
ReplacesRow found l row old new = MatchOption found (new ≡ old) (λ r. new
    ≡ with_row l row (map (without_key row.0) old))

-- the invariant of the buckets implies that of every wheel
pub state_of-well_formed : {N : Type 0} {kept : Ghosts N} (buckets : Buckets N kept) → IsWellFormed (state_of buckets)
state_of-well_formed buckets =
    with_room-well_formed buckets.links.room (roomless_state buckets)
    (wheel_state-well_formed buckets.slots buckets.last_tick buckets.tick buckets.last_serial
    buckets.links.lists buckets.sound)
