-- Several ticks at once, and taking the next timer that is due by a tick.
use Rattle.std.specs.Prelude.{ℕ, ◌≡◌, ◌<◌, ◌≤◌, ◌⊎◌, [], length, Option, None}
use Rattle.timer_base.specs.declared.timer.Timer.{Timer}
use Rattle.timer_base.specs.WheelState.{WheelState, first_due, after_ticks, after_expiry}
use Rattle.timer_total.specs.Refusals.{left_until}
use Rattle.timer_total.specs.TimersState.{TimersState, Counting, counts_of_ticks}

-- at most `most` ticks were asked for and `passed` were passed, with nothing due before the last of them
pub record Passes (most passed : ℕ) (old new : WheelState) : Type 0 where
  pub at_most : passed ≤ most
  pub some : 0 < most → 0 < passed
  pub ticked : new ≡ after_ticks passed old
  pub quiet : (n : ℕ) → n < passed → (after_ticks n old).due ≡ []
  -- it stops early only if something is due, or the clock is at its end
  pub early : passed < most → (0 < length new.due) ⊎ (new.now ≡ new.last_tick)

-- an advance that was accepted: a tick is passed only if nothing is due and the clock is not at its end
pub record IsAdvanced (count : Counting) (most passed : ℕ) (old new : TimersState) : Type 0 where
  pub allowed : 0 < most → (old.wheel.due ≡ []) × (old.wheel.now < old.wheel.last_tick)
  pub passes : Passes most passed old.wheel new.wheel
  pub counted : new.counts ≡ counts_of_ticks count passed old.wheel new.wheel old.counts
  pub serial : new.last_serial ≡ old.last_serial

-- what is taken by this tick: ticks pass up to the first at which a timer is due, and the first one there is
-- taken; with none the clock has come to the tick, or to its end
pub record IsTakenBy (count : Counting) (tick : ℕ) (taken : Option Timer) (old new : TimersState) : Type 0 where
  -- how many ticks are passed; none after `tick` is
  pub passed : ℕ
  pub at_most : passed ≤ left_until tick old
  -- nothing is due before the last of them
  pub quiet : (n : ℕ) → n < passed → (after_ticks n old.wheel).due ≡ []
  pub first : taken ≡ first_due (after_ticks passed old.wheel)
  pub rest : new.wheel ≡ after_expiry (after_ticks passed old.wheel)
  pub counted : new.counts ≡ counts_of_ticks count passed old.wheel (after_ticks passed old.wheel) old.counts
  pub serial : new.last_serial ≡ old.last_serial
  pub whole : taken ≡ None → (passed ≡ left_until tick old) ⊎ (new.wheel.now ≡ new.wheel.last_tick)
