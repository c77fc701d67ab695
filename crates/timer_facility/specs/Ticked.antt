-- Many ticks at once.
use Rattle.std.specs.Prelude.{◌≡◌, ◌<◌, ◌≤◌, ◌-◌, ℕ, min, List, [], None, length, replicate}
use Rattle.timer_facility.specs.State.{FacilityState, Tick}
use Rattle.timer_facility.specs.Verdict.{tick_refusal}
use Rattle.timer_facility.specs.Run.{PlacedEvent, history, state_after, run, notices}
use Rattle.timer_facility.specs.Facility.{FacilityView, view_after}

-- one tick; its place is never read
abbrev pub a_tick : PlacedEvent
a_tick = record { event = Tick; place = 0 }

-- `n` ticks
abbrev pub ticks : ℕ → List PlacedEvent
ticks n = replicate n a_tick

-- at most `limit` ticks were asked for and `passed` were passed: that many single ticks, each of them
-- accepted
pub record AreTicked (limit passed : ℕ) (s : FacilityState) (new : FacilityView) : Type 0 where
  pub some : 1 ≤ passed
  pub at_most : passed ≤ min limit (s.last - s.now)
  pub accepted : (n : ℕ) → n < passed → tick_refusal (state_after s (ticks n)) ≡ None
  pub ticked : new ≡ view_after (run s (ticks passed))
  -- nothing was handed out before the last of them
  pub quiet : (n : ℕ) → n < passed → notices (history s (ticks n)) ≡ []
  -- it stops early only if something waits
  pub early : passed < min limit (s.last - s.now) → 0 < length new.waiting
