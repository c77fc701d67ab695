-- A facility that is restored from the lines of a dump.
use Rattle.std.specs.Prelude.{◌≡◌, ◌<◌, ℕ, ◌+◌, ◌-◌, false, List, [], ◌++◌, length, map, replicate}
use Rattle.std.specs.List.{AllByRecursion}
use Rattle.timer_base.specs.Layout.{NoSlots}
use Rattle.timer_base.specs.Order.{in_order, itself, AreBelow}
use Rattle.timer_base.specs.Pending.{timers_of}
use Rattle.timer_base.specs.PlainState.{at_first_place}
use Rattle.timer_base.specs.WheelState.{WheelState}
use Rattle.timer_facility.specs.Types.{Timer, Handle, Config, Event, Out, Limits}
use Rattle.timer_facility.specs.Handles.{AreSorted, IsRecorded}
use Rattle.timer_facility.specs.Played.{IsRun}
use Rattle.timer_facility.specs.Run.{bare_outs, bare_state}
use Rattle.timer_facility.specs.Saved.{Saved}
use Rattle.timer_facility.specs.State.{FacilityState}

-- the limits of a facility with this configuration over a clock with this last tick
abbrev pub limits_of : Config → ℕ → Limits
limits_of config last = record { clients = config.clients; capacity = config.capacity; last_tick = last }

-- no timer was ever started in the wheel
pub record IsUnused (w : WheelState) : Type 0 where
  pub no_pending : w.pending ≡ []
  pub no_due : w.due ≡ []
  pub no_serial : w.last_serial ≡ 0

-- the state of a facility that is restored, without what a wheel chooses: clients that were not saved have the first
-- number
abbrev pub restored : Config → ℕ → Saved → FacilityState
restored config last v = record {
  capacity = config.capacity;
  last = last;
  layout = NoSlots;
  now = v.now;
  next_serial = v.next_serial;
  pending = map at_first_place (in_order itself v.timers);
  numbers = v.numbers ++ replicate (config.clients - length v.numbers) config.first_number;
  is_closed = v.is_closed;
  has_room = false;
}

-- the timers were started in a wheel, by serial, and have these handles
pub record AreStarted (old : WheelState) (ts : List Timer) (handles : List Handle) (new : WheelState) : Type 0 where
  pub pending_are : timers_of new.pending ≡ in_order itself ts
  pub rest_is : new ≡ record old { pending = new.pending; last_serial = new.last_serial }
  pub unused : (high : ℕ) → 0 < high → AreBelow high ts → new.last_serial < high
  pub sorted : AreSorted handles
  pub used : AllByRecursion (λ h. h.serial < new.last_serial + 1) handles
  pub each : AllByRecursion (IsRecorded handles) new.pending
  pub as_many : length handles ≡ length ts

-- the second facility answers every list of events as the first does, except for places
abbrev pub GoesOnAs : FacilityState → FacilityState → Type 0
GoesOnAs s t = (events : List Event) (outs others : List Out) (after end : FacilityState)
    → IsRun s events outs after → IsRun t events others end
    → (bare_outs outs ≡ bare_outs others) × (bare_state after ≡ bare_state end)

-- the facility has this configuration, over a clock with this last tick
pub record IsConfigured (config : Config) (last : ℕ) (s : FacilityState) : Type 0 where
  pub capacity_is : s.capacity ≡ config.capacity
  pub last_is : s.last ≡ last
  pub clients_are : length s.numbers ≡ config.clients
