-- An iteration by timers_each, between whose calls others may come: what it finds, and how often.
use Rattle.std.specs.Prelude.{ℕ, ◌==◌, ◌&&◌, List, [], ◌∷◌, filter}
use Rattle.std.specs.List.{AllByRecursion}
use Rattle.timer_base.specs.WheelState.{WheelState}
use Rattle.timer_wheels.specs.HeldPlaces.{IsHeld}
use Rattle.timer_c.specs.declared.layout.CHandle.{CHandle}
use Rattle.timer_c.specs.declared.layout.Expired.{Expired}
use Rattle.timer_c.specs.Outcomes.{base_handle, IsVisited, IsAloneAt, IsAllVisited}

-- a call of timers_each that found a timer: the wheel then, and what was written
pub record Visit : Type 0 where
  pub wheel : WheelState
  pub handle : CHandle
  pub out : Expired

-- from this cursor on the calls found these timers, one after another, and the last call found none
abbrev pub AreVisits : ℕ → List Visit → WheelState → Type 0
AreVisits from [] last = IsAllVisited from last
AreVisits from (v ∷ later) last =
    (next : ℕ) × IsVisited from v.wheel next v.handle v.out × IsAloneAt v.handle v.wheel × AreVisits next later last

-- so it is at each call
abbrev pub AtEachCall : (WheelState → Type 0) → List Visit → WheelState → Type 0
AtEachCall P visits last = AllByRecursion (λ v. P v.wheel) visits × P last

-- a timer is held under this handle at each call
abbrev pub IsHeldThroughout : CHandle → List Visit → WheelState → Type 0
IsHeldThroughout handle visits last = AtEachCall (IsHeld (base_handle handle)) visits last

-- a timer is held at this place, whatever its serial
abbrev pub IsOccupied : ℕ → WheelState → Type 0
IsOccupied place w = (serial : ℕ) × IsHeld (record { place = place; serial = serial }) w

-- so at each call, as it is at the place of a timer that is restarted and keeps its place
abbrev pub IsOccupiedThroughout : ℕ → List Visit → WheelState → Type 0
IsOccupiedThroughout place visits last = AtEachCall (IsOccupied place) visits last

-- the visits that found this handle
abbrev pub found_under : CHandle → List Visit → List Visit
found_under handle visits =
    filter (λ v. v.handle.place == handle.place && v.handle.serial == handle.serial) visits

-- the visits that found a timer at this place
abbrev pub found_at : ℕ → List Visit → List Visit
found_at place visits = filter (λ v. v.handle.place == place) visits
