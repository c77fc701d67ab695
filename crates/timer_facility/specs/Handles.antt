-- The handles that a player keeps, by serial: those of the pending timers, and some of timers that are no
-- longer pending.
use Rattle.std.specs.Prelude.{◌≡◌, ◌≤◌, ◌<◌, ℕ, ◌+◌, ◌*◌, ◌==◌, Bool, List, [], ◌∷◌, ◌++◌, Option, None, Some, length, is_some, if◌then◌else◌}
use Rattle.std.specs.List.{AllByRecursion}
use Rattle.timer_facility.specs.Types.{Handle, Answer, SPARE, Started, Stopped, Restarted, Refused}
use Rattle.timer_base.specs.Pending.{Entry, has_handle, first_timer}
use Rattle.timer_facility.specs.State.{FacilityState}
use Rattle.timer_facility.specs.Facility.{FacilityView}

-- handles in order of starting; some of their timers may no longer be pending
abbrev pub HandleList : Type 0
HandleList = List Handle

-- the place under a serial, if there is one
abbrev pub place_at : ℕ → HandleList → Option ℕ
place_at serial [] = None
place_at serial (h ∷ hs) = if h.serial == serial then Some h.place else place_at serial hs

-- the serials rise
abbrev pub AreSorted : HandleList → Type 0
AreSorted [] = Unit {0}
AreSorted (h ∷ hs) = AllByRecursion (λ k. h.serial < k.serial) hs × AreSorted hs

-- the place of this entry is the one under its serial
abbrev pub IsRecorded : HandleList → Entry → Type 0
IsRecorded handles entry = place_at entry.timer.serial handles ≡ Some entry.place

-- a pending timer has this handle
abbrev pub is_pending : FacilityState → Handle → Bool
is_pending s handle = is_some (first_timer (has_handle handle) s.pending)

-- the handles after an answer: an accepted start or restart adds one
abbrev pub with_answer : Answer → HandleList → HandleList
with_answer (Started handle deadline) handles = handles ++ handle ∷ []
with_answer (Stopped serial) handles = handles
with_answer (Restarted handle deadline old) handles = handles ++ handle ∷ []
with_answer (Refused reason) handles = handles

-- an accepted start or restart
abbrev pub AddsHandle : Answer → Type 0
AddsHandle (Started handle deadline) = Unit {0}
AddsHandle (Restarted handle deadline old) = Unit {0}
AddsHandle answer = ⊥

-- each pending timer has its handle among these, in order of starting; every serial among them was used
pub record AreRecorded (handles : HandleList) (s : FacilityState) : Type 0 where
  pub sorted : AreSorted handles
  pub used : AllByRecursion (λ h. h.serial < s.next_serial) handles
  pub each : AllByRecursion (IsRecorded handles) s.pending

-- at most two handles for each pending timer, and a few more
abbrev pub AreFew : HandleList → FacilityState → Type 0
AreFew handles s = length handles ≤ 2 * length s.pending + SPARE

-- what a player keeps between two events
pub record IsPlayer (facility : FacilityView) (handles : HandleList) : Type 0 where
  pub waiting : facility.waiting ≡ []
  pub recorded : AreRecorded handles facility.state
  pub few : AreFew handles facility.state
