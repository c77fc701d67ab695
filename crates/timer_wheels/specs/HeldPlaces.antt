-- The places at which timers are held, in the order of their numbers.
use Rattle.std.specs.Prelude.{◌≡◌, ◌<◌, ◌≤◌, ◌⊎◌, ℕ, List, Option, Some, None, IsSome}
use Rattle.std.specs.List.{AllByRecursion}
use Rattle.timer_wheels.specs.Types.{Handle, Timer, Entry, WheelState}
use Rattle.timer_base.specs.WheelState.{held_at}

-- none of the timers has a place from the first one up to the second
abbrev pub AreElsewhere : ℕ → ℕ → List Entry → Type 0
AreElsewhere from to entries = AllByRecursion (λ entry. (entry.place < from) ⊎ (to ≤ entry.place)) entries

-- the places of the timers are below this one
abbrev pub AreBefore : ℕ → List Entry → Type 0
AreBefore from entries = AllByRecursion (λ entry. entry.place < from) entries

-- a timer is pending or due under this handle
abbrev pub IsHeld : Handle → WheelState → Type 0
IsHeld handle w = IsSome (held_at handle w)

-- the handle of the timer at the first place from this one on, and none exactly if no place from it on has
-- a timer
abbrev pub IsFirstHeld : ℕ → WheelState → Option Handle → Type 0
IsFirstHeld from w None = AreBefore from w.pending × AreBefore from w.due
IsFirstHeld from w (Some handle) =
    (from ≤ handle.place) × IsHeld handle w × AreElsewhere from handle.place w.pending
    × AreElsewhere from handle.place w.due

-- a timer at this place is this one
abbrev pub AreThis : ℕ → Timer → List Entry → Type 0
AreThis place t entries = AllByRecursion (λ entry. entry.place ≡ place → entry.timer ≡ t) entries

-- a timer at the place of this handle is the one that is held under the handle
abbrev pub IsAlone : Handle → WheelState → Type 0
IsAlone handle w = (t : Timer) → held_at handle w ≡ Some t → AreThis handle.place t w.pending × AreThis handle.place t w.due
