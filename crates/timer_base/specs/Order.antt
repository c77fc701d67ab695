-- The order of timers: by deadline, and then by serial. It orders lists of anything that has a timer.
use Rattle.std.specs.Prelude.{◌≡◌, ◌≢◌, ◌<◌, ◌⊎◌, ℕ, ◌+◌, Bool, false, ◌||◌, ◌&&◌, ◌==◌, nat_lt, if◌then◌else◌, List, [], ◌∷◌, length}
use Rattle.std.specs.List.{AllByRecursion}
use Rattle.timer_base.specs.Types.{Timer}

-- a is handed out before b: its deadline is earlier, or the same and its serial is lower
abbrev pub is_before : Timer → Timer → Bool
is_before a b = nat_lt a.deadline b.deadline || (a.deadline == b.deadline && nat_lt a.serial b.serial)

-- x is inserted before the first one that is handed out after it
abbrev pub insert_in_order : {X : Type 0} → (X → Timer) → X → List X → List X
insert_in_order timer x [] = x ∷ []
insert_in_order timer x (y ∷ ys) = if is_before (timer x)
    (timer y) then x ∷ y ∷ ys else y ∷ insert_in_order timer x ys

-- the members of a list by deadline, and then by serial
abbrev pub in_order : {X : Type 0} → (X → Timer) → List X → List X
in_order timer [] = []
in_order timer (x ∷ xs) = insert_in_order timer x (in_order timer xs)

-- x is inserted before the first one with a later deadline, or last if there is none
abbrev pub insert_by_deadline : {X : Type 0} → (X → Timer) → X → List X → List X
insert_by_deadline timer x [] = x ∷ []
insert_by_deadline timer x (y ∷ ys) = if nat_lt (timer x).deadline
    (timer y).deadline then x ∷ y ∷ ys else y ∷ insert_by_deadline timer x ys

-- none of the timers is handed out before this one
abbrev pub IsFirst : Timer → List Timer → Type 0
IsFirst t [] = Unit {0}
IsFirst t (u ∷ us) = (is_before u t ≡ false) × IsFirst t us

-- no timer is handed out before an earlier one of the list
abbrev pub IsOrdered : List Timer → Type 0
IsOrdered [] = Unit {0}
IsOrdered (t ∷ ts) = IsFirst t ts × IsOrdered ts

-- none of the timers has this serial
abbrev pub IsNotAmong : ℕ → List Timer → Type 0
IsNotAmong serial ts = AllByRecursion (λ t. t.serial ≢ serial) ts

-- no serial occurs twice
abbrev pub AreDistinct : List Timer → Type 0
AreDistinct [] = Unit {0}
AreDistinct (t ∷ ts) = IsNotAmong t.serial ts × AreDistinct ts

-- each serial is above the one before it, the first above low
abbrev pub AreRising : ℕ → List Timer → Type 0
AreRising low [] = Unit {0}
AreRising low (t ∷ ts) = (low < t.serial) × AreRising t.serial ts

-- each has the serial after that of the one before it, the first has this one
abbrev pub AreNumberedFrom : ℕ → List Timer → Type 0
AreNumberedFrom serial [] = Unit {0}
AreNumberedFrom serial (t ∷ ts) = (t.serial ≡ serial) × AreNumberedFrom (serial + 1) ts

-- their serials are those from the first up to the next one, in order
pub record AreNumbered (first : ℕ) (ts : List Timer) (next : ℕ) : Type 0 where
  pub each : AreNumberedFrom first ts
  pub next_is : next ≡ first + length ts

-- each serial is below high
abbrev pub AreBelow : ℕ → List Timer → Type 0
AreBelow high ts = AllByRecursion (λ t. t.serial < high) ts

-- z is a member of the list
abbrev pub IsMember : {X : Type 0} → X → List X → Type 0
IsMember z [] = ⊥
IsMember z (x ∷ xs) = (x ≡ z) ⊎ IsMember z xs

-- the timer of a timer
abbrev pub itself : Timer → Timer
itself t = t
