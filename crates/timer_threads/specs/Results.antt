-- What clients leave behind, and which of them failed.
use Rattle.std.specs.Prelude.{◌≡◌, ◌<◌, ◌||◌, ℕ, Bool, true, false, List, length, get_or, map, min, Option, Some, None, is_none}
use Rattle.timer_threads.specs.Types.{Worked, RequestsEnded, ClientReader}

-- a check failed, the client reached its limit, or its requests could not be ended
abbrev pub is_failed : Worked → Bool
is_failed w = w.failed || is_none w.ended

-- none failed
abbrev pub NoneFailed : List Worked → Type 0
NoneFailed all = (k : ℕ) (w : Worked) → k < length all → is_failed (get_or all k w) ≡ false

-- the requests of each could be ended
abbrev pub AllRequestsEnded : List Worked → Type 0
AllRequestsEnded all = (k : ℕ) (w : Worked) → k < length all → is_none (get_or all k w).ended ≡ false

-- this one failed, and none before it
pub record IsFirstFailed (all : List Worked) (c : ℕ) : Type 0 where
  pub client : c < length all
  pub failed : (w : Worked) → is_failed (get_or all c w) ≡ true
  pub others : (k : ℕ) (w : Worked) → k < c → is_failed (get_or all k w) ≡ false

-- the lower of two numbers, if there are any
abbrev pub lower_of : Option ℕ → Option ℕ → Option ℕ
lower_of None other = other
lower_of (Some a) None = Some a
lower_of (Some a) (Some b) = Some (min a b)

-- each has ended, and these are its end and its reader
pub record AreUnzipped (all : List Worked) (ends : List RequestsEnded) (readers : List ClientReader) : Type 0 where
  pub ends_are : map (λ w. w.ended) all ≡ map Some ends
  pub readers_are : map (λ w. w.reader) all ≡ readers
