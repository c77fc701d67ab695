-- A bucket of a lazy hierarchy is emptied: what is due at the tick goes to the due list, in order of starting, and each
-- other timer to its bucket.
use Rattle.std.specs.Prelude.{◌≡◌, ◌≢◌, ℕ, List, [], length}
use Rattle.std.specs.List.Sorted.{IsPermutation}
use Rattle.timer_wheels.specs.Types.{list_at, KeyedLists}
use Rattle.timer_wheels.specs.Digits.{slots}
use Rattle.timer_wheels.specs.lazy.Merges.{AreSorted}
use Rattle.timer_wheels.specs.hier.Migration.{migrated}

-- List l is emptied at a tick. The list after the buckets is empty before and after: what is due is gathered there, sorted,
-- and appended to list n.
pub record EmptiesBucket (table : List ℕ) (n tick l : ℕ) (old new : KeyedLists) : Type 0 where
  pub same_length : length new ≡ length old
  pub gathered : IsPermutation (list_at (slots table) (migrated table tick l old)) (list_at n new)
  pub sorted : AreSorted 0 (list_at n new)
  pub none_left : list_at (slots table) new ≡ []
  pub others : (s : ℕ) → s ≢ slots table → s ≢ n → list_at s new ≡ list_at s (migrated table tick l old)
