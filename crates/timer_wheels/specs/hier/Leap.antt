-- The next visit of a bucket in a hierarchy of wheels (the tick that empties it), and leaps of its clock.
use Rattle.std.specs.Prelude.{◌≡◌, ℕ, ◌+◌, ◌-◌, ◌*◌, ◌/◌, ◌<◌, ◌≤◌, nat_lt, ◌==◌, ◌⊎◌, if◌then◌else◌, List, [], ◌∷◌, length}
use Rattle.timer_base.specs.WheelState.{WheelState, after_ticks}
use Rattle.timer_links.specs.Lists.{KeyedLists}
use Rattle.timer_wheels.specs.BucketLists.{row_timer, EachRow}
use Rattle.timer_wheels.specs.hier.Placement.{hops_of, levels_of}

-- the next visit of the bucket of a pending timer: its deadline, with zeros below its level
abbrev pub timer_visit : List ℕ → ℕ → ℕ → ℕ
timer_visit [] now deadline = deadline
timer_visit (r ∷ rs) now deadline = if (now / r) == (deadline / r) then deadline else r * timer_visit rs
    (now / r) (deadline / r)

-- the same of a list: now with the list's slot as the digit of its wheel, and zeros below, which is its next visit if
-- it holds a pending timer
abbrev pub list_visit : List ℕ → ℕ → ℕ → ℕ
list_visit [] l now = now
list_visit (r ∷ rs) l now = if nat_lt l r then r * (now / r) + l else r * list_visit rs (l - r) (now / r)

-- no bucket with a timer is visited before this tick
abbrev pub AreNotVisitedBefore : List ℕ → ℕ → ℕ → ℕ → KeyedLists → Type 0
AreNotVisitedBefore table n now visit lists = EachRow (λ s row. visit
    ≤ timer_visit table now (row_timer row).deadline) n lists

-- the first tick ahead at which a timer is due or moves to a lower wheel
pub record IsNextVisit (table : List ℕ) (tick : ℕ) (w : WheelState) : Type 0 where
  -- none moves before it
  pub none_before : hops_of table w.now (tick - w.now - 1) w.pending ≡ 0
  -- and at it one is due or moves
  pub some : (0 < length (after_ticks (tick - w.now) w).due)
      ⊎ (0 < hops_of table w.now (tick - w.now) w.pending)

-- some ticks were passed, with their moves counted, and nothing was due before the last of them
pub record Leaps (table : List ℕ) (moves : ℕ) (old new : WheelState) : Type 0 where
  pub passed : ℕ
  pub now_is : new.now ≡ old.now + passed
  pub ticked : new ≡ after_ticks passed old
  pub quiet : (n : ℕ) → n < passed → (after_ticks n old).due ≡ []
  -- if nothing is due yet, the pending timers are the same
  pub kept : new.due ≡ [] → new.pending ≡ old.pending
  pub moves_are : moves ≡ hops_of table old.now passed old.pending
  pub pays : moves + levels_of table new.now new.pending ≤ levels_of table old.now old.pending
