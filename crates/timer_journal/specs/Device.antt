-- What the calls of a device do to its file, and what a crash leaves of them.
use Rattle.std.specs.Prelude.{ℕ, ◌+◌, ◌<◌, ◌≤◌, ◌≡◌, ◌⊎◌, min, max, List, ◌++◌, length, take, drop}
use Rattle.timer_journal.specs.declared.fault.DeviceFault.{DeviceFault}
use Rattle.timer_journal.specs.declared.fault.DeviceFault.TheVariants.{Full, Failed}

-- the file after these bytes were written at this offset
abbrev pub overwritten : List ℕ → ℕ → List ℕ → List ℕ
overwritten file at bytes = take at file ++ bytes ++ drop (at + length bytes) file

-- A write of n bytes that a crash cut short. The range, and what is past the old end, holds any bytes.
pub record Torn (at n : ℕ) (old new : List ℕ) : Type 0 where
  pub before : take at new ≡ take at old
  pub behind : drop (at + n) new ≡ drop (at + n) old
  pub no_shorter : length old ≤ length new
  pub no_longer : length new ≤ max (length old) (at + n)

-- A cut to n bytes that a crash cut short: some front of the file, of at least n bytes if it had so many.
pub record Shortened (n : ℕ) (old new : List ℕ) : Type 0 where
  pub no_shorter : min n (length old) ≤ length new
  pub front : take (length new) old ≡ new

-- each file that a crash may leave now is one that it might have left before, after this step
abbrev pub Follows : (List ℕ → List ℕ → Type 0) → (List ℕ → Type 0) → (List ℕ → Type 0) → Type 0
Follows step before now = (c : List ℕ) → now c → (d : List ℕ) × before d × step d c

-- a crash leaves this file and no other
abbrev pub Only : List ℕ → (List ℕ → Type 0) → Type 0
Only file may_leave = (c : List ℕ) → may_leave c → c ≡ file

-- a call that fails with `Full` or `Failed` has met a fault, and faults are counted
pub record HasCause {D : Type 0} (faults : D → ℕ) (old new : D) (fails : DeviceFault → Type 0) : Type 0 where
  pub counts : faults old ≤ faults new
  pub full : fails Full → faults old < faults new
  pub failed : fails Failed → faults old < faults new

-- Time passes by a call. What a crash might have left since an earlier moment stays known, and to it comes only what
-- one may leave now.
pub record Passes {D : Type 0} (moment : D → ℕ) (left_since : D → ℕ → List ℕ → Type 0) (may_leave : List ℕ → Type 0) (old new : D) : Type 0 where
  pub later : moment old ≤ moment new
  pub kept : (t : ℕ) (c : List ℕ) → t ≤ moment old → left_since old t c → left_since new t c
  pub added : (t : ℕ) (c : List ℕ) → t ≤ moment old → left_since new t c → left_since old t c ⊎ may_leave c

-- a crash at any moment from old to new leaves a file that has P
pub record LeavesOnly {D : Type 0} (moment : D → ℕ) (left_since : D → ℕ → List ℕ → Type 0) (old new : D) (P : List ℕ → Type 0) : Type 0 where
  pub later : moment old ≤ moment new
  pub each : (c : List ℕ) → left_since new (moment old) c → P c
  -- for a run that began before old
  pub added : (t : ℕ) (c : List ℕ) → t ≤ moment old → left_since new t c → left_since old t c ⊎ P c
