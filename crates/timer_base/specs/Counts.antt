-- What a wheel counts, beside its state.
use Rattle.std.specs.Prelude.{ℕ}

-- the counts of a wheel since it was made
pub record WheelCounts : Type 0 where
  -- timers that were started or restarted
  pub starts : ℕ
  -- how often a timer moved to a lower wheel
  pub moves : ℕ
  -- buckets that ticks came to, empty ones too: one for each single tick; each wheel says what a jump adds
  pub visits : ℕ

-- those of a new wheel, and of one that counts nothing
abbrev pub no_counts : WheelCounts
no_counts = record { starts = 0; moves = 0; visits = 0 }
