-- What `links` shows of either wheel: the pending timers, each in its bucket.
use Rattle.std.specs.Prelude.{◌≡◌, ◌==◌, ℕ, ◌+◌, ◌<◌, List, length, map, filter}
use Rattle.timer_base.specs.Order.{in_order}
use Rattle.timer_wheels.specs.Types.{Timer, Entry, WheelState, list_at, KeyedLists, Row}
use Rattle.timer_wheels.specs.BucketLists.{entries_of}

-- the timer, were its deadline 0
abbrev pub without_deadline : Entry → Timer
without_deadline entry = record entry.timer { deadline = 0 }

-- the entries by serial: the order of timers if all have one deadline
abbrev pub by_serial : List Entry → List Entry
by_serial entries = in_order without_deadline entries

-- the entry as a row: under its place, with its timer's rounds
abbrev pub row_of_entry : (Timer → ℕ) → Entry → Row
row_of_entry rounds_of entry = (entry.place, record { timer = entry.timer; rounds = rounds_of entry.timer })

-- the pending timers of one bucket
abbrev pub entries_at : (Timer → ℕ) → ℕ → List Entry → List Entry
entries_at bucket_of s entries = filter (λ entry. bucket_of entry.timer == s) entries

-- of n + 1 lists each of the first n has the pending timers of its bucket, by serial, each under its place
-- with its rounds, and the next one has what is due
pub record ShowsBuckets (n : ℕ) (bucket_of rounds_of : Timer
    → ℕ) (w : WheelState) (lists : KeyedLists) : Type 0 where
  pub count : length lists ≡ n + 1
  pub buckets : (s : ℕ) → s < n → list_at s lists ≡ map (row_of_entry rounds_of)
      (by_serial (entries_at bucket_of s w.pending))
  pub due : entries_of (list_at n lists) ≡ w.due
