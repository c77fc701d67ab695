-- In which bucket of a hierarchy each timer is, and how often it still moves: what `links`, `moves` and
-- `starts` show.
use Rattle.std.specs.Prelude.{◌≡◌, ℕ, ◌+◌, ◌-◌, ◌*◌, ◌/◌, ◌%◌, ◌≤◌, ◌==◌, ◌&&◌, not, Bool, true, false, if◌then◌else◌, length, List, [], ◌∷◌}
use Rattle.std.specs.Coded.{×_prop}
use Rattle.std.proofs.Props.{props}
use Rattle.timer_wheels.specs.Types.{Timer, Entry, WheelState, KeyedLists, Row}
use Rattle.timer_wheels.specs.Digits.{level, bucket, slots, hops}
use Rattle.timer_wheels.specs.Shown.{ShowsBuckets}
use Rattle.timer_wheels.specs.BucketLists.{row_timer}

-- the list of a pending timer
abbrev pub bucket_at : List ℕ → ℕ → Timer → ℕ
bucket_at table now t = bucket table now t.deadline

-- no timer has rounds
abbrev pub no_rounds : Timer → ℕ
no_rounds t = 0

-- a row of list s: the list is the timer's bucket, and it has no rounds
abbrev pub IsPlaced : List ℕ → ℕ → ℕ → Row → Type 0
IsPlaced table now s row = (bucket table now (row_timer row).deadline ≡ s) × (row.1.rounds ≡ 0)

-- list s, for s below the number of slots, has the pending timers whose bucket it is, by serial, each under
-- its place with no rounds, and the next list has what is due
abbrev pub ShowsWheels : List ℕ → WheelState → KeyedLists → Type 0
ShowsWheels table w lists = ShowsBuckets (slots table) (bucket_at table w.now) no_rounds w lists

pub IsPlaced-prop : (table : List ℕ) (now s : ℕ) (row : Row) → IsProp (IsPlaced table now s row)
IsPlaced-prop table now s row = ×_prop (hlevel props) (hlevel props)

-- how often the next ticks move these timers to a lower wheel, in sum
abbrev pub hops_of : List ℕ → ℕ → ℕ → List Entry → ℕ
hops_of table now ticks [] = 0
hops_of table now ticks (entry ∷ entries) = hops table now ticks entry.timer.deadline + hops_of table now
    ticks entries

-- the sum of the levels of these timers
abbrev pub levels_of : List ℕ → ℕ → List Entry → ℕ
levels_of table now [] = 0
levels_of table now (entry ∷ entries) = level table now entry.timer.deadline + levels_of table now entries

-- the most moves of one timer: once into each wheel but the highest
abbrev pub most_moves : List ℕ → ℕ
most_moves table = length table - 1

-- The potential of the pending timers (the sum of their levels) is what is left to move: each start adds at
-- most `most_moves` to it, and each move takes at least one away. So moves and potential together are paid
-- for by the starts.
abbrev pub IsPaid : List ℕ → ℕ → ℕ → ℕ → List Entry → Type 0
IsPaid table starts moves now pending = moves + levels_of table now pending ≤ most_moves table * starts

-- whether there is one
abbrev pub has_any : List Entry → Bool
has_any [] = false
has_any (entry ∷ entries) = true

-- how many buckets are visited from tick a to b: one at each multiple of the lowest radix, and that of b
-- if something is due there
abbrev pub visited_between : ℕ → ℕ → ℕ → Bool → ℕ
visited_between r a b due = b / r - a / r + (if due && not (b % r == 0) then 1 else 0)
