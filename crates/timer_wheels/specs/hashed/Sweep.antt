-- Rows of a hashed wheel that lose rounds, and its lists after one bucket is swept.
use Rattle.std.specs.Prelude.{ℕ, ◌==◌, ◌-◌, ◌≤◌, Bool, not, map, filter, ◌++◌, slice_set, []}
use Rattle.timer_links.specs.Lists.{list_at, KeyedLists, Row, Rows}

-- the row has at least this many rounds
abbrev pub HasRoundsLeft : ℕ → Row → Type 0
HasRoundsLeft rounds row = rounds ≤ row.1.rounds

-- the row with fewer rounds
abbrev pub with_fewer_rounds : ℕ → Row → Row
with_fewer_rounds rounds row = (row.0, record row.1 { rounds = row.1.rounds - rounds })

abbrev pub has_no_rounds : Row → Bool
has_no_rounds row = row.1.rounds == 0

abbrev pub has_rounds : Row → Bool
has_rounds row = not (has_no_rounds row)

-- the rows with no rounds left
abbrev pub due_now : Rows → Rows
due_now rows = filter has_no_rounds rows

-- the other rows, each with one round fewer
abbrev pub due_later : Rows → Rows
due_later rows = map (with_fewer_rounds 1) (filter has_rounds rows)

-- the lists after these rows of one list were swept, and those were not yet
abbrev pub half_swept : ℕ → ℕ → Rows → Rows → KeyedLists → KeyedLists
half_swept l due past left lists = slice_set (slice_set lists l (due_later past ++ left)) due
    (list_at due lists ++ due_now past)

-- one list was swept
abbrev pub swept : ℕ → ℕ → KeyedLists → KeyedLists
swept l due lists = half_swept l due (list_at l lists) [] lists
