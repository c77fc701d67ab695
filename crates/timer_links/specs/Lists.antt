-- Lists of nodes, each under its key: all that a layer above knows of `Links`.
use Rattle.std.specs.Prelude.{◌≡◌, ◌<◌, ◌≤◌, ℕ, ◌+◌, not, ◌==◌, if◌then◌else◌, List, [], ◌∷◌, ◌++◌, length, map, filter, Option, Some, None, IsSome, slice_index_or, slice_set}
use Rattle.timer_links.specs.Types.{Node}

-- a key and the node under it
abbrev pub Row : Type 0
Row = ℕ × Node

-- the rows of a list, in order
abbrev pub Rows : Type 0
Rows = List Row

-- the lists
abbrev pub KeyedLists : Type 0
KeyedLists = List Rows

-- the lists, for how many nodes at one time room was made, and below which key each next one is added in constant time
pub record LinksState : Type 0 where
  pub lists : KeyedLists
  pub room : ℕ
  pub ready : ℕ

-- the node under a key of one list
abbrev pub node_in : ℕ → Rows → Option Node
node_in key [] = None
node_in key (row ∷ rest) = if row.0 == key then Some row.1 else node_in key rest

-- the first of two nodes, or the second if there is no first
abbrev pub first_of : Option Node → Option Node → Option Node
first_of (Some node) other = Some node
first_of None other = other

-- the node under a key, in whichever list it stands
abbrev pub node_at : ℕ → KeyedLists → Option Node
node_at key [] = None
node_at key (rows ∷ lists) = first_of (node_in key rows) (node_at key lists)

-- the key of the first row
abbrev pub first_key : Rows → Option ℕ
first_key [] = None
first_key (row ∷ rest) = Some row.0

-- the rows with other keys
abbrev pub without_key : ℕ → Rows → Rows
without_key key rows = filter (λ row. not (row.0 == key)) rows

-- the list of this number, counted from 0
abbrev pub list_at : ℕ → KeyedLists → Rows
list_at l lists = slice_index_or lists l []

-- the row is pushed to the back of one list
abbrev pub with_row : ℕ → Row → KeyedLists → KeyedLists
with_row l row lists = slice_set lists l (list_at l lists ++ row ∷ [])

-- how many rows stand in all lists
abbrev pub row_count : KeyedLists → ℕ
row_count [] = 0
row_count (rows ∷ lists) = length rows + row_count lists

-- the first row of one list is removed, if there is one
abbrev pub PopsFront : ℕ → KeyedLists → Option Row → KeyedLists → Type 0
PopsFront l old None new = (list_at l old ≡ []) × (new ≡ old)
PopsFront l old (Some row) new = (rest : Rows) × (list_at l old ≡ row ∷ rest)
    × (new ≡ slice_set old l rest)

-- the node moves to the back of one list, and keeps its key
abbrev pub moved_back : ℕ → ℕ → Node → KeyedLists → KeyedLists
moved_back key l node lists = with_row l (key, node) (map (without_key key) lists)

-- the key's node moves to the back of one list
abbrev pub MovesBack : ℕ → ℕ → KeyedLists → KeyedLists → Type 0
MovesBack key l old new = (node : Node) → node_at key old ≡ Some node → new ≡ moved_back key l node old

-- the first of these rows of one list moves to the back of another, if there is one
abbrev pub first_row_moved : ℕ → ℕ → KeyedLists → Rows → KeyedLists
first_row_moved from to lists [] = lists
first_row_moved from to lists (row ∷ rest) = with_row to row (slice_set lists from rest)

-- the first row of one list moves to the back of another, if there is one
abbrev pub front_moved : ℕ → ℕ → KeyedLists → KeyedLists
front_moved from to lists = first_row_moved from to lists (list_at from lists)

-- all rows of one list move to the back of another, in their order
abbrev pub appended : ℕ → ℕ → KeyedLists → KeyedLists
appended from to lists = slice_set (slice_set lists from []) to (list_at to lists ++ list_at from lists)

-- wherever the key stands, this is the key after it, or none if it is the last one
abbrev pub IsNext : ℕ → KeyedLists → Option ℕ → Type 0
IsNext key lists found =
    (l : ℕ) (front : Rows) (node : Node) (rest : Rows)
    → l < length lists → list_at l lists ≡ front ++ (key, node) ∷ rest → found ≡ first_key rest

-- wherever the key stands, its node has these rounds, and all else stays
abbrev pub SetsRounds : ℕ → ℕ → KeyedLists → KeyedLists → Type 0
SetsRounds key rounds old new =
    (l : ℕ) (front : Rows) (node : Node) (rest : Rows)
    → l < length old → list_at l old ≡ front ++ (key, node) ∷ rest
    → new ≡ slice_set old l (front ++ (key, record node { rounds = rounds }) ∷ rest)

-- wherever the key stands, it has this node, and all else stays
abbrev pub SetsNode : ℕ → Node → KeyedLists → KeyedLists → Type 0
SetsNode key node old new =
    (l : ℕ) (front : Rows) (was : Node) (rest : Rows)
    → l < length old → list_at l old ≡ front ++ (key, was) ∷ rest
    → new ≡ slice_set old l (front ++ (key, node) ∷ rest)

-- the list, if no row stands before or after this one
abbrev pub list_if_alone : ℕ → Rows → Rows → Option ℕ
list_if_alone l [] [] = Some l
list_if_alone l [] (x ∷ xs) = None
list_if_alone l (x ∷ xs) rest = None

-- wherever the key stands, this is its list if no other row is in it, and else none
abbrev pub IsAloneIn : ℕ → KeyedLists → Option ℕ → Type 0
IsAloneIn key lists emptied =
    (l : ℕ) (front : Rows) (node : Node) (rest : Rows)
    → l < length lists → list_at l lists ≡ front ++ (key, node) ∷ rest → emptied ≡ list_if_alone l front rest

-- the node under the key has these rounds
abbrev pub HasRounds : ℕ → KeyedLists → ℕ → Type 0
HasRounds key lists rounds = (node : Node) → node_at key lists ≡ Some node → rounds ≡ node.rounds

-- a row's key stands nowhere else
abbrev pub AreApart : KeyedLists → Type 0
AreApart lists =
    (l : ℕ) (front : Rows) (row : Row) (rest : Rows)
    → l < length lists → list_at l lists ≡ front ++ row ∷ rest
    → (node_at row.0 lists ≡ Some row.1) × (map (without_key row.0) lists ≡ slice_set lists l (front ++ rest))

-- Which keys are in use, in the order of their numbers.

-- no key from the first one up to the second is in use
abbrev pub AreUnused : ℕ → ℕ → KeyedLists → Type 0
AreUnused from to lists = (key : ℕ) → from ≤ key → key < to → node_at key lists ≡ None

-- the first key in use from this one on, and none exactly if no such key is in use
abbrev pub IsFirstUsed : ℕ → KeyedLists → Option ℕ → Type 0
IsFirstUsed from lists None = (key : ℕ) → from ≤ key → node_at key lists ≡ None
IsFirstUsed from lists (Some found) = (from ≤ found) × IsSome (node_at found lists)
    × AreUnused from found lists
