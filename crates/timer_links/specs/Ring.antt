-- The links of each index, what a join changes, and which indexes follow one another: all that `ring` states.
use Rattle.std.specs.Prelude.{◌≡◌, ◌≢◌, ℕ, ◌-◌, ◌≤◌, nat_lt, ◌==◌, if◌then◌else◌, List, length, Option, Some, None, slice_index_or}
use Rattle.timer_links.specs.Types.{Neighbours}

-- what is at an index, or a default past the end
abbrev pub neighbours_at : List Neighbours → ℕ → Neighbours
neighbours_at neighbours index = slice_index_or neighbours index (record { before = 0; after = 0 })

-- the key of the node at an index, or none for a root
abbrev pub key_of : ℕ → ℕ → Option ℕ
key_of lists index = if nat_lt index lists then None else Some (index - lists)

-- the neighbour on both sides, if it is the same
abbrev pub neighbour_on_both_sides : Neighbours → Option ℕ
neighbour_on_both_sides neighbours =
    if neighbours.before == neighbours.after then Some neighbours.before else None

-- the two indexes are neighbours: the second comes right after the first
pub record AreJoined (neighbours : List Neighbours) (front back : ℕ) : Type 0 where
  pub forth : (neighbours_at neighbours front).after ≡ back
  pub back_to : (neighbours_at neighbours back).before ≡ front

-- the second index was put right after the first, and all else stays
pub record Joins (front back : ℕ) (old new : List Neighbours) : Type 0 where
  pub forth : (neighbours_at new front).after ≡ back
  pub back_to : (neighbours_at new back).before ≡ front
  pub afters : (index : ℕ) → index ≢ front → (neighbours_at new index).after ≡ (neighbours_at old index).after
  pub befores : (index : ℕ) → index ≢ back
      → (neighbours_at new index).before ≡ (neighbours_at old index).before
  pub size : length new ≡ length old

-- the index was put after the last one of the root's ring, and before the root
abbrev pub JoinsLast : ℕ → ℕ → List Neighbours → List Neighbours → Type 0
JoinsLast root index old new = (half : List Neighbours) × Joins (neighbours_at old root).before index old half
    × Joins index root half new

-- there may be more indexes, and all neighbours are unchanged
pub record IsGrown (old new : List Neighbours) : Type 0 where
  pub same : (index : ℕ) → neighbours_at new index ≡ neighbours_at old index
  pub longer : length old ≤ length new
