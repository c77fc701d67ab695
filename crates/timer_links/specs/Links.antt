-- How `Links` represents its lists by nodes and links: its invariant. No public clause cites this file.
use Rattle.std.specs.Prelude.{◌≡◌, ℕ, ◌+◌, ◌<◌, ◌≤◌, ◌⊎◌, zero, suc, List, [], ◌∷◌, length, map, Option, Some, None, option_map}
use Rattle.std.specs.List.{range_with_len}
use Rattle.slab.specs.Slab.{Slab, get, slab_len, ContainsKey}
use Rattle.timer_links.specs.Types.{Node, Neighbours, INDEXES}
use Rattle.timer_links.specs.Lists.{list_at, node_at, row_count, KeyedLists, Rows}
use Rattle.timer_links.specs.Ring.{neighbours_at, key_of, AreJoined}

-- the nodes that were kept
abbrev pub nodes_of : {N : Type 0} → (N → Node) → Slab N → Slab Node
nodes_of node_of kept = record {
  slots = map (option_map node_of) kept.slots;
  vacant_key = kept.vacant_key;
  capacity = kept.capacity;
}

-- the row of a key and its node, before these rows
abbrev pub row_of : ℕ → Option Node → Rows → Rows
row_of key None rest = []
row_of key (Some node) rest = (key, node) ∷ rest

abbrev pub rows_of : Slab Node → Option ℕ → Rows → Rows
rows_of nodes None rest = []
rows_of nodes (Some key) rest = row_of key (get nodes key) rest

-- the rows from an index on to the root, at most that many
abbrev pub walk : ℕ → ℕ → Slab Node → List Neighbours → ℕ → Rows
walk zero lists nodes neighbours index = []
walk (suc n) lists nodes neighbours index = rows_of nodes (key_of lists index)
    (walk n lists nodes neighbours (neighbours_at neighbours index).after)

-- the lists, each walked from the index after its root
abbrev pub lists_of : ℕ → Slab Node → List Neighbours → KeyedLists
lists_of lists nodes neighbours =
    map (λ root. walk (slab_len nodes) lists nodes neighbours (neighbours_at neighbours root).after)
    (range_with_len 0 lists)

-- from one index the links lead over these rows, in their order, to another index
abbrev pub LeadsOver : ℕ → List Neighbours → ℕ → Rows → ℕ → Type 0
LeadsOver lists neighbours index [] end = AreJoined neighbours index end
LeadsOver lists neighbours index (row ∷ rest) end = AreJoined neighbours index (lists + row.0)
    × LeadsOver lists neighbours (lists + row.0) rest end

-- each list is a ring: its root, its nodes in their order, and back to the root
abbrev pub AreRings : ℕ → List Neighbours → KeyedLists → Type 0
AreRings lists neighbours v = (l : ℕ) → l < lists → LeadsOver lists neighbours l (list_at l v) l

-- the nodes under these keys stand in these lists, and each list is a ring
pub record IsLinked (lists : ℕ) (nodes : Slab Node) (neighbours : List Neighbours)
    (v : KeyedLists) : Type 0 where
  pub many : length v ≡ lists
  pub few : lists ≤ 65537
  pub rings : AreRings lists neighbours v
  pub held : (key : ℕ) → get nodes key ≡ node_at key v
  pub total : slab_len nodes ≡ row_count v
  -- each root has an index, each key in use has one, and each index has a number
  pub roots : lists ≤ length neighbours
  pub reached : (key : ℕ) → ContainsKey nodes key → lists + key < length neighbours
  pub numbered : length neighbours ≤ INDEXES

-- there is memory for this many nodes, and memory is reserved for the index of each key that they can get
pub record HasRoom (room lists capacity reserved : ℕ) : Type 0 where
  pub fits : room ≤ capacity
  pub indexes : 0 < room → lists + capacity ≤ reserved
  -- each of these indexes has a number
  pub numbered : 0 < room → lists + capacity ≤ INDEXES

-- the next key has an index, or each key below the capacity has one
abbrev pub HasIndex : {N : Type 0} → ℕ → Slab N → List Neighbours → Type 0
HasIndex lists nodes neighbours =
    (lists + nodes.vacant_key < length neighbours) ⊎ (lists + nodes.capacity ≤ length neighbours)

-- each key below this one has memory for its node, and an index
pub record IsReady (ready lists capacity added : ℕ) : Type 0 where
  pub fits : ready ≤ capacity
  pub indexed : lists + ready ≤ added
