-- Lemmas about the nodes that were kept: what a slab of them says of the slab of whole nodes that it stands for.
use Rattle.std.proofs.Common.{◌≡◌, ◌+◌, ℕ, zero, suc, List, [], ◌∷◌, refl, sym, ◌∙◌, ap, subst, map, Option, Some, None, IsSome, is_some, option_map, count_by, slice_set, slice_index_or, arith, cond}
use Rattle.std.proofs.lemmas.List.Sums.{sum_by-cons}
use Rattle.slab.specs.Slab.{Slab, get, slab_len, with_value, ContainsKey, Updates}
use Rattle.timer_links.specs.Types.{Node, Neighbours}
use Rattle.timer_links.specs.Links.{nodes_of, IsLinked}
use Rattle.timer_links.specs.Lists.{KeyedLists}

module _ {N : Type 0} (node_of : N → Node) where
  slot_of : (slots : List (Option N)) (key : ℕ)
      → slice_index_or (map (option_map node_of) slots) key None ≡ option_map node_of (slice_index_or slots key None)
  slot_of [] key = refl
  slot_of (slot ∷ slots) zero = refl
  slot_of (slot ∷ slots) (suc key) = slot_of slots key

  pub get-nodes_of : (kept : Slab N) (key : ℕ) → get (nodes_of node_of kept) key ≡ option_map node_of (get kept key)
  get-nodes_of kept key = slot_of kept.slots key

  count_of : (slots : List (Option N)) → count_by is_some (map (option_map node_of) slots) ≡ count_by is_some slots
  count_of [] = refl
  count_of (None ∷ slots) = count_of slots
  count_of (Some kept ∷ slots) =
      let one : count_by is_some (Some kept ∷ slots) ≡ 1 + count_by is_some slots =
      sum_by-cons (λ slot. cond (is_some slot) 1 0) (Some kept) slots in
      let rest : List (Option Node) = map (option_map node_of) slots in
      let node : count_by is_some (Some (node_of kept) ∷ rest) ≡ 1 + count_by is_some rest =
      sum_by-cons (λ slot. cond (is_some slot) 1 0) (Some (node_of kept)) rest in
      omega (arith, one, node, count_of slots)

  pub slab_len-nodes_of : (kept : Slab N) → slab_len (nodes_of node_of kept) ≡ slab_len kept
  slab_len-nodes_of kept = count_of kept.slots

  some_from : (o : Option N) → IsSome (option_map node_of o) → IsSome o
  some_from None i = i
  some_from (Some kept) i = refl

  -- a key that has a node has what was kept of it
  pub contained : (kept : Slab N) (key : ℕ) → ContainsKey (nodes_of node_of kept) key → ContainsKey kept key
  contained kept key i = some_from (get kept key) (rw (get-nodes_of kept key) at i)

  pub kept_at : (kept : Slab N) (key : ℕ) (value : N) → get kept key ≡ Some value
      → get (nodes_of node_of kept) key ≡ Some (node_of value)
  kept_at kept key value e = get-nodes_of kept key ∙ ap (option_map node_of) e

  pub vacant_at : (kept : Slab N) (key : ℕ) → get kept key ≡ None → get (nodes_of node_of kept) key ≡ None
  vacant_at kept key e = get-nodes_of kept key ∙ ap (option_map node_of) e

  pub updates : (old new : Slab N) (key : ℕ) (slot : Option N) → Updates old new key slot
      → Updates (nodes_of node_of old) (nodes_of node_of new) key (option_map node_of slot)
  updates old new key slot u = record {
    changed = get-nodes_of new key ∙ ap (option_map node_of) u.changed;
    others = λ other o. get-nodes_of new other ∙ (ap (option_map node_of) (u.others other o) ∙ sym (get-nodes_of old other));
  }

  pub updates_as : (old new : Slab N) (key : ℕ) (value : N) (node : Node) → node_of value ≡ node → Updates old new key (Some value)
      → Updates (nodes_of node_of old) (nodes_of node_of new) key (Some node)
  updates_as old new key value node e u =
      let P : Node → Type 0 = λ x. Updates (nodes_of node_of old) (nodes_of node_of new) key (Some x) in
      subst P e (updates old new key (Some value) u)

  pub one_more : (old new : Slab N) → slab_len new ≡ slab_len old + 1
      → slab_len (nodes_of node_of new) ≡ slab_len (nodes_of node_of old) + 1
  one_more old new e = rw (slab_len-nodes_of new, slab_len-nodes_of old) e

  pub one_less : (old new : Slab N) → slab_len new + 1 ≡ slab_len old
      → slab_len (nodes_of node_of new) + 1 ≡ slab_len (nodes_of node_of old)
  one_less old new e = rw (slab_len-nodes_of new, slab_len-nodes_of old) e

  -- the same nodes, with room for more or less
  pub same_nodes : (old new : Slab N) → new ≡ record old { capacity = new.capacity }
      → nodes_of node_of new ≡ record (nodes_of node_of old) { capacity = new.capacity }
  same_nodes old new e = ap (nodes_of node_of) e

  set_of : (slots : List (Option N)) (key : ℕ) (slot : Option N)
      → map (option_map node_of) (slice_set slots key slot) ≡ slice_set (map (option_map node_of) slots) key (option_map node_of slot)
  set_of [] key slot = refl
  set_of (x ∷ slots) zero slot = refl
  set_of (x ∷ slots) (suc key) slot = ap (λ (y : List (Option Node)). option_map node_of x ∷ y) (set_of slots key slot)

  pub value_set : (kept : Slab N) (key : ℕ) (value : N)
      → nodes_of node_of (with_value kept key value) ≡ with_value (nodes_of node_of kept) key (node_of value)
  value_set kept key value =
      let f : List (Option Node) → Slab Node =
      λ slots. record { slots = slots; vacant_key = kept.vacant_key; capacity = kept.capacity } in
      ap f (set_of kept.slots key (Some value))

  -- a value was set, which stands for the node
  pub linked_set : (n : ℕ) (kept : Slab N) (s : List Neighbours) (v : KeyedLists) (key : ℕ) (value : N) (node : Node) → node_of value ≡ node
      → IsLinked n (with_value (nodes_of node_of kept) key node) s v → IsLinked n (nodes_of node_of (with_value kept key value)) s v
  linked_set n kept s v key value node e h =
      let P : Slab Node → Type 0 = λ x. IsLinked n x s v in
      let Q : Node → Type 0 = λ x. IsLinked n (with_value (nodes_of node_of kept) key x) s v in
      subst P (sym (value_set kept key value)) (subst Q (sym e) h)
