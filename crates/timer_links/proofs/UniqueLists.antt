-- The nodes and links represent one value alone: whatever lists satisfy `IsLinked` are `lists_of`.
use Rattle.std.proofs.Common.{◌≡◌, ◌<◌, ◌≤◌, ◌+◌, ℕ, zero, suc, true, false, List, [], ◌∷◌, ◌++◌, length, refl, sym, ◌∙◌, ap, subst, arith, Vec, Some, None, nat_lt, ◌-◌}
use Rattle.std.specs.List.{AllByRecursion}
use Rattle.std.proofs.lemmas.Bool.Decides.{nat_tests}
use Rattle.std.proofs.lemmas.List.{ext_get_or, append_assoc, with_items_is}
use Rattle.std.specs.Vec.{with_items, vec_len, vec_capacity}
use Rattle.std.proofs.lemmas.List.FromFn.{length-map-range_with_len, get_or-map-range_with_len}
use Rattle.slab.specs.Slab.{Slab, get, slab_len}
use Rattle.timer_links.specs.Types.{Node, Neighbours}
use Rattle.timer_links.specs.Lists.{LinksState, list_at, row_count, KeyedLists, Rows}
use Rattle.timer_links.specs.Ring.{neighbours_at, key_of}
use Rattle.timer_links.specs.Links.{LeadsOver, walk, lists_of, IsLinked, HasRoom, IsReady, nodes_of}
use Rattle.timer_links.proofs.Rows.{length_list_at}
use Rattle.timer_links.proofs.Rings.{node_at-here}
use Rattle.timer_links.proofs.Room.{room_stays, ready_kept}

pub root_low : (n l : ℕ) → l < n → key_of n l ≡ None
root_low n l b = let h : nat_lt l n ≡ true = grind (arith, nat_tests) in rw h refl

pub key_high : (n k : ℕ) → key_of n (n + k) ≡ Some k
key_high n k =
    let h : nat_lt (n + k) n ≡ false = grind (arith, nat_tests) in
    let e : n + k - n ≡ k = omega arith in
    rw (h, e) refl

-- each row's node stands under its key
abbrev pub AreHeld : Slab Node → Rows → Type 0
AreHeld nodes rows = AllByRecursion (λ row. get nodes row.0 ≡ Some row.1) rows

-- the walk goes along the links
walk_is : (m n : ℕ) (nodes : Slab Node) (s : List Neighbours) (l p : ℕ) (rows : Rows) → l < n → length rows ≤ m → AreHeld nodes rows
    → LeadsOver n s p rows l → walk m n nodes s (neighbours_at s p).after ≡ rows
walk_is zero n nodes s l p [] b f a c = refl
walk_is zero n nodes s l p (r ∷ rs) b f a c = absurd (omega arith)
walk_is (suc m) n nodes s l p [] b f a c = rw (c.forth, root_low n l b) refl
walk_is (suc m) n nodes s l p (r ∷ rs) b f a c = rw (c.0.forth, key_high n r.0, a.0)
    (ap (λ (x : Rows). r ∷ x) (walk_is m n nodes s l (n + r.0) rs b (omega arith) a.1 c.1))

module _ (n : ℕ) (nodes : Slab Node) (s : List Neighbours) (v : KeyedLists) (h : IsLinked n nodes s v) where
  pub held_from : (l : ℕ) (rows front : Rows) → l < n → list_at l v ≡ front ++ rows → AreHeld nodes rows
  held_from l [] front b e = tt
  held_from l (r ∷ rs) front b e = (
    h.held r.0 ∙ node_at-here n s v h.rings r.0 l front r.1 rs b e h.many,
    held_from l rs (front ++ r ∷ []) b (e ∙ sym (append_assoc front (r ∷ []) rs)),
  )

  pub lists_are : lists_of n nodes s ≡ v
  lists_are =
      let f : ℕ → Rows = λ root. walk (slab_len nodes) n nodes s (neighbours_at s root).after in
      let many : length v ≡ n = h.many in
      let same : length (lists_of n nodes s) ≡ n = length-map-range_with_len f 0 n in
      let total : slab_len nodes ≡ row_count v = h.total in
      ext_get_or [] (lists_of n nodes s) v (same ∙ sym many) (λ l d.
      let e : length (lists_of n nodes s) ≡ n = same in
      let b : l < n = omega arith in
      let k : length (list_at l v) ≤ row_count v = length_list_at v l in
      get_or-map-range_with_len f 0 n l l [] b (omega arith) ∙ walk_is (slab_len nodes) n nodes s l l (list_at l v) b (omega arith)
      (held_from l (list_at l v) [] b refl) (h.rings l b))

-- the lists of a value, which is open
pub opened : {N Z : Type 0} (node_of : N → Node) (n room ready : ℕ) (kept : Slab N) (neighbours : Vec Neighbours Z) (v : LinksState)
    → record { lists = lists_of n (nodes_of node_of kept) neighbours.items; room = room; ready = ready } ≡ v
    → IsLinked n (nodes_of node_of kept) neighbours.items (lists_of n (nodes_of node_of kept) neighbours.items)
    × HasRoom room n kept.capacity (vec_capacity neighbours) × IsReady ready n kept.capacity (vec_len neighbours)
    → IsLinked n (nodes_of node_of kept) neighbours.items v.lists
opened node_of n room ready kept neighbours v e h =
    let P : KeyedLists → Type 0 = λ x. IsLinked n (nodes_of node_of kept) neighbours.items x in
    subst P (ap (λ (r : LinksState). r.lists) e) h.0

-- fields with these lists as their value, which may be closed again
pub record Stands {Z : Type 0} (n room ready : ℕ) (nodes : Slab Node) (neighbours : Vec Neighbours Z) (v : KeyedLists) : Type 0 where
  pub invariant : IsLinked n nodes neighbours.items (lists_of n nodes neighbours.items)
      × HasRoom room n nodes.capacity (vec_capacity neighbours) × IsReady ready n nodes.capacity (vec_len neighbours)
  pub value : lists_of n nodes neighbours.items ≡ v

pub stands : {Z : Type 0} (n room ready : ℕ) (nodes : Slab Node) (neighbours : Vec Neighbours Z) (v : KeyedLists)
    → IsLinked n nodes neighbours.items v → HasRoom room n nodes.capacity (vec_capacity neighbours) → IsReady ready n nodes.capacity (vec_len neighbours)
    → Stands n room ready nodes neighbours v
stands n room ready nodes neighbours v h r k =
    let e : lists_of n nodes neighbours.items ≡ v = lists_are n nodes neighbours.items v h in
    let P : KeyedLists → Type 0 = λ x. IsLinked n nodes neighbours.items x in
    record { invariant = (subst P (sym e) h, r, k); value = e }

-- the same after a change of nodes, and of the links in the slice of the vector: room and what is ready stay
pub written : {Z : Type 0} (n room ready capacity : ℕ) (new : Slab Node) (neighbours : Vec Neighbours Z) (ws : List Neighbours)
    (v : KeyedLists) → HasRoom room n capacity (vec_capacity neighbours) → IsReady ready n capacity (vec_len neighbours)
    → new.capacity ≡ capacity → length ws ≡ neighbours.len → IsLinked n new ws v
    → Stands n room ready new (with_items neighbours ws) v
written n room ready capacity new neighbours ws v r k same e h =
    let P : List Neighbours → Type 0 = λ x. IsLinked n new x v in
    stands n room ready new (with_items neighbours ws) v (subst P (sym (with_items_is neighbours ws e)) h)
    (room_stays room n _ _ _ _ r same refl) (ready_kept ready n _ _ _ _ k (omega arith) (omega arith))

-- the value of these fields is the state with these lists, this room, and so many keys ready
pub state_is : (w : LinksState) (x : KeyedLists) (room ready : ℕ) → x ≡ w.lists → room ≡ w.room → ready ≡ w.ready
    → record { lists = x; room = room; ready = ready } ≡ w
state_is w x room ready e k r =
    let f : KeyedLists → LinksState = λ y. record { lists = y; room = room; ready = ready } in
    let g : ℕ → LinksState = λ y. record { lists = w.lists; room = y; ready = ready } in
    let h : ℕ → LinksState = λ y. record { lists = w.lists; room = w.room; ready = y } in
    ap f e ∙ (ap g k ∙ ap h r)
