-- Lemmas for the calls of `Links`: what they read, and the representation after a node is added, removed, moved or set.
use Rattle.std.proofs.Common.{◌≡◌, ◌≢◌, ◌<◌, ◌≤◌, ◌+◌, ◌-◌, ℕ, zero, suc, List, [], ◌∷◌, ◌++◌, length, refl, sym, ◌∙◌, ap, subst, inl, inr, arith, length-set, length-append, get_or-set_same, get_or-set_other, false, IsTrue, map, Option, Some, None, IsSome, IfSome, slice_set, slice_index_or}
use Rattle.std.specs.List.{AllByRecursion}
use Rattle.std.proofs.lemmas.Bool.{cases_eq}
use Rattle.std.proofs.lemmas.List.{get_or_read, append_assoc}
use Rattle.std.proofs.lemmas.List.Sums.{sum_by-set}
use Rattle.slab.specs.Slab.{Slab, get, slab_len, with_value, ContainsKey, Updates}
use Rattle.timer_base.proofs.Basics.{some_same, some_none}
use Rattle.timer_base.proofs.OrderLaws.{All-append, All-weaken}
use Rattle.timer_links.specs.Types.{Node, Neighbours, INDEXES}
use Rattle.timer_links.specs.Lists.{node_in, node_at, first_key, list_at, row_count, without_key, with_row, moved_back, first_row_moved, front_moved, appended, IsAloneIn, KeyedLists, Row, Rows}
use Rattle.timer_links.specs.Ring.{neighbours_at, key_of, neighbour_on_both_sides, Joins, JoinsLast, IsGrown}
use Rattle.timer_links.specs.Links.{LeadsOver, AreRings, IsLinked}
use Rattle.timer_links.proofs.Rows.{none_is, IsAbsent, look, node_in-absent, node_in-other, node_in-append, length_split, StandsIn, stands_in, without_none, node_at-none, node_at-set, row_count-set}
use Rattle.timer_links.proofs.Rings.{before_end, after_start, ring_at, leads_renamed, leads_same, rings_set, around, apart_here, not_elsewhere, is_alone, node_at-here, without_is, detached, absent, attached, rings_appended}
use Rattle.timer_links.proofs.Room.{counted}
use Rattle.timer_links.proofs.UniqueLists.{root_low, key_high, held_from}

-- the node of a key in use
pub record Held (o : Option Node) : Type 0 where
  pub node : Node
  pub is : o ≡ Some node

pub held : (o : Option Node) → IsSome o → Held o
held None i = absurd (none_is i)
held (Some x) i = record { node = x; is = refl }

pub some_is : {N : Type 0} (o : Option N) (x : N) → o ≡ Some x → IsSome o
some_is None x e = absurd (some_none x (sym e))
some_is (Some y) x e = refl

record IsFront (key : ℕ) (rows : Rows) : Type 0 where
  pub node : Node
  pub rest : Rows
  pub is : rows ≡ (key, node) ∷ rest

front_row : (key : ℕ) (rows : Rows) → first_key rows ≡ Some key → IsFront key rows
front_row key [] e = absurd (some_none key (sym e))
front_row key (r ∷ rs) e = record { node = r.1; rest = rs; is = ap (λ (x : ℕ). (x, r.1) ∷ rs) (some_same r.0 key e) }

-- What holds of each row, for lists that were put together.

all_parts : (P : Row → Type 0) (xs ys : Rows) → AllByRecursion P (xs ++ ys) → AllByRecursion P xs × AllByRecursion P ys
all_parts P [] ys a = (tt, a)
all_parts P (x ∷ xs) ys a = let p = all_parts P xs ys a.1 in ((a.0, p.0), p.1)

-- What is read: the neighbours of an index, in a slice that is to be written.

pub record IsRead (s t : List Neighbours) (p : ℕ) (x : Neighbours) : Type 0 where
  pub same : t ≡ s
  pub is : x ≡ neighbours_at s p
  pub low : (neighbours_at s p).before < length s
  pub before : x.before < length t
  pub after : x.after < length t

-- the join of what was read is one of the neighbours
pub joins_as : (s t u : List Neighbours) (a b f g : ℕ) → t ≡ s → a ≡ f → b ≡ g → Joins a b t u → Joins f g s u
joins_as s t u a b f g e p q j =
    let P : List Neighbours → Type 0 = λ x. Joins f g x u in
    let Q : ℕ → Type 0 = λ x. Joins x g t u in
    let R : ℕ → Type 0 = λ x. Joins a x t u in
    subst P e (subst Q p (subst R q j))

pub joins_read : (s t u : List Neighbours) (p : ℕ) (x : Neighbours) → IsRead s t p x → Joins x.before x.after t u
    → Joins (neighbours_at s p).before (neighbours_at s p).after s u
joins_read s t u p x r j = joins_as s t u _ _ _ _ r.same (ap (λ (y : Neighbours). y.before) r.is)
    (ap (λ (y : Neighbours). y.after) r.is) j

pub joins_last_read : (root index : ℕ) (s t u : List Neighbours) → t ≡ s → JoinsLast root index t u → JoinsLast root index s u
joins_last_read root index s t u e j = let P : List Neighbours → Type 0 = λ x. JoinsLast root index x u in subst P e j

pub size_last : (root index : ℕ) (s u : List Neighbours) → JoinsLast root index s u → length u ≡ length s
size_last root index s u (t, j, k) = k.size ∙ j.size

module _ (n : ℕ) (nodes : Slab Node) (s : List Neighbours) (v : KeyedLists) (h : IsLinked n nodes s v) where
  pub used : (key : ℕ) → IsSome (node_at key v) → ContainsKey nodes key
  used key i = rw (h.held key) i

  pub seat : (key : ℕ) (node : Node) → get nodes key ≡ Some node → StandsIn key node v
  seat key node g = stands_in key node v (sym (h.held key) ∙ g)

  low : (l : ℕ) → l < length v → l < n
  low l b = rw (sym h.many) b

  -- each index of a ring has neighbours
  abbrev IsIn : ℕ → Type 0
  IsIn i = i < length s

  root_in : (l : ℕ) → l < n → IsIn l
  root_in l b = let r : n ≤ length s = h.roots in omega arith

  rows_in : (l : ℕ) (rows : Rows) → l < n → list_at l v ≡ rows → AllByRecursion (λ r. n + r.0 < length s) rows
  rows_in l rows b e = All-weaken (λ r. get nodes r.0 ≡ Some r.1) (λ r. n + r.0 < length s) rows
      (λ r g. h.reached r.0 (some_is (get nodes r.0) r.1 g)) (held_from n nodes s v h l rows [] b e)

  read_as : (t : List Neighbours) (p : ℕ) (x : Neighbours) → t ≡ s → IsIn p → x ≡ slice_index_or s p x
      → IsIn (neighbours_at s p).before → IsIn (neighbours_at s p).after → IsRead s t p x
  read_as t p x e i f b a =
      let is : x ≡ neighbours_at s p = get_or_read s p x i f (record { before = 0; after = 0 }) in
      record { same = e; is = is; low = b; before = rw (is, e) b; after = rw (is, e) a }

  pub read_node : (key : ℕ) (t : List Neighbours) (x : Neighbours) → ContainsKey nodes key → t ≡ s → x ≡ slice_index_or s (n + key) x
      → IsRead s t (n + key) x
  read_node key t x c e f =
      let y = held (get nodes key) c in
      let z = seat key y.node y.is in
      let b : z.l < n = low z.l z.in_range in
      let a = around n s v h.rings key z.l z.front y.node z.rest b z.at in
      let r = all_parts (λ r. n + r.0 < length s) z.front ((key, y.node) ∷ z.rest) (rows_in z.l _ b z.at) in
      read_as t (n + key) x e (h.reached key c) f
      (before_end n s IsIn z.l (n + key) z.front a.0 (root_in z.l b) r.0)
      (after_start n s IsIn (n + key) z.l z.rest a.1 r.1.1 (root_in z.l b))

  pub back_in : (l : ℕ) → l < length v → IsIn (neighbours_at s l).before
  back_in l d =
      let b : l < n = low l d in
      before_end n s IsIn l l (list_at l v) (h.rings l b) (root_in l b) (rows_in l (list_at l v) b refl)

  pub read_root : (l : ℕ) (t : List Neighbours) (x : Neighbours) → l < length v → t ≡ s → x ≡ slice_index_or s l x → IsRead s t l x
  read_root l t x d e f =
      let b : l < n = low l d in
      read_as t l x e (root_in l b) f (back_in l d)
      (after_start n s IsIn l l (list_at l v) (h.rings l b) (rows_in l (list_at l v) b refl) (root_in l b))

  -- the back of a list, once two indexes were joined
  pub back_after : (t : List Neighbours) (f b l : ℕ) → l < length v → IsIn f → Joins f b s t → (neighbours_at t l).before < length t
  back_after t f b l d r j = rw j.size (elim (cases_eq l b) [
    | inl q ↦ rw (q, j.back_to) r
    | inr o ↦ rw (j.befores l o) (back_in l d)
  ])

  -- the first row behind an index has the key that is read off its next index
  key_after : (p l : ℕ) (rows : Rows) → l < n → LeadsOver n s p rows l → key_of n (neighbours_at s p).after ≡ first_key rows
  key_after p l [] b c = rw c.forth (root_low n l b)
  key_after p l (r ∷ rs) b c = rw c.0.forth (key_high n r.0)

  pub next_key : (key l : ℕ) (front : Rows) (node : Node) (rest : Rows) → l < length v
      → list_at l v ≡ front ++ (key, node) ∷ rest → key_of n (neighbours_at s (n + key)).after ≡ first_key rest
  next_key key l front node rest d e =
      let b : l < n = low l d in key_after (n + key) l rest b (around n s v h.rings key l front node rest b e).1

  -- a list is empty if its root is its own neighbour
  pub root_alone : (l : ℕ) (x : Neighbours) → l < length v → x ≡ slice_index_or s l x
      → (x.after ≡ l → list_at l v ≡ []) × (list_at l v ≡ [] → x.after ≡ l)
  root_alone l x d f =
      let b : l < n = low l d in
      let a : x.after ≡ (neighbours_at s l).after = ap (λ (y : Neighbours). y.after) (read_root l s x d refl f).is in (
        (λ e. empty l (list_at l v) b (h.rings l b) (sym a ∙ e)),
        (λ e. a ∙ (let P : Rows → Type 0 = λ r. LeadsOver n s l r l in subst P e (h.rings l b)).forth),
      )
    where
      empty : (l : ℕ) (rows : Rows) → l < n → LeadsOver n s l rows l → (neighbours_at s l).after ≡ l → rows ≡ []
      empty l [] b c e = refl
      empty l (r ∷ rs) b c e = let q : n + r.0 ≡ l = sym c.0.forth ∙ e in absurd (omega arith)

  -- and else its next index is that of its first key
  pub root_leads : (l : ℕ) (x : Neighbours) → l < length v → x ≡ slice_index_or s l x → x.after ≢ l
      → (n ≤ x.after) × (Some (x.after - n) ≡ first_key (list_at l v))
  root_leads l x d f o =
      let b : l < n = low l d in
      let a : x.after ≡ (neighbours_at s l).after = ap (λ (y : Neighbours). y.after) (read_root l s x d refl f).is in
      leads (list_at l v) (h.rings l b) a
    where
      leads : (rows : Rows) → LeadsOver n s l rows l → x.after ≡ (neighbours_at s l).after
          → (n ≤ x.after) × (Some (x.after - n) ≡ first_key rows)
      leads [] c a = absurd (o (a ∙ c.forth))
      leads (r ∷ rs) c a =
          let q : x.after ≡ n + r.0 = a ∙ c.0.forth in
          let k : x.after - n ≡ r.0 = omega arith in
          (omega arith, ap (λ (key : ℕ). Some key) k)

  pub is_alone_in : (key : ℕ) (x : Neighbours) → x ≡ neighbours_at s (n + key) → IsAloneIn key v (neighbour_on_both_sides x)
  is_alone_in key x q l front node rest d e =
      ap neighbour_on_both_sides q ∙ is_alone n s v h.rings key l front node rest (low l d) e

  pub node_was : (key l : ℕ) (front : Rows) (was x : Node) (rest : Rows) → l < length v → list_at l v ≡ front ++ (key, was) ∷ rest
      → get nodes key ≡ Some x → x ≡ was
  node_was key l front was x rest d e g = some_same x was (sym g
      ∙ (h.held key ∙ node_at-here n s v h.rings key l front was rest (low l d) e h.many))

  -- a key that is not in use
  pub unused : (key : ℕ) → (ContainsKey nodes key → IsTrue false) → node_at key v ≡ None
  unused key f = sym (h.held key) ∙ no_value (get nodes key) f
    where
      no_value : (o : Option Node) → (IsSome o → IsTrue false) → o ≡ None
      no_value None i = refl
      no_value (Some x) i = let z : IsTrue false = i refl in cc

  pub is_missing : (key : ℕ) → node_at key v ≡ None → map (without_key key) v ≡ v
  is_missing key e = without_none key v (λ l d. absent n s v h.rings h.many key e l (low l d))

  -- What is written.

  pub pushed : (more : Slab Node) (u : List Neighbours) (key l : ℕ) (node : Node) → l < length v → get nodes key ≡ None
      → Updates nodes more key (Some node) → slab_len more ≡ slab_len nodes + 1 → n + key < length s → JoinsLast l (n + key) s u
      → IsLinked n more u (with_row l (key, node) v)
  pushed more u key l node d g z len r (t, j, k) =
      let b : l < n = low l d in
      let new : Rows = list_at l v ++ (key, node) ∷ [] in
      let rings : AreRings n u (with_row l (key, node) v) =
      attached n s v h.rings key l node b (absent n s v h.rings h.many key (sym (h.held key) ∙ g)) t u j k h.many in
      let many : length (with_row l (key, node) v) ≡ n = length-set v l new ∙ h.many in
      let size : length u ≡ length s = k.size ∙ j.size in
      record {
        many = many;
        few = h.few;
        rings = rings;
        held = λ k. elim (cases_eq k key) [
          | inl q ↦ rw q (z.changed ∙ sym (node_at-here n u (with_row l (key, node) v) rings key l (list_at l v) node [] b
              (get_or-set_same v l new [] d) many))
          | inr m ↦ z.others k m ∙ (h.held k ∙ sym (node_at-set k l new v
              (node_in-append k ((key, node) ∷ []) (list_at l v) ((λ q. m (sym q)), tt))))
        ];
        total = let total : slab_len nodes ≡ row_count v = h.total in
            omega (arith, row_count-set v l new d, length-append (list_at l v) ((key, node) ∷ []));
        roots = rw size h.roots;
        reached = λ k i. rw size (elim (cases_eq k key) [
          | inl q ↦ rw q r
          | inr m ↦ h.reached k (rw (z.others k m) at i)
        ]);
        numbered = rw size h.numbered;
      }

  -- the row at this position is removed
  cut_out : (less : Slab Node) (u : List Neighbours) (key l : ℕ) (front : Rows) (node : Node) (rest : Rows) → l < length v
      → list_at l v ≡ front ++ (key, node) ∷ rest → Updates nodes less key None → slab_len less + 1 ≡ slab_len nodes
      → Joins (neighbours_at s (n + key)).before (neighbours_at s (n + key)).after s u
      → IsLinked n less u (slice_set v l (front ++ rest))
  cut_out less u key l front node rest d e z len j =
      let b : l < n = low l d in
      let new : Rows = front ++ rest in
      let apart = apart_here n s v h.rings key l front node rest b e in
      let many : length (slice_set v l new) ≡ n = length-set v l new ∙ h.many in
      let gone : (m : ℕ) → m < n → IsAbsent key (list_at m (slice_set v l new)) = λ m i. elim (cases_eq m l) [
        | inl q ↦ rw (q, get_or-set_same v l new [] d) (All-append (λ r. r.0 ≢ key) front rest apart.0 apart.1)
        | inr o ↦ rw (get_or-set_other v l m new [] o) (not_elsewhere n s v h.rings key l front node rest b e m i o)
      ] in
      let length_was : length (list_at l v) ≡ length (front ++ (key, node) ∷ rest) = ap (λ (x : Rows). length x) e in
      let total : slab_len nodes ≡ row_count v = h.total in
      record {
        many = many;
        few = h.few;
        rings = detached n s v h.rings key l front node rest b e h.many u j;
        held = λ k. elim (cases_eq k key) [
          | inl q ↦ rw q (z.changed ∙ sym (node_at-none key (slice_set v l new) (λ m i. gone m (rw many at i))))
          | inr o ↦ z.others k o ∙ (h.held k ∙ sym (node_at-set k l new v
              (sym (ap (node_in k) e ∙ node_in-other k key node rest front o))))
        ];
        total = omega (arith, row_count-set v l new d, length_split key node rest front);
        roots = rw j.size h.roots;
        reached = λ k i. elim (cases_eq k key) [
          | inl q ↦ absurd (none_is (rw (q, z.changed) at i))
          | inr m ↦ rw j.size (h.reached k (rw (z.others k m) at i))
        ];
        numbered = rw j.size h.numbered;
      }

  pub unlinked : (less : Slab Node) (u : List Neighbours) (key : ℕ) → ContainsKey nodes key → Updates nodes less key None
      → slab_len less + 1 ≡ slab_len nodes → Joins (neighbours_at s (n + key)).before (neighbours_at s (n + key)).after s u
      → IsLinked n less u (map (without_key key) v)
  unlinked less u key c z len j =
      let y = held (get nodes key) c in
      let f = seat key y.node y.is in
      let P : KeyedLists → Type 0 = λ x. IsLinked n less u x in
      subst P (sym (without_is n s v h.rings key f.l f.front y.node f.rest (low f.l f.in_range) f.at h.many))
      (cut_out less u key f.l f.front y.node f.rest f.in_range f.at z len j)

  -- a slot in use is set
  abbrev with_slot : ℕ → Option Node → Slab Node
  with_slot key slot = record nodes { slots = slice_set nodes.slots key slot }

  module _ (key : ℕ) (c : ContainsKey nodes key) where
    slot_below : key < length nodes.slots
    slot_below = below nodes.slots key c
      where
        below : (slots : List (Option Node)) (key : ℕ) → IsSome (slice_index_or slots key None) → key < length slots
        below [] key i = absurd (none_is i)
        below (x ∷ xs) zero i = omega arith
        below (x ∷ xs) (suc key) i = omega (arith, below xs key i)

    slot_set : (slot : Option Node) → Updates nodes (with_slot key slot) key slot
    slot_set slot = record {
      changed = get_or-set_same nodes.slots key slot None slot_below;
      others = λ k o. get_or-set_other nodes.slots key k slot None o;
    }

    slots_counted : (slot : Option Node) → slab_len (with_slot key slot) + 1 ≡ slab_len nodes + counted slot
    slots_counted slot =
        let one : counted (get nodes key) ≡ 1 = rw (held (get nodes key) c).is refl in
        omega (arith, sum_by-set counted nodes.slots key slot None slot_below)

  -- the node at this position is replaced
  pub node_set : (key l : ℕ) (front : Rows) (was node : Node) (rest : Rows) → l < length v
      → list_at l v ≡ front ++ (key, was) ∷ rest
      → IsLinked n (with_value nodes key node) s (slice_set v l (front ++ (key, node) ∷ rest))
  node_set key l front was node rest d e =
      let b : l < n = low l d in
      let new : Rows = front ++ (key, node) ∷ rest in
      let lists : KeyedLists = slice_set v l new in
      let many : length lists ≡ n = length-set v l new ∙ h.many in
      let i : ContainsKey nodes key = some_is (get nodes key) was
      (h.held key ∙ node_at-here n s v h.rings key l front was rest b e h.many) in
      let z = slot_set key i (Some node) in
      let rings : AreRings n s lists = rings_set n s v l new h.many
      (leads_renamed n s key was node rest l l front (ring_at n s v h.rings l (front ++ (key, was) ∷ rest) b e))
      (λ m c o. h.rings m c) in
      let length_was : length (list_at l v) ≡ length (front ++ (key, was) ∷ rest) = ap (λ (x : Rows). length x) e in
      let total : slab_len nodes ≡ row_count v = h.total in
      record {
        many = many;
        few = h.few;
        rings = rings;
        held = λ k. elim (cases_eq k key) [
          | inl q ↦ rw q (z.changed ∙ sym (node_at-here n s lists rings key l front node rest b (get_or-set_same v l new [] d) many))
          | inr o ↦ z.others k o ∙ (h.held k ∙ sym (node_at-set k l new v (node_in-other k key node rest front o
              ∙ sym (ap (node_in k) e ∙ node_in-other k key was rest front o))))
        ];
        total = let same : length (front ++ (key, node) ∷ rest) ≡ length (front ++ (key, was) ∷ rest) =
            omega (arith, length_split key node rest front, length_split key was rest front) in
            omega (arith, slots_counted key i (Some node), row_count-set v l new d);
        roots = h.roots;
        reached = λ k j. elim (cases_eq k key) [
          | inl q ↦ rw q (h.reached key i)
          | inr o ↦ h.reached k (rw (z.others k o) at j)
        ];
        numbered = h.numbered;
      }

  -- more indexes change nothing
  pub grown : (t : List Neighbours) → IsGrown s t → length t ≤ INDEXES → IsLinked n nodes t v
  grown t g f =
      let more : length s ≤ length t = g.longer in
      record {
        many = h.many;
        few = h.few;
        rings = λ l b. leads_same n s t g.same l l (list_at l v) (h.rings l b);
        held = h.held;
        total = h.total;
        roots = let r : n ≤ length s = h.roots in omega arith;
        reached = λ k i. let r : n + k < length s = h.reached k i in omega arith;
        numbered = f;
      }

  -- nor does memory that was reserved for more nodes and more indexes
  pub reserved : (same : Slab Node) (t : List Neighbours) → same ≡ record nodes { capacity = same.capacity } → t ≡ s
      → IsLinked n same t v
  reserved same t e k =
      let P : Slab Node → Type 0 = λ x. IsLinked n x t v in
      let Q : List Neighbours → Type 0 = λ x. IsLinked n (record nodes { capacity = same.capacity }) x v in
      subst P (sym e) (subst Q (sym k) (record {
        many = h.many;
        few = h.few;
        rings = h.rings;
        held = h.held;
        total = h.total;
        roots = h.roots;
        reached = h.reached;
        numbered = h.numbered;
      }))

  -- all nodes of one list move to the back of another
  module _ (from to : ℕ) (bf : from < length v) (bt : to < length v) (o : to ≢ from) where
    abbrev both : Rows
    both = list_at to v ++ list_at from v

    abbrev less : KeyedLists
    less = slice_set v from []

    less_many : length less ≡ length v
    less_many = length-set v from []

    less_to : list_at to less ≡ list_at to v
    less_to = get_or-set_other v from to [] [] o

    at_to : list_at to (appended from to v) ≡ both
    at_to = get_or-set_same less to both [] (rw less_many bt)

    count_now : row_count (appended from to v) ≡ row_count v
    count_now =
        let same : length (list_at to less) ≡ length (list_at to v) = ap (λ (x : Rows). length x) less_to in
        omega (arith, row_count-set v from [] bf, row_count-set less to both (rw less_many bt), length-append (list_at to v) (list_at from v))

    pub appended_linked : (key : ℕ) (t a u : List Neighbours) → first_key (list_at from v) ≡ Some key
        → Joins (neighbours_at s to).before (neighbours_at s from).after s t → Joins (neighbours_at s from).before to t a
        → Joins from from a u → IsLinked n nodes u (appended from to v)
    appended_linked key t a u first i j k =
        let f = front_row key (list_at from v) first in
        let ct : to < n = low to bt in
        let rings : AreRings n u (appended from to v) =
        rings_appended n s v h.rings from to (key, f.node) f.rest (low from bf) ct o f.is t a u i j k h.many in
        let many : length (appended from to v) ≡ n = length-set less to both ∙ (less_many ∙ h.many) in
        let size : length u ≡ length s = k.size ∙ (j.size ∙ i.size) in
        record {
          many = many;
          few = h.few;
          rings = rings;
          held = λ x. h.held x ∙ sym (elim (look x (list_at from v)) [
            | inl none ↦ node_at-set x to both less (node_in-append x (list_at from v) (list_at to v) none
                ∙ sym (ap (node_in x) less_to)) ∙ node_at-set x from [] v (sym (node_in-absent x (list_at from v) none))
            | inr g ↦
                let at = at_to ∙ (ap (λ (r : Rows). list_at to v ++ r) g.0.is
                ∙ sym (append_assoc (list_at to v) g.0.front ((x, g.0.node) ∷ g.0.rest))) in
                node_at-here n u (appended from to v) rings x to (list_at to v ++ g.0.front) g.0.node g.0.rest ct at many
                ∙ sym (node_at-here n s v h.rings x from g.0.front g.0.node g.0.rest (low from bf) g.0.is h.many)
          ]);
          total = h.total ∙ sym count_now;
          roots = rw size h.roots;
          reached = λ x y. rw size (h.reached x y);
          numbered = rw size h.numbered;
        }

-- a node is removed from its list and put at the back of one
pub moved : (n : ℕ) (nodes : Slab Node) (s : List Neighbours) (v : KeyedLists) (h : IsLinked n nodes s v) (t u : List Neighbours)
    (key l : ℕ) (node : Node) → get nodes key ≡ Some node → l < length v
    → Joins (neighbours_at s (n + key)).before (neighbours_at s (n + key)).after s t → JoinsLast l (n + key) t u
    → IsLinked n nodes u (moved_back key l node v)
moved n nodes s v h t u key l node g d j k =
    let c : ContainsKey nodes key = some_is (get nodes key) node g in
    let less : Slab Node = with_slot n nodes s v h key None in
    let z = slot_set n nodes s v h key c None in
    let count : slab_len less + 1 ≡ slab_len nodes = omega (arith, slots_counted n nodes s v h key c None) in
    let out = unlinked n nodes s v h less t key c z count j in
    pushed n less t (map (without_key key) v) out nodes u key l node (rw (out.many, sym h.many) d) z.changed
    (record { changed = g; others = λ i o. sym (z.others i o) }) (sym count) (rw j.size (h.reached key c)) k

-- The first row of a list.

-- the first row, the lists without it, and the neighbour of its index
pub record Front (n : ℕ) (nodes : Slab Node) (s : List Neighbours) (v : KeyedLists) (l key : ℕ) : Type 0 where
  pub node : Node
  pub rest : Rows
  pub is : list_at l v ≡ (key, node) ∷ rest
  pub held : get nodes key ≡ Some node
  pub used : ContainsKey nodes key
  pub without : map (without_key key) v ≡ slice_set v l rest
  pub before : l ≡ (neighbours_at s (n + key)).before

pub front_of : (n : ℕ) (nodes : Slab Node) (s : List Neighbours) (v : KeyedLists) (l key : ℕ) → IsLinked n nodes s v → l < length v
    → first_key (list_at l v) ≡ Some key → Front n nodes s v l key
front_of n nodes s v l key h d e =
    let f = front_row key (list_at l v) e in
    let b : l < n = rw (sym h.many) d in
    let g : get nodes key ≡ Some f.node = h.held key ∙ node_at-here n s v h.rings key l [] f.node f.rest b f.is h.many in
    record {
      node = f.node;
      rest = f.rest;
      is = f.is;
      held = g;
      used = some_is (get nodes key) f.node g;
      without = without_is n s v h.rings key l [] f.node f.rest b f.is h.many;
      before = sym (around n s v h.rings key l [] f.node f.rest b f.is).0.back_to;
    }

pub first_used : (n : ℕ) (nodes : Slab Node) (s : List Neighbours) (v : KeyedLists) (l : ℕ) (o : Option ℕ) → IsLinked n nodes s v
    → l < length v → o ≡ first_key (list_at l v) → IfSome o (λ key. IsSome (node_at key v))
first_used n nodes s v l None h d e = tt
first_used n nodes s v l (Some key) h d e = rw (sym (h.held key)) (front_of n nodes s v l key h d (sym e)).used

pub moves_front : (n : ℕ) (nodes : Slab Node) (s u : List Neighbours) (v : KeyedLists) (from to key : ℕ)
    (f : Front n nodes s v from key) → IsLinked n nodes u (moved_back key to f.node v) → IsLinked n nodes u (front_moved from to v)
moves_front n nodes s u v from to key f h =
    let P : KeyedLists → Type 0 = λ x. IsLinked n nodes u x in
    subst P (ap (λ (x : KeyedLists). with_row to (key, f.node) x) f.without
    ∙ sym (ap (λ (x : Rows). first_row_moved from to v x) f.is)) h
