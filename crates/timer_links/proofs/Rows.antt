-- Lemmas about rows and lists of rows: which keys they have, and where a key stands.
use Rattle.std.proofs.Common.{◌≡◌, ◌≢◌, ◌<◌, ◌≤◌, ◌+◌, ℕ, ◌⊎◌, zero, suc, [], ◌∷◌, ◌++◌, length, refl, sym, ◌∙◌, ap, inl, inr, arith, map, length-append, Some, None, IsSome, slice_set}
use Rattle.std.specs.List.{AllByRecursion}
use Rattle.std.proofs.lemmas.Bool.{cases_eq, eq-eqb, ne_eqb}
use Rattle.timer_base.proofs.Basics.{some_same, some_none}
use Rattle.timer_links.specs.Types.{Node}
use Rattle.timer_links.specs.Lists.{node_in, node_at, list_at, row_count, without_key, KeyedLists, Row, Rows}

pub none_is : IsSome {T = Node} None → ⊥
none_is h = cc

-- the key is none of these rows'
abbrev pub IsAbsent : ℕ → Rows → Type 0
IsAbsent key rows = AllByRecursion (λ row. row.0 ≢ key) rows

-- where a key stands in a list
pub record FoundIn (key : ℕ) (rows : Rows) : Type 0 where
  pub front : Rows
  pub node : Node
  pub rest : Rows
  pub is : rows ≡ front ++ (key, node) ∷ rest

abbrev behind : (key : ℕ) (r : Row) (rs : Rows) → FoundIn key rs → FoundIn key (r ∷ rs)
behind key r rs f = record { front = r ∷ f.front; node = f.node; rest = f.rest; is = ap (λ (x : Rows). r ∷ x) f.is }

abbrev here : (key : ℕ) (r : Row) (rs : Rows) → r.0 ≡ key → FoundIn key (r ∷ rs)
here key r rs e = record { front = []; node = r.1; rest = rs; is = ap (λ (k : ℕ). (k, r.1) ∷ rs) e }

-- the first row with the key, if there is one
pub look : (key : ℕ) (rows : Rows) → IsAbsent key rows ⊎ ((f : FoundIn key rows) × IsAbsent key f.front)
look key [] = inl tt
look key (r ∷ rs) = elim (cases_eq r.0 key) [
  | inl e ↦ inr (here key r rs e, tt)
  | inr n ↦ elim (look key rs) [ inl a ↦ inl (n, a) | inr f ↦ inr (behind key r rs f.0, (n, f.1)) ]
]

-- a key that has one position alone is not before it and not after it
pub once : (key : ℕ) (node : Node) (rest front : Rows)
    → ((f : FoundIn key (front ++ (key, node) ∷ rest)) → length f.rest ≡ length rest) → IsAbsent key front × IsAbsent key rest
once key node rest [] same = (
  tt,
  elim (look key rest) [
    | inl a ↦ a
    | inr f ↦
        let e : length f.0.rest ≡ length rest = same (behind key (key, node) rest f.0) in
        let g : length rest ≡ length (f.0.front ++ (key, f.0.node) ∷ f.0.rest) = ap (λ (x : Rows). length x) f.0.is in
        absurd (omega (arith, length-append f.0.front ((key, f.0.node) ∷ f.0.rest)))
  ],
)
once key node rest (x ∷ xs) same =
    let all : Rows = xs ++ (key, node) ∷ rest in
    let p = once key node rest xs (λ f. same (behind key x all f)) in (
      (
        (λ e.
            let q : length all ≡ length rest = same (here key x all e) in
            omega (arith, length-append xs ((key, node) ∷ rest))),
        p.0,
      ),
      p.1,
    )

pub without_absent : (key : ℕ) (rows : Rows) → IsAbsent key rows → without_key key rows ≡ rows
without_absent key [] a = refl
without_absent key (r ∷ rs) a = rw (ne_eqb r.0 key a.0) (ap (λ (x : Rows). r ∷ x) (without_absent key rs a.1))

without_split : (key : ℕ) (node : Node) (rest front : Rows) → IsAbsent key rest → IsAbsent key front
    → without_key key (front ++ (key, node) ∷ rest) ≡ front ++ rest
without_split key node rest [] a b = rw (eq-eqb key key refl) (without_absent key rest a)
without_split key node rest (x ∷ xs) a b =
    rw (ne_eqb x.0 key b.0) (ap (λ (y : Rows). x ∷ y) (without_split key node rest xs a b.1))

pub node_in-absent : (k : ℕ) (rows : Rows) → IsAbsent k rows → node_in k rows ≡ None
node_in-absent k [] a = refl
node_in-absent k (r ∷ rs) a = rw (ne_eqb r.0 k a.0) (node_in-absent k rs a.1)

node_in-split : (key : ℕ) (node : Node) (rest front : Rows) → IsAbsent key front
    → node_in key (front ++ (key, node) ∷ rest) ≡ Some node
node_in-split key node rest [] a = rw (eq-eqb key key refl) refl
node_in-split key node rest (x ∷ xs) a = rw (ne_eqb x.0 key a.0) (node_in-split key node rest xs a.1)

-- a row of another key changes nothing
pub node_in-other : (k key : ℕ) (node : Node) (rest front : Rows) → k ≢ key
    → node_in k (front ++ (key, node) ∷ rest) ≡ node_in k (front ++ rest)
node_in-other k key node rest [] n = rw (ne_eqb key k (λ (q : key ≡ k). n (sym q))) refl
node_in-other k key node rest (x ∷ xs) n = rw (node_in-other k key node rest xs n) refl

-- nor do rows without the key
pub node_in-append : (k : ℕ) (rest front : Rows) → IsAbsent k rest → node_in k (front ++ rest) ≡ node_in k front
node_in-append k rest [] a = node_in-absent k rest a
node_in-append k rest (x ∷ xs) a = rw (node_in-append k rest xs a) refl

pub length_split : (key : ℕ) (node : Node) (rest front : Rows)
    → length (front ++ (key, node) ∷ rest) ≡ length (front ++ rest) + 1
length_split key node rest front = omega (arith, length-append front ((key, node) ∷ rest), length-append front rest)

-- Lists of rows.

-- where the node stands that the lists have under a key
pub record StandsIn (key : ℕ) (node : Node) (v : KeyedLists) : Type 0 where
  pub l : ℕ
  pub in_range : l < length v
  pub front : Rows
  pub rest : Rows
  pub at : list_at l v ≡ front ++ (key, node) ∷ rest

pub stands_in : (key : ℕ) (node : Node) (v : KeyedLists) → node_at key v ≡ Some node → StandsIn key node v
stands_in key node [] h = absurd (some_none node (sym h))
stands_in key node (x ∷ xs) h = elim (look key x) [
  | inl a ↦
      let f = stands_in key node xs (rw (node_in-absent key x a) at h) in
      let b : f.l < length xs = f.in_range in
      record { l = suc f.l; in_range = omega arith; front = f.front; rest = f.rest; at = f.at }
  | inr f ↦
      let e : node_in key x ≡ Some f.0.node = ap (node_in key) f.0.is ∙ node_in-split key f.0.node f.0.rest f.0.front f.1 in
      let same : f.0.node ≡ node = some_same f.0.node node (rw e at h) in
      record {
        l = 0;
        in_range = omega arith;
        front = f.0.front;
        rest = f.0.rest;
        at = f.0.is ∙ ap (λ (y : Node). f.0.front ++ (key, y) ∷ f.0.rest) same;
      }
]

pub without_none : (key : ℕ) (v : KeyedLists) → ((l : ℕ) → l < length v → IsAbsent key (list_at l v))
    → map (without_key key) v ≡ v
without_none key [] a = refl
without_none key (x ∷ xs) a = rw (without_absent key x (a 0 (omega arith)))
    (ap (λ (y : KeyedLists). x ∷ y) (without_none key xs (λ l b. a (suc l) (omega arith))))

pub node_at-none : (k : ℕ) (v : KeyedLists) → ((l : ℕ) → l < length v → IsAbsent k (list_at l v)) → node_at k v ≡ None
node_at-none k [] a = refl
node_at-none k (x ∷ xs) a = rw (node_in-absent k x (a 0 (omega arith))) (node_at-none k xs (λ l b. a (suc l) (omega arith)))

-- a key that stands once, in this list: its node, and the lists without it
module _ (key : ℕ) (front : Rows) (node : Node) (rest : Rows) (apart : IsAbsent key front × IsAbsent key rest) where
  pub node_at-once : (l : ℕ) (v : KeyedLists) → l < length v → list_at l v ≡ front ++ (key, node) ∷ rest
      → ((m : ℕ) → m < length v → m ≢ l → IsAbsent key (list_at m v)) → node_at key v ≡ Some node
  node_at-once l [] b e o = absurd (omega arith)
  node_at-once zero (x ∷ xs) b e o = rw (ap (node_in key) e ∙ node_in-split key node rest front apart.0) refl
  node_at-once (suc l) (x ∷ xs) b e o = rw (node_in-absent key x (o 0 (omega arith) (omega arith)))
      (node_at-once l xs (omega arith) e (λ m c d. o (suc m) (omega arith) (omega arith)))

  pub without_once : (l : ℕ) (v : KeyedLists) → list_at l v ≡ front ++ (key, node) ∷ rest
      → ((m : ℕ) → m < length v → m ≢ l → IsAbsent key (list_at m v))
      → map (without_key key) v ≡ slice_set v l (front ++ rest)
  without_once l [] e o = refl
  without_once zero (x ∷ xs) e o =
      rw (ap (without_key key) e ∙ without_split key node rest front apart.1 apart.0)
      (ap (λ (y : KeyedLists). (front ++ rest) ∷ y) (without_none key xs (λ m b. o (suc m) (omega arith) (omega arith))))
  without_once (suc l) (x ∷ xs) e o = rw (without_absent key x (o 0 (omega arith) (omega arith)))
      (ap (λ (y : KeyedLists). x ∷ y) (without_once l xs e (λ m b d. o (suc m) (omega arith) (omega arith))))

-- a list in which nothing of the key has changed
pub node_at-set : (k l : ℕ) (rows : Rows) (v : KeyedLists) → node_in k rows ≡ node_in k (list_at l v)
    → node_at k (slice_set v l rows) ≡ node_at k v
node_at-set k l rows [] e = refl
node_at-set k zero rows (x ∷ xs) e = rw e refl
node_at-set k (suc l) rows (x ∷ xs) e = rw (node_at-set k l rows xs e) refl

pub row_count-set : (v : KeyedLists) (l : ℕ) (rows : Rows) → l < length v
    → row_count (slice_set v l rows) + length (list_at l v) ≡ row_count v + length rows
row_count-set [] l rows h = absurd (omega arith)
row_count-set (x ∷ xs) zero rows h = omega arith
row_count-set (x ∷ xs) (suc l) rows h = omega (arith, row_count-set xs l rows (omega arith))

pub length_list_at : (lists : KeyedLists) (l : ℕ) → length (list_at l lists) ≤ row_count lists
length_list_at [] l = omega arith
length_list_at (x ∷ xs) zero = omega arith
length_list_at (x ∷ xs) (suc l) = omega (arith, length_list_at xs l)
