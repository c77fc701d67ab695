-- Lemmas about rings: no key occurs twice, since from each index there is one way to a root; and what the calls' joins
-- make of the rings.
use Rattle.std.proofs.Common.{◌≡◌, ◌≢◌, ◌<◌, ◌+◌, ℕ, suc, List, [], ◌∷◌, ◌++◌, length, refl, sym, ◌∙◌, ap, subst, inl, inr, arith, get_or-set_same, get_or-set_other, length-set, append-nil, map, Some, None, slice_set}
use Rattle.std.specs.List.{AllByRecursion}
use Rattle.std.proofs.lemmas.Bool.{cases_eq, eq-eqb, ne_eqb}
use Rattle.timer_base.proofs.Basics.{some_none}
use Rattle.timer_base.proofs.OrderLaws.{All-weaken}
use Rattle.timer_links.specs.Types.{Node, Neighbours}
use Rattle.timer_links.specs.Lists.{node_at, list_at, list_if_alone, without_key, with_row, appended, AreApart, KeyedLists, Row, Rows}
use Rattle.timer_links.specs.Ring.{neighbours_at, neighbour_on_both_sides, AreJoined, Joins}
use Rattle.timer_links.specs.Links.{LeadsOver, AreRings}
use Rattle.timer_links.proofs.Rows.{IsAbsent, FoundIn, look, once, node_at-once, without_once}

-- One way: where the links lead from an index.

next_is : (s : List Neighbours) (p q a b : ℕ) → p ≡ q → AreJoined s p a → AreJoined s q b → a ≡ b
next_is s p q a b e c d = sym c.forth ∙ ap (λ (i : ℕ). (neighbours_at s i).after) e ∙ d.forth

before_is : (s : List Neighbours) (p q a b : ℕ) → p ≡ q → AreJoined s a p → AreJoined s b q → a ≡ b
before_is s p q a b e c d = sym c.back_to ∙ ap (λ (i : ℕ). (neighbours_at s i).before) e ∙ d.back_to

-- the rows' indexes are others than this one
abbrev Avoid : ℕ → ℕ → Rows → Type 0
Avoid n x rows = AllByRecursion (λ row. n + row.0 ≢ x) rows

avoid_root : (n l : ℕ) (rows : Rows) → l < n → Avoid n l rows
avoid_root n l [] b = tt
avoid_root n l (r ∷ rs) b = ((λ e. omega arith), avoid_root n l rs b)

avoid_key : (n key : ℕ) (rows : Rows) → IsAbsent key rows → Avoid n (n + key) rows
avoid_key n key rows a = All-weaken (λ r. r.0 ≢ key) (λ r. n + r.0 ≢ n + key) rows (λ r o e. o (omega arith)) a

module _ (n : ℕ) (s : List Neighbours) where
  parts : (p l : ℕ) (r : Row) (rest front : Rows) → LeadsOver n s p (front ++ r ∷ rest) l
      → LeadsOver n s p front (n + r.0) × LeadsOver n s (n + r.0) rest l
  parts p l r rest [] c = c
  parts p l r rest (x ∷ xs) c = let q = parts (n + x.0) l r rest xs c.1 in ((c.0, q.0), q.1)

  one_way : (l m : ℕ) → l < n → m < n → (p q : ℕ) (xs ys : Rows) → p ≡ q → LeadsOver n s p xs l → LeadsOver n s q ys m
      → (length xs ≡ length ys) × (l ≡ m)
  one_way l m bl bm p q [] [] e c d = (refl, next_is s p q l m e c d)
  one_way l m bl bm p q [] (y ∷ ys) e c d = let f = next_is s p q l (n + y.0) e c d.0 in absurd (omega arith)
  one_way l m bl bm p q (x ∷ xs) [] e c d = let f = next_is s p q (n + x.0) m e c.0 d in absurd (omega arith)
  one_way l m bl bm p q (x ∷ xs) (y ∷ ys) e c d =
      let r = one_way l m bl bm (n + x.0) (n + y.0) xs ys (next_is s p q (n + x.0) (n + y.0) e c.0 d.0) c.1 d.1 in
      (ap (λ (k : ℕ). suc k) r.0, r.1)

  -- what holds of the first index and of each row's holds of the one before the last
  pub before_end : (P : ℕ → Type 0) (p q : ℕ) (rows : Rows) → LeadsOver n s p rows q → P p
      → AllByRecursion (λ r. P (n + r.0)) rows → P (neighbours_at s q).before
  before_end P p q [] c x a = subst P (sym c.back_to) x
  before_end P p q (r ∷ rs) c x a = before_end P (n + r.0) q rs c.1 a.0 a.1

  -- what holds of each row's index and of the last holds of the one after the first
  pub after_start : (P : ℕ → Type 0) (p q : ℕ) (rows : Rows) → LeadsOver n s p rows q
      → AllByRecursion (λ r. P (n + r.0)) rows → P q → P (neighbours_at s p).after
  after_start P p q [] c a x = subst P (sym c.forth) x
  after_start P p q (r ∷ rs) c a x = subst P (sym c.0.forth) a.0

  -- the links at both ends are joins
  last_joined : (p q : ℕ) (rows : Rows) → LeadsOver n s p rows q → AreJoined s (neighbours_at s q).before q
  last_joined p q [] c = let P : ℕ → Type 0 = λ i. AreJoined s i q in subst P (sym c.back_to) c
  last_joined p q (r ∷ rs) c = last_joined (n + r.0) q rs c.1

  first_joined : (p q : ℕ) (rows : Rows) → LeadsOver n s p rows q → AreJoined s p (neighbours_at s p).after
  first_joined p q [] c = subst (AreJoined s p) (sym c.forth) c
  first_joined p q (r ∷ rs) c = subst (AreJoined s p) (sym c.0.forth) c.0

  -- the neighbours of a key are the same only if they are the root
  alone_between : (l key : ℕ) (front rest : Rows) → l < n → LeadsOver n s l front (n + key) → LeadsOver n s (n + key) rest l
      → IsAbsent key front → IsAbsent key rest → neighbour_on_both_sides (neighbours_at s (n + key)) ≡ list_if_alone l front rest
  alone_between l key [] [] b c d f g = rw (c.back_to, d.forth, eq-eqb l l refl) refl
  alone_between l key [] (r ∷ rs) b c d f g = rw (c.back_to, d.0.forth, ne_eqb l (n + r.0) (λ e. omega arith)) refl
  alone_between l key (y ∷ ys) [] b c d f g =
      let other : (neighbours_at s (n + key)).before ≢ l = λ e.
      let same = next_is s (neighbours_at s (n + key)).before l (n + key) (n + y.0) e (last_joined l (n + key) (y ∷ ys) c) c.0 in
      f.0 (omega arith) in
      rw (d.forth, ne_eqb (neighbours_at s (n + key)).before l other) refl
  alone_between l key (y ∷ ys) (r ∷ rs) b c d f g =
      let other : (neighbours_at s (n + key)).before ≢ n + r.0 = λ e.
      after_start (λ i. i ≢ n + key) (n + r.0) l rs d.1 (avoid_key n key rs g.1) (λ q. omega arith)
      (ap (λ (i : ℕ). (neighbours_at s i).after) (sym e) ∙ (last_joined l (n + key) (y ∷ ys) c).forth) in
      rw (d.0.forth, ne_eqb (neighbours_at s (n + key)).before (n + r.0) other) refl

-- What joins keep.

met : (s u : List Neighbours) (f b p : ℕ) → Joins f b s u → f ≡ p → AreJoined u p b
met s u f b p j e =
    let P : ℕ → Type 0 = λ i. AreJoined u i b in
    subst P e (record { forth = j.forth; back_to = j.back_to })

joined_same : (s u : List Neighbours) → ((i : ℕ) → neighbours_at u i ≡ neighbours_at s i) → (p q : ℕ) → AreJoined s p q → AreJoined u p q
joined_same s u same p q c = record {
  forth = ap (λ (x : Neighbours). x.after) (same p) ∙ c.forth;
  back_to = ap (λ (x : Neighbours). x.before) (same q) ∙ c.back_to;
}

-- each link that neither leaves or reaches x nor reaches y is kept
abbrev Keeps : List Neighbours → List Neighbours → ℕ → ℕ → Type 0
Keeps s u x y = (p q : ℕ) → p ≢ x → q ≢ x → q ≢ y → AreJoined s p q → AreJoined u p q

module _ (n : ℕ) (s u : List Neighbours) (x y : ℕ) (kept : Keeps s u x y) (low : (k : ℕ) → n + k ≢ x → n + k ≢ y) where
  -- the links over these rows, which in the end go on over other rows
  rerouted : (l q : ℕ) (more : Rows) → ((p : ℕ) → p ≢ x → AreJoined s p l → LeadsOver n u p more q)
      → (p : ℕ) (rows : Rows) → p ≢ x → Avoid n x rows → LeadsOver n s p rows l → LeadsOver n u p (rows ++ more) q
  rerouted l q more end p [] o a c = end p o c
  rerouted l q more end p (r ∷ rs) o a c = (
    kept p (n + r.0) o a.0 (low r.0 a.0) c.0,
    rerouted l q more end (n + r.0) rs a.0 a.1 c.1,
  )

  stays : (p q : ℕ) (rows : Rows) → p ≢ x → q ≢ x → q ≢ y → Avoid n x rows → LeadsOver n s p rows q → LeadsOver n u p rows q
  stays p q rows o qx qy a c =
      let P : Rows → Type 0 = λ r. LeadsOver n u p r q in
      subst P (append-nil rows) (rerouted q q [] (λ i oi d. kept i q oi qx qy d) p rows o a c)

-- unchanged neighbours lead the same way
pub leads_same : (n : ℕ) (s u : List Neighbours) → ((i : ℕ) → neighbours_at u i ≡ neighbours_at s i) → (p q : ℕ) (rows : Rows)
    → LeadsOver n s p rows q → LeadsOver n u p rows q
leads_same n s u same p q [] c = joined_same s u same p q c
leads_same n s u same p q (r ∷ rs) c = (joined_same s u same p (n + r.0) c.0, leads_same n s u same (n + r.0) q rs c.1)

-- the rings, once one list has changed
pub rings_set : (n : ℕ) (u : List Neighbours) (v : KeyedLists) (l : ℕ) (rows : Rows) → length v ≡ n → LeadsOver n u l rows l
    → ((m : ℕ) → m < n → m ≢ l → LeadsOver n u m (list_at m v) m) → AreRings n u (slice_set v l rows)
rings_set n u v l rows many c o m d = elim (cases_eq m l) [
  | inl q ↦ let b : m < length v = rw many d in rw (q, get_or-set_same v l rows [] (rw q at b)) c
  | inr z ↦ rw (get_or-set_other v l m rows [] z) (o m d z)
]

-- a row has the same links, whatever its node
pub leads_renamed : (n : ℕ) (s : List Neighbours) (key : ℕ) (was node : Node) (rest : Rows) (l p : ℕ) (front : Rows)
    → LeadsOver n s p (front ++ (key, was) ∷ rest) l → LeadsOver n s p (front ++ (key, node) ∷ rest) l
leads_renamed n s key was node rest l p [] c = c
leads_renamed n s key was node rest l p (x ∷ xs) c = (c.0, leads_renamed n s key was node rest l (n + x.0) xs c.1)

module _ (n : ℕ) (s : List Neighbours) (v : KeyedLists) (h : AreRings n s v) where
  pub ring_at : (l : ℕ) (rows : Rows) → l < n → list_at l v ≡ rows → LeadsOver n s l rows l
  ring_at l rows b e = let P : Rows → Type 0 = λ x. LeadsOver n s l x l in subst P e (h l b)

  module _ (key l : ℕ) (front : Rows) (node : Node) (rest : Rows) (b : l < n)
      (e : list_at l v ≡ front ++ (key, node) ∷ rest) where
    pub around : LeadsOver n s l front (n + key) × LeadsOver n s (n + key) rest l
    around = parts n s l l (key, node) rest front (ring_at l (front ++ (key, node) ∷ rest) b e)

    -- a key has one position alone
    one_place : (m : ℕ) → m < n → (f : FoundIn key (list_at m v)) → (length f.rest ≡ length rest) × (m ≡ l)
    one_place m c f =
        let ring = ring_at m (f.front ++ (key, f.node) ∷ f.rest) c f.is in
        one_way n s m l c b (n + key) (n + key) f.rest rest refl (parts n s m m (key, f.node) f.rest f.front ring).1 around.1

    pub apart_here : IsAbsent key front × IsAbsent key rest
    apart_here = once key node rest front (λ f.
        (one_place l b (record { front = f.front; node = f.node; rest = f.rest; is = e ∙ f.is })).0)

    pub not_elsewhere : (m : ℕ) → m < n → m ≢ l → IsAbsent key (list_at m v)
    not_elsewhere m c o = elim (look key (list_at m v)) [ inl a ↦ a | inr f ↦ absurd (o (one_place m c f.0).1) ]

    pub is_alone : neighbour_on_both_sides (neighbours_at s (n + key)) ≡ list_if_alone l front rest
    is_alone = alone_between n s l key front rest b around.0 around.1 apart_here.0 apart_here.1

    module _ (many : length v ≡ n) where
      pub node_at-here : node_at key v ≡ Some node
      node_at-here = node_at-once key front node rest apart_here l v (rw many b) e (λ m d o. not_elsewhere m (rw many at d) o)

      -- the lists without the key's row
      pub without_is : map (without_key key) v ≡ slice_set v l (front ++ rest)
      without_is = without_once key front node rest apart_here l v e (λ m d o. not_elsewhere m (rw many at d) o)

      -- the key's index is removed from between its neighbours
      module _ (u : List Neighbours) (j : Joins (neighbours_at s (n + key)).before (neighbours_at s (n + key)).after s u) where
        cut : Keeps s u (n + key) (n + key)
        cut p q np nq nk a = record {
          forth = j.afters p (λ i. nq (next_is s p (neighbours_at s (n + key)).before q (n + key) i a
              (last_joined n s l (n + key) front around.0))) ∙ a.forth;
          back_to = j.befores q (λ i. np (before_is s q (neighbours_at s (n + key)).after p (n + key) i a
              (first_joined n s (n + key) l rest around.1))) ∙ a.back_to;
        }

        over_rest : (p : ℕ) (rows : Rows) → LeadsOver n s (n + key) rows l → IsAbsent key rows
            → AreJoined u p (neighbours_at s (n + key)).after → LeadsOver n u p rows l
        over_rest p [] c a i = subst (AreJoined u p) c.forth i
        over_rest p (r ∷ rs) c a i = (
          subst (AreJoined u p) c.0.forth i,
          stays n s u (n + key) (n + key) cut (λ k o. o) (n + r.0) l rs (λ q. a.0 (omega arith)) (λ q. omega arith)
              (λ q. omega arith) (avoid_key n key rs a.1) c.1,
        )

        pub detached : AreRings n u (slice_set v l (front ++ rest))
        detached = rings_set n u v l (front ++ rest) many
            (rerouted n s u (n + key) (n + key) cut (λ k o. o) (n + key) l rest
            (λ p o a. over_rest p rest around.1 apart_here.1
            (met s u (neighbours_at s (n + key)).before (neighbours_at s (n + key)).after p j a.back_to))
            l front (λ q. omega arith) (avoid_key n key front apart_here.0) around.0)
            (λ m c o. stays n s u (n + key) (n + key) cut (λ k z. z) m m (list_at m v) (λ q. omega arith) (λ q. omega arith)
            (λ q. omega arith) (avoid_key n key (list_at m v) (not_elsewhere m c o)) (h m c))

  pub absent : length v ≡ n → (key : ℕ) → node_at key v ≡ None → (m : ℕ) → m < n → IsAbsent key (list_at m v)
  absent many key e m b = elim (look key (list_at m v)) [
    | inl a ↦ a
    | inr f ↦ absurd (some_none f.0.node (sym (node_at-here key m f.0.front f.0.node f.0.rest b f.0.is many) ∙ e))
  ]

  -- an index that is in no ring is put at the back of one
  module _ (key l : ℕ) (node : Node) (b : l < n) (loose : (m : ℕ) → m < n → IsAbsent key (list_at m v))
      (t u : List Neighbours) (j : Joins (neighbours_at s l).before (n + key) s t) (k : Joins (n + key) l t u) where
    pushed : Keeps s u (n + key) l
    pushed p q np nq nl a = record {
      forth = k.afters p np ∙ (j.afters p (λ i. nl (next_is s p (neighbours_at s l).before q l i a
          (last_joined n s l l (list_at l v) (h l b)))) ∙ a.forth);
      back_to = k.befores q nl ∙ (j.befores q nq ∙ a.back_to);
    }

    pub attached : length v ≡ n → AreRings n u (with_row l (key, node) v)
    attached many = rings_set n u v l (list_at l v ++ (key, node) ∷ []) many
        (rerouted n s u (n + key) l pushed (λ i z q. omega arith) l l ((key, node) ∷ [])
        (λ p o a.
        let new = met s t (neighbours_at s l).before (n + key) p j a.back_to in (
          record {
            forth = k.afters p o ∙ new.forth;
            back_to = k.befores (n + key) (λ q. omega arith) ∙ new.back_to;
          },
          met t u (n + key) l (n + key) k refl,
        ))
        l (list_at l v) (λ q. omega arith) (avoid_key n key (list_at l v) (loose l b)) (h l b))
        (λ m c o. stays n s u (n + key) l pushed (λ i z q. omega arith) m m (list_at m v) (λ q. omega arith) (λ q. omega arith) o
        (avoid_key n key (list_at m v) (loose m c)) (h m c))

  -- all rows of one list move to the back of another
  module _ (from to : ℕ) (y : Row) (ys : Rows) (bf : from < n) (bt : to < n) (o : to ≢ from) (e : list_at from v ≡ y ∷ ys)
      (t a u : List Neighbours) (i : Joins (neighbours_at s to).before (neighbours_at s from).after s t)
      (j : Joins (neighbours_at s from).before to t a) (k : Joins from from a u) where
    source : LeadsOver n s from (y ∷ ys) from
    source = ring_at from (y ∷ ys) bf e

    back_joined : AreJoined s (neighbours_at s to).before to
    back_joined = last_joined n s to to (list_at to v) (h to bt)

    last_is_joined : AreJoined s (neighbours_at s from).before from
    last_is_joined = last_joined n s from from (y ∷ ys) source

    -- what follows another index than that before `from` follows it still
    after_kept : (p q : ℕ) → p ≢ from → AreJoined s p q → q ≢ from → (neighbours_at u p).after ≡ (neighbours_at t p).after
    after_kept p q np d nq = k.afters p np
        ∙ j.afters p (λ z. nq (next_is s p (neighbours_at s from).before q from z d last_is_joined))

    joined : Keeps s u from to
    joined p q np nq nt d = record {
      forth = after_kept p q np d nq
          ∙ (i.afters p (λ z. nt (next_is s p (neighbours_at s to).before q to z d back_joined)) ∙ d.forth);
      back_to = k.befores q nq ∙ (j.befores q nt
          ∙ (i.befores q (λ z. np (before_is s q (neighbours_at s from).after p from z d
          (first_joined n s from from (y ∷ ys) source))) ∙ d.back_to));
    }

    above : (m : ℕ) → n + m ≢ from → n + m ≢ to
    above m z q = omega arith

    -- over the rows that move, and then to the root
    moved : (p : ℕ) → p ≢ from → AreJoined s p to → LeadsOver n u p (y ∷ ys) to
    moved p np d =
        let new = met s t (neighbours_at s to).before (neighbours_at s from).after p i d.back_to in
        let first : (neighbours_at s from).after ≡ n + y.0 = source.0.forth in (
          record {
            forth = after_kept p to np d o ∙ (new.forth ∙ first);
            back_to = k.befores (n + y.0) (λ q. omega arith) ∙ (j.befores (n + y.0) (λ q. omega arith)
                ∙ (ap (λ (z : ℕ). (neighbours_at t z).before) (sym first) ∙ new.back_to));
          },
          (let P : Rows → Type 0 = λ r. LeadsOver n u (n + y.0) r to in
              subst P (append-nil ys) (rerouted n s u from to joined above from to [] (λ r nr c.
              let end = met t a (neighbours_at s from).before to r j c.back_to in record {
                forth = k.afters r nr ∙ end.forth;
                back_to = k.befores to o ∙ end.back_to;
              }) (n + y.0) ys (λ q. omega arith) (avoid_root n from ys bf) source.1)),
        )

    pub rings_appended : length v ≡ n → AreRings n u (appended from to v)
    rings_appended many =
        let emptied : length (slice_set v from []) ≡ n = length-set v from [] ∙ many in
        let rows : list_at to v ++ (y ∷ ys) ≡ list_at to v ++ list_at from v = ap (λ (r : Rows). list_at to v ++ r) (sym e) in
        let P : Rows → Type 0 = λ r. LeadsOver n u to r to in
        rings_set n u (slice_set v from []) to (list_at to v ++ list_at from v) emptied
        (subst P rows (rerouted n s u from to joined above to to (y ∷ ys) moved to (list_at to v) o
        (avoid_root n from (list_at to v) bf) (h to bt)))
        (λ m c z. elim (cases_eq m from) [
          | inl q ↦ let bl : from < length v = rw many bf in
              rw (q, get_or-set_same v from [] [] bl) (met a u from from from k refl)
          | inr q ↦ rw (get_or-set_other v from m [] [] q) (stays n s u from to joined above m m (list_at m v) q q z
              (avoid_root n from (list_at m v) bf) (h m c))
        ])

pub apart : (n : ℕ) (s : List Neighbours) (v : KeyedLists) → AreRings n s v → length v ≡ n → AreApart v
apart n s v h many l front row rest b e = let d : l < n = rw many at b in (
  node_at-here n s v h row.0 l front row.1 rest d e many,
  without_is n s v h row.0 l front row.1 rest d e many,
)
