-- Lemmas for `Buckets`: the lists after each call but a tick, and so the state of the wheel.
use Rattle.std.proofs.Common.{◌≡◌, ◌≢◌, ◌<◌, ◌≤◌, ◌+◌, ℕ, zero, suc, ◌==◌, List, [], ◌∷◌, ◌++◌, length, refl, sym, ◌∙◌, ap, subst, inl, inr, arith, append_assoc, length-append, get_or-set_same, get_or-set_other, Bool, map, filter, not, Option, Some, None}
use Rattle.std.specs.List.{AllByRecursion}
use Rattle.std.proofs.lemmas.Bool.{cases_eq, eqb-true}
use Rattle.std.proofs.lemmas.List.{length-map}
use Rattle.timer_base.proofs.Basics.{either}
use Rattle.timer_base.specs.Order.{in_order, AreBelow, AreDistinct, AreRising, IsNotAmong}
use Rattle.timer_base.proofs.OrderLaws.{in_order-newest, filter-in_order, length-in_order, All-filter, All-weaken, AreRising-append, AreRising-weaken}
use Rattle.timer_base.specs.Pending.{timer_of, timers_of, is_due_at, entries_due, put}
use Rattle.timer_base.specs.WheelState.{IsPending, IsDue}
use Rattle.timer_links.specs.Lists.{node_in, node_at, first_of, with_row, without_key, row_count, AreApart}
use Rattle.timer_wheels.specs.Types.{Timer, Entry, Node, list_at, KeyedLists, Row, Rows}
use Rattle.timer_wheels.specs.BucketLaws.{timers_of-entries}
use Rattle.timer_wheels.specs.Buckets.{IsListOf}
use Rattle.timer_wheels.specs.BucketLists.{row_timer, row_timers, entry_of, entries_of, rows_below, pending_in, ArePending, AreDue, AreInOrder, EachRow}
use Rattle.timer_wheels.proofs.bucket_lemmas.AllLemmas.{all-map, all-of_map}
use Rattle.timer_wheels.proofs.bucket_lemmas.RowLemmas.{all-append, all-front, all-rest, all-rows_below, IsInserted, list_at-without_key, timers-append, entries-append, filter-entries, AreDistinct-inserted}

-- A row is inserted.

module _ {row : Row} {old new : Rows} (i : IsInserted row old new) where
  entries_old : entries_of old ≡ entries_of i.front ++ entries_of i.rest
  entries_old = ap entries_of i.old_is ∙ entries-append i.front i.rest

  entries_new : entries_of new ≡ entries_of i.front ++ entry_of row ∷ entries_of i.rest
  entries_new = ap entries_of i.new_is ∙ entries-append i.front (row ∷ i.rest)

  timers_old : row_timers old ≡ row_timers i.front ++ row_timers i.rest
  timers_old = ap row_timers i.old_is ∙ timers-append i.front i.rest

  timers_new : row_timers new ≡ row_timers i.front ++ row_timer row ∷ row_timers i.rest
  timers_new = ap row_timers i.new_is ∙ timers-append i.front (row ∷ i.rest)

  -- the newest timer, in whichever list
  pub pending_in-newest : AreBelow (row_timer row).serial (row_timers old) → pending_in new ≡ put (entry_of row) (pending_in old)
  pending_in-newest b =
      let below : AreBelow (row_timer row).serial (map timer_of (entries_of i.front ++ entries_of i.rest)) =
      subst (AreBelow (row_timer row).serial) (sym (timers_of-entries old) ∙ ap (map timer_of) entries_old) b in
      ap (in_order timer_of) entries_new ∙ (in_order-newest timer_of (entry_of row) (entries_of i.front) (entries_of i.rest) below
      ∙ ap (λ (y : List Entry). put (entry_of row) (in_order timer_of y)) (sym entries_old))

  pub all-inserted : (P : Row → Type 0) → P row → AllByRecursion P old → AllByRecursion P new
  all-inserted P p a =
      let b : AllByRecursion P (i.front ++ i.rest) = subst (AllByRecursion P) i.old_is a in
      subst (AllByRecursion P) (sym i.new_is) (all-append P i.front (row ∷ i.rest) (all-front P i.front i.rest b) (
        p,
        all-rest P i.front i.rest b,
      ))

  pub distinct-inserted : IsNotAmong (row_timer row).serial (row_timers old) → AreDistinct (row_timers old) → AreDistinct (row_timers new)
  distinct-inserted n d = subst AreDistinct (sym timers_new) (AreDistinct-inserted (row_timer row) (row_timers i.front) (row_timers i.rest)
      (subst (IsNotAmong (row_timer row).serial) timers_old n) (subst AreDistinct timers_old d))

-- A part of the rows.

-- the pending timers that satisfy a test are those of the rows that satisfy it
pub filter-pending_in : (p : Entry → Bool) (rows : Rows)
    → filter p (pending_in rows) ≡ pending_in (filter (λ r. p (entry_of r)) rows)
filter-pending_in p rows = filter-in_order timer_of p (entries_of rows) ∙ ap (in_order timer_of) (filter-entries p rows)

pub IsNotAmong-part : (serial : ℕ) (p : Row → Bool) (rows : Rows) → IsNotAmong serial (row_timers rows)
    → IsNotAmong serial (row_timers (filter p rows))
IsNotAmong-part serial p [] n = tt
IsNotAmong-part serial p (x ∷ xs) n = elim (either (p x)) [
  | inl k ↦ rw k (n.0, IsNotAmong-part serial p xs n.1)
  | inr k ↦ rw k (IsNotAmong-part serial p xs n.1)
]

pub AreDistinct-part : (p : Row → Bool) (rows : Rows) → AreDistinct (row_timers rows)
    → AreDistinct (row_timers (filter p rows))
AreDistinct-part p [] d = tt
AreDistinct-part p (x ∷ xs) d = elim (either (p x)) [
  | inl k ↦ rw k (IsNotAmong-part (row_timer x).serial p xs d.0, AreDistinct-part p xs d.1)
  | inr k ↦ rw k (AreDistinct-part p xs d.1)
]

pub AreRising-part : (p : Row → Bool) (low : ℕ) (rows : Rows) → AreRising low (row_timers rows)
    → AreRising low (row_timers (filter p rows))
AreRising-part p low [] r = tt
AreRising-part p low (x ∷ xs) r = elim (either (p x)) [
  | inl k ↦ rw k (r.0, AreRising-part p (row_timer x).serial xs r.1)
  | inr k ↦ rw k (AreRising-part p low xs (AreRising-weaken (row_timer x).serial low (row_timers xs) (let r0 : low < (row_timer x).serial = r.0
      in omega arith) r.1))
]

-- A start.

newer : (last_tick now last high : ℕ) (t : Timer) → last < high → IsPending last_tick now last t → t.serial < high
newer last_tick now last high t h p = let q : t.serial ≤ last = p.serial in omega arith

pub AreBelow-pending : (last_tick now last high : ℕ) (rows : Rows) → last < high → ArePending last_tick now last rows
    → AreBelow high (row_timers rows)
AreBelow-pending last_tick now last high rows h a = all-map row_timer (λ t. t.serial < high) rows
    (All-weaken (λ row. IsPending last_tick now last (row_timer row)) (λ row. (row_timer row).serial < high) rows
    (λ row p. newer last_tick now last high (row_timer row) h p) a)

-- A newest row is pushed to the back of one list: each list stays in order.
pub in_order-with_row : (m l : ℕ) (row : Row) (lists : KeyedLists) → l < length lists → 0 < (row_timer row).serial
    → AreBelow (row_timer row).serial (row_timers (list_at l lists)) → AreInOrder m lists → AreInOrder m (with_row l row lists)
in_order-with_row m l row lists b z older o s h = elim (cases_eq s l) [
  | inl e ↦ rw (e, get_or-set_same lists l (list_at l lists ++ row ∷ []) [] b, timers-append (list_at l lists) (row ∷ []))
      (AreRising-append 0 (row_timer row) (row_timers (list_at l lists)) (o l (rw (← e) h)) older z)
  | inr x ↦ rw (get_or-set_other lists l s (list_at l lists ++ row ∷ []) [] x) (o s h)
]

-- A wheel's own invariant, for each row.

pub each-with_row : (fact : ℕ → Row → Type 0) (n l : ℕ) (row : Row) (lists : KeyedLists) → l < length lists
    → fact l row → EachRow fact n lists → EachRow fact n (with_row l row lists)
each-with_row fact n l row lists b f a s h = elim (cases_eq s l) [
  | inl e ↦ rw (e, get_or-set_same lists l (list_at l lists ++ row ∷ []) [] b)
      (all-append (fact l) (list_at l lists) (row ∷ []) (a l (rw (← e) h)) (f, tt))
  | inr x ↦ rw (get_or-set_other lists l s (list_at l lists ++ row ∷ []) [] x) (a s h)
]

pub each-without_key : (fact : ℕ → Row → Type 0) (n key : ℕ) (lists : KeyedLists) → EachRow fact n lists
    → EachRow fact n (map (without_key key) lists)
each-without_key fact n key lists a s h = rw (list_at-without_key s key lists)
    (All-filter (fact s) (fact s) (λ r. not (r.0 == key)) (list_at s lists) (λ r e f. f) (a s h))

pub each-same : (fact : ℕ → Row → Type 0) (n : ℕ) (old new : KeyedLists)
    → ((s : ℕ) → s < n → list_at s new ≡ list_at s old) → EachRow fact n old → EachRow fact n new
each-same fact n old new e a s h = rw (e s h) (a s h)

pub each-none : (fact : ℕ → Row → Type 0) (n : ℕ) (lists : KeyedLists) → ((s : ℕ) → s < n → list_at s lists ≡ [])
    → EachRow fact n lists
each-none fact n lists e s h = rw (e s h) tt

-- each row satisfies the wheel's own invariant, also after a row came to its list
pub each_come : (fact : ℕ → Row → Type 0) (n now d list : ℕ) (row : Row) (lists : KeyedLists) → length lists ≡ n + 1
    → IsListOf list n now d → (now < d → fact list row) → EachRow fact n lists → EachRow fact n (with_row list row lists)
each_come fact n now d list row lists e (inl h) f a =
    each-with_row fact n list row lists (let k : list < n = h.0 in omega arith) (f h.1) a
each_come fact n now d list row lists e (inr h) f a =
    let k : list ≡ n = h.0 in
    each-same fact n lists (with_row list row lists) (λ s b. get_or-set_other lists list s (list_at list lists ++ row ∷ []) []
    (let m : s ≢ list = omega arith in m)) a

-- No timers, no rows.
pub no_rows : (rows : Rows) → entries_of rows ≡ [] → rows ≡ []
no_rows [] e = refl
no_rows (x ∷ xs) e = absurd (cc)

-- The rows after those of the buckets.

-- the lists of a wheel are its buckets and one more
pub row_count-parts : (n : ℕ) (lists : KeyedLists) → length lists ≡ n + 1
    → row_count lists ≡ length (rows_below n lists) + length (list_at n lists)
row_count-parts zero [] e = absurd (omega arith)
row_count-parts zero (x ∷ []) e = omega arith
row_count-parts zero (x ∷ y ∷ ys) e = absurd (omega arith)
row_count-parts (suc n) [] e = absurd (omega arith)
row_count-parts (suc n) (x ∷ xs) e =
    let ih : row_count xs ≡ length (rows_below n xs) + length (list_at n xs) = row_count-parts n xs (omega arith) in
    let a : length (x ++ rows_below n xs) ≡ length x + length (rows_below n xs) = length-append x (rows_below n xs) in
    omega arith

pub length-pending_in : (rows : Rows) → length (pending_in rows) ≡ length rows
length-pending_in rows = length-in_order timer_of (entries_of rows) ∙ length-map rows entry_of

pub node_in-append : (key : ℕ) (xs ys : Rows) → node_in key (xs ++ ys) ≡ first_of (node_in key xs) (node_in key ys)
node_in-append key [] ys = refl
node_in-append key (x ∷ xs) ys = elim (either (x.0 == key)) [
  | inl k ↦ rw k refl
  | inr k ↦ rw k (node_in-append key xs ys)
]

first_of-none : (o : Option Node) → first_of o None ≡ o
first_of-none None = refl
first_of-none (Some n) = refl

first_of-assoc : (a b c : Option Node) → first_of a (first_of b c) ≡ first_of (first_of a b) c
first_of-assoc None b c = refl
first_of-assoc (Some n) b c = refl

-- each key is that of a pending timer or of one that is due
pub node_at-parts : (n key : ℕ) (lists : KeyedLists) → length lists ≡ n + 1
    → node_at key lists ≡ first_of (node_in key (rows_below n lists)) (node_in key (list_at n lists))
node_at-parts zero key [] l = absurd (omega arith)
node_at-parts zero key (x ∷ []) l = first_of-none (node_in key x)
node_at-parts zero key (x ∷ y ∷ ys) l = absurd (omega arith)
node_at-parts (suc n) key [] l = absurd (omega arith)
node_at-parts (suc n) key (x ∷ xs) l =
    let last : Option Node = node_in key (list_at n xs) in
    ap (first_of (node_in key x)) (node_at-parts n key xs (omega arith))
    ∙ (first_of-assoc (node_in key x) (node_in key (rows_below n xs)) last
    ∙ ap (λ (o : Option Node). first_of o last) (sym (node_in-append key x (rows_below n xs))))

-- each row under the key has the key's node
abbrev pub HasNode : ℕ → Option Node → Row → Type 0
HasNode key found row = row.0 ≡ key → Some row.1 ≡ found

has_node : (key : ℕ) (lists : KeyedLists) (row : Row) → node_at row.0 lists ≡ Some row.1 → HasNode key (node_at key lists) row
has_node key lists row e k = sym (ap (λ (y : ℕ). node_at y lists) (sym k) ∙ e)

-- each row stands under its key
under_from : (lists : KeyedLists) (l : ℕ) (front rows : Rows) → AreApart lists → l < length lists
    → list_at l lists ≡ front ++ rows → AllByRecursion (λ row. node_at row.0 lists ≡ Some row.1) rows
under_from lists l front [] a b e = tt
under_from lists l front (x ∷ xs) a b e = (
  (a l front x xs b e).0,
  under_from lists l (front ++ x ∷ []) xs a b (e ∙ sym (append_assoc front (x ∷ []) xs)),
)

pub under_keys : (l : ℕ) (lists : KeyedLists) → l < length lists → AreApart lists
    → AllByRecursion (λ row. node_at row.0 lists ≡ Some row.1) (list_at l lists)
under_keys l lists b a = under_from lists l [] (list_at l lists) a b refl

pub apart_list : (l key : ℕ) (lists : KeyedLists) → l < length lists → AreApart lists
    → AllByRecursion (HasNode key (node_at key lists)) (list_at l lists)
apart_list l key lists b a = All-weaken (λ row. node_at row.0 lists ≡ Some row.1) (HasNode key (node_at key lists)) (list_at l lists)
    (has_node key lists) (under_keys l lists b a)

pub apart_rows : (n key : ℕ) (lists : KeyedLists) → n ≤ length lists → AreApart lists
    → AllByRecursion (HasNode key (node_at key lists)) (rows_below n lists)
apart_rows n key lists b a = all-rows_below (HasNode key (node_at key lists)) n lists (λ s h. apart_list s key lists (omega arith) a)

-- What became due.

timers_past : (last_tick before now last : ℕ) (es : List Entry) → AllByRecursion (IsPending last_tick before last) (timers_of es)
    → AllByRecursion (IsDue now last) (timers_of (entries_due now es))
timers_past last_tick before now last [] a = tt
timers_past last_tick before now last (e ∷ es) a = elim (either (is_due_at now e.timer)) [
  | inl k ↦ rw k (
    record { deadline = eqb-true e.timer.deadline now k; serial = a.0.serial },
    timers_past last_tick before now last es a.1,
  )
  | inr k ↦ rw k (timers_past last_tick before now last es a.1)
]

-- what became due at a tick was pending before it
pub due_past : (last_tick before now last : ℕ) (es : List Entry) (rows : Rows)
    → AllByRecursion (IsPending last_tick before last) (timers_of es) → entries_of rows ≡ entries_due now es → AreDue now last rows
due_past last_tick before now last es rows a e = all-of_map row_timer (IsDue now last) rows
    (subst (AllByRecursion (IsDue now last)) (sym (ap timers_of e) ∙ timers_of-entries rows) (timers_past last_tick before now last es a))

pub none_past : (now last : ℕ) (rows : Rows) → entries_of rows ≡ [] → AreDue now last rows
none_past now last [] e = tt
none_past now last (x ∷ xs) e = absurd (cc)
