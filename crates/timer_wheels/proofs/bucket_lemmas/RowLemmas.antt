-- Rows and lists of rows, and the rows of the first n lists after a change.
use Rattle.std.proofs.Common.{◌≡◌, ◌≢◌, ◌<◌, ◌≤◌, ◌+◌, ℕ, zero, suc, ◌==◌, List, [], ◌∷◌, ◌++◌, length, refl, sym, ◌∙◌, ap, inl, inr, arith, append_assoc, Bool, map, filter, not, slice_set, length-append}
use Rattle.std.specs.List.{AllByRecursion}
use Rattle.std.proofs.lemmas.List.{map-append}
pub use Rattle.std.proofs.lemmas.List.{append-nil, set-set as set_twice, set_comm as set_swapped}
pub use Rattle.std.proofs.lemmas.List.Elements.{filter-append}
use Rattle.timer_base.proofs.Basics.{either}
use Rattle.timer_base.specs.Order.{AreBelow, AreDistinct, IsNotAmong}
use Rattle.timer_base.proofs.OrderLaws.{All-weaken}
pub use Rattle.timer_base.proofs.OrderLaws.{All-append as all-append}
use Rattle.timer_links.specs.Lists.{with_row, without_key}
use Rattle.timer_wheels.specs.Types.{Timer, Entry, list_at, KeyedLists, Row, Rows}
use Rattle.timer_wheels.specs.BucketLists.{row_timer, row_timers, entry_of, entries_of, rows_below}

-- Facts of every row.

pub all-front : {X : Type 0} (P : X → Type 0) (xs ys : List X) → AllByRecursion P (xs ++ ys) → AllByRecursion P xs
all-front P [] ys a = tt
all-front P (x ∷ xs) ys a = (a.0, all-front P xs ys a.1)

pub all-rest : {X : Type 0} (P : X → Type 0) (xs ys : List X) → AllByRecursion P (xs ++ ys) → AllByRecursion P ys
all-rest P [] ys a = a
all-rest P (x ∷ xs) ys a = all-rest P xs ys a.1

-- what holds of each row of each list, holds of all rows
pub all-rows_below : (P : Row → Type 0) (n : ℕ) (lists : KeyedLists)
    → ((s : ℕ) → s < n → AllByRecursion P (list_at s lists)) → AllByRecursion P (rows_below n lists)
all-rows_below P zero lists h = tt
all-rows_below P (suc n) [] h = tt
all-rows_below P (suc n) (x ∷ xs) h = all-append P x (rows_below n xs) (h 0 (omega arith))
    (all-rows_below P n xs (λ s b. h (suc s) (omega arith)))

-- and back
pub all-list_at : (P : Row → Type 0) (n : ℕ) (lists : KeyedLists) → AllByRecursion P (rows_below n lists) → (s : ℕ) → s < n
    → AllByRecursion P (list_at s lists)
all-list_at P zero lists a s b = absurd (omega arith)
all-list_at P (suc n) [] a s b = tt
all-list_at P (suc n) (x ∷ xs) a zero b = all-front P x (rows_below n xs) a
all-list_at P (suc n) (x ∷ xs) a (suc s) b = all-list_at P n xs (all-rest P x (rows_below n xs) a) s (omega arith)

-- One list is replaced.

-- the rows before and behind those of one list
pub record IsAround (n l : ℕ) (lists : KeyedLists) : Type 0 where
  pub front : Rows
  pub rest : Rows
  pub rows : rows_below n lists ≡ front ++ (list_at l lists ++ rest)
  pub with_rows : (rows : Rows) → rows_below n (slice_set lists l rows) ≡ front ++ (rows ++ rest)

pub around : (n l : ℕ) (lists : KeyedLists) → l < n → l < length lists → IsAround n l lists
around zero l lists h b = absurd (omega arith)
around (suc n) l [] h b = absurd (omega arith)
around (suc n) zero (x ∷ xs) h b = record { front = []; rest = rows_below n xs; rows = refl; with_rows = λ rows. refl }
around (suc n) (suc l) (x ∷ xs) h b =
    let ih = around n l xs (omega arith) (omega arith) in
    record {
      front = x ++ ih.front;
      rest = ih.rest;
      rows = ap (λ (y : Rows). x ++ y) ih.rows ∙ sym (append_assoc x ih.front (list_at l xs ++ ih.rest));
      with_rows = λ rows. ap (λ (y : Rows). x ++ y) (ih.with_rows rows) ∙ sym (append_assoc x ih.front (rows ++ ih.rest));
    }

-- a list after the first n is none of them
pub rows_below-above : (n l : ℕ) (lists : KeyedLists) (rows : Rows) → n ≤ l
    → rows_below n (slice_set lists l rows) ≡ rows_below n lists
rows_below-above zero l lists rows h = refl
rows_below-above (suc n) l [] rows h = refl
rows_below-above (suc n) zero (x ∷ xs) rows h = absurd (omega arith)
rows_below-above (suc n) (suc l) (x ∷ xs) rows h = ap (λ (y : Rows). x ++ y) (rows_below-above n l xs rows (omega arith))

-- empty lists have no rows
pub rows_below-none : (n : ℕ) (lists : KeyedLists) → ((s : ℕ) → s < n → list_at s lists ≡ []) → rows_below n lists ≡ []
rows_below-none zero lists h = refl
rows_below-none (suc n) [] h = refl
rows_below-none (suc n) (x ∷ xs) h =
    let a : x ≡ [] = h 0 (omega arith) in
    rw (a, rows_below-none n xs (λ s b. h (suc s) (omega arith))) refl

-- empty lists at the end change nothing
pub rows_below-fewer : (m n : ℕ) (lists : KeyedLists) → m ≤ n → ((s : ℕ) → m ≤ s → s < n → list_at s lists ≡ [])
    → rows_below n lists ≡ rows_below m lists
rows_below-fewer zero n lists h e = rows_below-none n lists (λ s k. e s (omega arith) k)
rows_below-fewer (suc m) zero lists h e = absurd (omega arith)
rows_below-fewer (suc m) (suc n) [] h e = refl
rows_below-fewer (suc m) (suc n) (x ∷ xs) h e =
    ap (λ (y : Rows). x ++ y) (rows_below-fewer m n xs (omega arith) (λ s k l. e (suc s) (omega arith) (omega arith)))

-- A row is inserted.

-- the new rows are the old ones with one more inserted
pub record IsInserted (row : Row) (old new : Rows) : Type 0 where
  pub front : Rows
  pub rest : Rows
  pub old_is : old ≡ front ++ rest
  pub new_is : new ≡ front ++ row ∷ rest

-- a row is inserted into one list, anywhere
pub rows_below-inserted : (n l : ℕ) (row : Row) (before after : Rows) (lists : KeyedLists) → l < n
    → l < length lists → list_at l lists ≡ before ++ after
    → IsInserted row (rows_below n lists) (rows_below n (slice_set lists l (before ++ row ∷ after)))
rows_below-inserted n l row before after lists h b e =
    let a = around n l lists h b in
    record {
      front = a.front ++ before;
      rest = after ++ a.rest;
      old_is = a.rows ∙ (ap (λ (y : Rows). a.front ++ (y ++ a.rest)) e
          ∙ (ap (λ (y : Rows). a.front ++ y) (append_assoc before after a.rest)
          ∙ sym (append_assoc a.front before (after ++ a.rest))));
      new_is = a.with_rows (before ++ row ∷ after) ∙ (ap (λ (y : Rows). a.front ++ y) (append_assoc before (row ∷ after) a.rest)
          ∙ sym (append_assoc a.front before (row ∷ (after ++ a.rest))));
    }

-- a row is pushed to the back of one list
pub rows_below-with_row : (n l : ℕ) (row : Row) (lists : KeyedLists) → l < n → l < length lists
    → IsInserted row (rows_below n lists) (rows_below n (with_row l row lists))
rows_below-with_row n l row lists h b = rows_below-inserted n l row (list_at l lists) [] lists h b (sym (append-nil (list_at l lists)))

-- A row is removed.

pub rows_below-without_key : (n key : ℕ) (lists : KeyedLists)
    → rows_below n (map (without_key key) lists) ≡ without_key key (rows_below n lists)
rows_below-without_key zero key lists = refl
rows_below-without_key (suc n) key [] = refl
rows_below-without_key (suc n) key (x ∷ xs) = ap (λ (y : Rows). without_key key x ++ y) (rows_below-without_key n key xs)
    ∙ sym (filter-append (λ r. not (r.0 == key)) x (rows_below n xs))

pub list_at-without_key : (s key : ℕ) (lists : KeyedLists) → list_at s (map (without_key key) lists) ≡ without_key key (list_at s lists)
list_at-without_key s key [] = refl
list_at-without_key zero key (x ∷ xs) = refl
list_at-without_key (suc s) key (x ∷ xs) = list_at-without_key s key xs

-- Rows, entries and timers.

pub timers-append : (xs ys : Rows) → row_timers (xs ++ ys) ≡ row_timers xs ++ row_timers ys
timers-append xs ys = map-append row_timer xs ys

pub entries-append : (xs ys : Rows) → entries_of (xs ++ ys) ≡ entries_of xs ++ entries_of ys
entries-append xs ys = map-append entry_of xs ys

pub filter-entries : (p : Entry → Bool) (rows : Rows)
    → filter p (entries_of rows) ≡ entries_of (filter (λ r. p (entry_of r)) rows)
filter-entries p [] = refl
filter-entries p (x ∷ xs) = elim (either (p (entry_of x))) [
  | inl k ↦ rw k (ap (λ r. entry_of x ∷ r) (filter-entries p xs))
  | inr k ↦ rw k (filter-entries p xs)
]

-- Serials.

pub IsNotAmong-below : (high : ℕ) (ts : List Timer) → AreBelow high ts → IsNotAmong high ts
IsNotAmong-below high ts b = All-weaken (λ t. t.serial < high) (λ t. t.serial ≢ high) ts
    (λ t h e. let below : t.serial < high = h in let same : t.serial ≡ high = e in omega arith) b

-- a timer with a distinct serial may be inserted anywhere
pub AreDistinct-inserted : (t : Timer) (xs ys : List Timer) → IsNotAmong t.serial (xs ++ ys) → AreDistinct (xs ++ ys)
    → AreDistinct (xs ++ t ∷ ys)
AreDistinct-inserted t [] ys n d = (n, d)
AreDistinct-inserted t (x ∷ xs) ys n d = (
  all-append (λ u. u.serial ≢ x.serial) xs (t ∷ ys) (all-front (λ u. u.serial ≢ x.serial) xs ys d.0)
      ((λ e. n.0 (sym e)), all-rest (λ u. u.serial ≢ x.serial) xs ys d.0),
  AreDistinct-inserted t xs ys n.1 d.1,
)

-- and may be removed
pub AreDistinct-taken : (t : Timer) (xs ys : List Timer) → AreDistinct (xs ++ t ∷ ys) → AreDistinct (xs ++ ys)
AreDistinct-taken t [] ys d = d.1
AreDistinct-taken t (x ∷ xs) ys d = (
  all-append (λ u. u.serial ≢ x.serial) xs ys (all-front (λ u. u.serial ≢ x.serial) xs (t ∷ ys) d.0)
      (all-rest (λ u. u.serial ≢ x.serial) xs (t ∷ ys) d.0).1,
  AreDistinct-taken t xs ys d.1,
)

-- no other of the timers has its serial
pub IsNotAmong-others : (t : Timer) (xs ys : List Timer) → AreDistinct (xs ++ t ∷ ys) → IsNotAmong t.serial (xs ++ ys)
IsNotAmong-others t [] ys d = d.0
IsNotAmong-others t (x ∷ xs) ys d = ((λ e. (all-rest (λ u. u.serial ≢ x.serial) xs (t ∷ ys) d.0).0 (sym e)), IsNotAmong-others t xs ys d.1)

-- one more list
pub rows_below-more : (n : ℕ) (lists : KeyedLists) → n < length lists → rows_below (suc n) lists ≡ rows_below n lists ++ list_at n lists
rows_below-more zero [] h = absurd (omega arith)
rows_below-more zero (x ∷ xs) h = append-nil x
rows_below-more (suc n) [] h = absurd (omega arith)
rows_below-more (suc n) (x ∷ xs) h = ap (λ (y : Rows). x ++ y) (rows_below-more n xs (omega arith))
    ∙ sym (append_assoc x (rows_below n xs) (list_at n xs))

-- the same lists have the same rows
pub rows_below-same : (n : ℕ) (old new : KeyedLists) → n ≤ length old → n ≤ length new
    → ((s : ℕ) → s < n → list_at s new ≡ list_at s old) → rows_below n new ≡ rows_below n old
rows_below-same zero old new h k e = refl
rows_below-same (suc n) old new h k e =
    rows_below-more n new (omega arith)
    ∙ (ap (λ (y : Rows). y ++ list_at n new) (rows_below-same n old new (omega arith) (omega arith) (λ s l. e s (omega arith)))
    ∙ (ap (λ (y : Rows). rows_below n old ++ y) (e n (omega arith)) ∙ sym (rows_below-more n old (omega arith))))

-- the timers copied from one more list
pub timers_below-more : (n : ℕ) (lists : KeyedLists) (old new : List Timer) → n < length lists
    → old ≡ row_timers (rows_below n lists) → new ≡ old ++ row_timers (list_at n lists) → new ≡ row_timers (rows_below (n + 1) lists)
timers_below-more n lists old new h a b =
    let e : n + 1 ≡ suc n = omega arith in
    b ∙ (ap (λ (y : List Timer). y ++ row_timers (list_at n lists)) a
    ∙ (sym (timers-append (rows_below n lists) (list_at n lists))
    ∙ ap row_timers (sym (ap (λ (y : ℕ). rows_below y lists) e ∙ rows_below-more n lists h))))

-- more lists have as many rows at least
pub length-rows_below : (n m : ℕ) (lists : KeyedLists) → n ≤ m → length (rows_below n lists) ≤ length (rows_below m lists)
length-rows_below zero m lists h = omega arith
length-rows_below (suc n) zero lists h = absurd (omega arith)
length-rows_below (suc n) (suc m) [] h = omega arith
length-rows_below (suc n) (suc m) (x ∷ xs) h =
    let rest = length-rows_below n m xs (omega arith) in
    omega (arith, length-append x (rows_below n xs), length-append x (rows_below m xs))

-- the rows of the first lists, and those of the next one
pub length-rows_below-next : (n m : ℕ) (lists : KeyedLists) → n < m → n < length lists
    → length (rows_below n lists) + length (list_at n lists) ≤ length (rows_below m lists)
length-rows_below-next n m lists h b =
    let more : length (rows_below (suc n) lists) ≡ length (rows_below n lists) + length (list_at n lists) =
    ap (λ (y : Rows). length y) (rows_below-more n lists b) ∙ length-append (rows_below n lists) (list_at n lists) in
    let fits = length-rows_below (suc n) m lists (omega arith) in
    omega arith
