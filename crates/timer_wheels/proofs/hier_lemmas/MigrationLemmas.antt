-- Where the rows of an emptied bucket go: each list after `migrated`, and the order of what is pending then.
use Rattle.std.proofs.Common.{◌≡◌, ◌<◌, ℕ, ◌==◌, List, [], ◌∷◌, ◌++◌, length, refl, sym, ◌∙◌, ap, subst, inl, inr, arith, append_assoc, length-set, get_or-set_same, get_or-set_other, true, false, filter, not}
use Rattle.std.specs.List.{AllByRecursion}
use Rattle.std.proofs.lemmas.Bool.{cases_eq, eq-eqb, ne_eqb}
use Rattle.timer_base.proofs.Basics.{either}
use Rattle.timer_base.specs.Order.{AreDistinct, IsNotAmong, in_order, insert_in_order}
use Rattle.timer_base.proofs.OrderLaws.{in_order-anywhere}
use Rattle.timer_base.specs.Pending.{is_due_at}
use Rattle.timer_links.specs.Lists.{list_at, with_row, KeyedLists, Row, Rows}
use Rattle.timer_wheels.specs.Digits.{slots, bucket}
use Rattle.timer_wheels.specs.BucketLists.{row_timer, row_timers, rows_below}
use Rattle.timer_wheels.specs.hier.Migration.{target, migrate_rows, left_rows}
use Rattle.timer_wheels.proofs.bucket_lemmas.Calls.{IsNotAmong-part}
use Rattle.timer_wheels.proofs.bucket_lemmas.RowLemmas.{rows_below-above, rows_below-with_row, append-nil, timers-append, AreDistinct-taken, IsNotAmong-others}

-- Where the rows of the emptied list go.

pub target_due : (table : List ℕ) (tick : ℕ) (row : Row) → is_due_at tick (row_timer row) ≡ true → target table tick row ≡ slots table
target_due table tick row h = rw h refl

pub target_left : (table : List ℕ) (tick : ℕ) (row : Row) → is_due_at tick (row_timer row) ≡ false
    → target table tick row ≡ bucket table tick (row_timer row).deadline
target_left table tick row h = rw h refl

pub migrate_rows-length : (table : List ℕ) (tick : ℕ) (rows : Rows) (lists : KeyedLists)
    → length (migrate_rows table tick rows lists) ≡ length lists
migrate_rows-length table tick [] lists = refl
migrate_rows-length table tick (x ∷ xs) lists = migrate_rows-length table tick xs (with_row (target table tick x) x lists)
    ∙ length-set lists (target table tick x) (list_at (target table tick x) lists ++ x ∷ [])

-- the rows that go to one list
abbrev pub to_list : List ℕ → ℕ → ℕ → Rows → Rows
to_list table tick s rows = filter (λ row. target table tick row == s) rows

-- each list afterwards
pub list_at-migrate_rows : (table : List ℕ) (tick s : ℕ) (rows : Rows) (lists : KeyedLists) → s < length lists
    → list_at s (migrate_rows table tick rows lists) ≡ list_at s lists ++ to_list table tick s rows
list_at-migrate_rows table tick s [] lists b = sym (append-nil (list_at s lists))
list_at-migrate_rows table tick s (x ∷ xs) lists b =
    let lists2 : KeyedLists = with_row (target table tick x) x lists in
    let b2 : s < length lists2 = rw (length-set lists (target table tick x) (list_at (target table tick x) lists ++ x ∷ [])) b in
    let ih : list_at s (migrate_rows table tick xs lists2) ≡ list_at s lists2 ++ to_list table tick s xs =
    list_at-migrate_rows table tick s xs lists2 b2 in
    elim (cases_eq (target table tick x) s) [
      | inl e ↦
          let here : list_at s lists2 ≡ list_at s lists ++ x ∷ [] =
          ap (λ (v : ℕ). list_at s (with_row v x lists)) e ∙ get_or-set_same lists s (list_at s lists ++ x ∷ []) [] b in
          ih ∙ (ap (λ (v : Rows). v ++ to_list table tick s xs) here
          ∙ (append_assoc (list_at s lists) (x ∷ []) (to_list table tick s xs) ∙ rw (eq-eqb (target table tick x) s e) refl))
      | inr n ↦
          let other : list_at s lists2 ≡ list_at s lists = get_or-set_other lists (target table tick x) s
          (list_at (target table tick x) lists ++ x ∷ []) [] (λ (e : s ≡ target table tick x). n (sym e)) in
          ih ∙ (ap (λ (v : Rows). v ++ to_list table tick s xs) other ∙ rw (ne_eqb (target table tick x) s n) refl)
    ]

-- The order of the rows does not matter.

module _ (serial : ℕ) where
  among-append : (xs ys : Rows) → IsNotAmong serial (row_timers xs) → IsNotAmong serial (row_timers ys)
      → IsNotAmong serial (row_timers (xs ++ ys))
  among-append [] ys a b = b
  among-append (x ∷ xs) ys a b = (a.0, among-append xs ys a.1 b)

  among-front : (xs ys : Rows) → IsNotAmong serial (row_timers (xs ++ ys)) → IsNotAmong serial (row_timers xs)
  among-front [] ys a = tt
  among-front (x ∷ xs) ys a = (a.0, among-front xs ys a.1)

  among-rest : (xs ys : Rows) → IsNotAmong serial (row_timers (xs ++ ys)) → IsNotAmong serial (row_timers ys)
  among-rest [] ys a = a
  among-rest (x ∷ xs) ys a = among-rest xs ys a.1

  among-pulled : (front xs rest : Rows) → IsNotAmong serial (row_timers (front ++ (xs ++ rest)))
      → IsNotAmong serial (row_timers (xs ++ (front ++ rest)))
  among-pulled front xs rest a =
      let b = among-rest front (xs ++ rest) a in
      among-append xs (front ++ rest) (among-front xs rest b) (among-append front rest (among-front front (xs ++ rest) a)
      (among-rest xs rest b))

abbrev pub Distinct : Rows → Type 0
Distinct rows = AreDistinct (row_timers rows)

-- removing a row
distinct-taken : (xs : Rows) (x : Row) (ys : Rows) → Distinct (xs ++ x ∷ ys)
    → IsNotAmong (row_timer x).serial (row_timers (xs ++ ys)) × Distinct (xs ++ ys)
distinct-taken xs x ys d =
    let e : row_timers (xs ++ ys) ≡ row_timers xs ++ row_timers ys = timers-append xs ys in
    let d2 : AreDistinct (row_timers xs ++ row_timer x ∷ row_timers ys) = subst AreDistinct (timers-append xs (x ∷ ys)) d in (
      subst (IsNotAmong (row_timer x).serial) (sym e) (IsNotAmong-others (row_timer x) (row_timers xs) (row_timers ys) d2),
      subst AreDistinct (sym e) (AreDistinct-taken (row_timer x) (row_timers xs) (row_timers ys) d2),
    )

-- inserting a row anywhere
distinct-inserted : (xs : Rows) (x : Row) (ys : Rows) → Distinct (x ∷ (xs ++ ys)) → Distinct (xs ++ x ∷ ys)
distinct-inserted [] x ys d = d
distinct-inserted (z ∷ zs) x ys d =
    let a = among-front (row_timer z).serial zs ys d.1.0 in
    let b = among-rest (row_timer z).serial zs ys d.1.0 in
    (among-append (row_timer z).serial zs (x ∷ ys) a ((λ e. d.0.0 (sym e)), b), distinct-inserted zs x ys (d.0.1, d.1.1))

-- moving rows to the front
pub in_order-pulled : (front xs rest : Rows) → Distinct (front ++ (xs ++ rest))
    → in_order row_timer (front ++ (xs ++ rest)) ≡ in_order row_timer (xs ++ (front ++ rest))
in_order-pulled front [] rest d = refl
in_order-pulled front (x ∷ xs) rest d =
    let t = distinct-taken front x (xs ++ rest) d in
    in_order-anywhere row_timer x front (xs ++ rest) (among-front (row_timer x).serial front (xs ++ rest) t.0)
    ∙ ap (insert_in_order row_timer x) (in_order-pulled front xs rest t.1)

pub distinct-pulled : (front xs rest : Rows) → Distinct (front ++ (xs ++ rest)) → Distinct (xs ++ (front ++ rest))
distinct-pulled front [] rest d = d
distinct-pulled front (x ∷ xs) rest d =
    let t = distinct-taken front x (xs ++ rest) d in
    (among-pulled (row_timer x).serial front xs rest t.0, distinct-pulled front xs rest t.1)

-- What is pending afterwards, in order.

pub record AreMigrated (table : List ℕ) (tick : ℕ) (rows : Rows) (lists : KeyedLists) : Type 0 where
  pub distinct : AreDistinct (row_timers (rows_below (slots table) (migrate_rows table tick rows lists)))
  pub pending : in_order row_timer (rows_below (slots table) (migrate_rows table tick rows lists))
      ≡ in_order row_timer (left_rows tick rows ++ rows_below (slots table) lists)

-- where a row that is not due goes to
abbrev pub GoesDown : List ℕ → ℕ → Row → Type 0
GoesDown table tick row = is_due_at tick (row_timer row) ≡ false → bucket table tick (row_timer row).deadline < slots table

migrate_rows_due : (table : List ℕ) (tick : ℕ) (x : Row) (xs : Rows) (lists : KeyedLists)
    → is_due_at tick (row_timer x) ≡ true → Distinct ((x ∷ xs) ++ rows_below (slots table) lists)
    → (Distinct (xs ++ rows_below (slots table) (with_row (slots table) x lists))
    → AreMigrated table tick xs (with_row (slots table) x lists)) → AreMigrated table tick (x ∷ xs) lists
migrate_rows_due table tick x xs lists k d ih =
    let e : rows_below (slots table) (with_row (slots table) x lists) ≡ rows_below (slots table) lists =
    rows_below-above (slots table) (slots table) lists (list_at (slots table) lists ++ x ∷ []) (omega arith) in
    let s = ih (subst (λ (rows : Rows). Distinct (xs ++ rows)) (sym e) d.1) in
    record {
      distinct = rw k s.distinct;
      pending = rw k (s.pending ∙ ap (λ (rows : Rows). in_order row_timer (left_rows tick xs ++ rows)) e);
    }

kept_left : (tick : ℕ) (x : Row) (xs rows : Rows) → is_due_at tick (row_timer x) ≡ false
    → in_order row_timer (left_rows tick (x ∷ xs) ++ rows) ≡ insert_in_order row_timer x (in_order row_timer (left_rows tick xs ++ rows))
kept_left tick x xs rows k = rw k refl

migrate_rows_left : (table : List ℕ) (tick : ℕ) (x : Row) (xs : Rows) (lists : KeyedLists) (l : ℕ)
    → l ≡ bucket table tick (row_timer x).deadline → l < slots table → slots table < length lists → is_due_at tick (row_timer x) ≡ false
    → Distinct ((x ∷ xs) ++ rows_below (slots table) lists)
    → (Distinct (xs ++ rows_below (slots table) (with_row l x lists)) → AreMigrated table tick xs (with_row l x lists))
    → AreMigrated table tick (x ∷ xs) lists
migrate_rows_left table tick x xs lists l le b len k d ih =
    let i = rows_below-with_row (slots table) l x lists b (omega arith) in
    let d1 : Distinct (x ∷ (xs ++ (i.front ++ i.rest))) = subst (λ (rows : Rows). Distinct (x ∷ (xs ++ rows))) i.old_is d in
    let d2 : Distinct (x ∷ ((xs ++ i.front) ++ i.rest)) =
    subst (λ (rows : Rows). Distinct (x ∷ rows)) (sym (append_assoc xs i.front i.rest)) d1 in
    let d3 : Distinct ((xs ++ i.front) ++ x ∷ i.rest) = distinct-inserted (xs ++ i.front) x i.rest d2 in
    let e3 : (xs ++ i.front) ++ x ∷ i.rest ≡ xs ++ rows_below (slots table) (with_row l x lists) =
    append_assoc xs i.front (x ∷ i.rest) ∙ ap (λ (rows : Rows). xs ++ rows) (sym i.new_is) in
    let s = ih (subst Distinct e3 d3) in
    let ls : Rows = left_rows tick xs in
    let n1 = IsNotAmong-part (row_timer x).serial (λ row. not (is_due_at tick (row_timer row))) xs
    (among-front (row_timer x).serial xs (i.front ++ i.rest) d1.0) in
    let n2 = among-front (row_timer x).serial i.front i.rest (among-rest (row_timer x).serial xs (i.front ++ i.rest) d1.0) in
    let w : with_row (target table tick x) x lists ≡ with_row l x lists =
    ap (λ (v : ℕ). with_row v x lists) (target_left table tick x k ∙ sym le) in
    let moved = λ (ys : KeyedLists). rows_below (slots table) (migrate_rows table tick xs ys) in
    record {
      distinct = subst (λ (ys : KeyedLists). Distinct (moved ys)) (sym w) s.distinct;
      pending =
          ap (λ (ys : KeyedLists). in_order row_timer (moved ys)) w
          ∙ (s.pending
          ∙ (ap (λ (rows : Rows). in_order row_timer (ls ++ rows)) i.new_is
          ∙ (ap (in_order row_timer) (sym (append_assoc ls i.front (x ∷ i.rest)))
          ∙ (in_order-anywhere row_timer x (ls ++ i.front) i.rest (among-append (row_timer x).serial ls i.front n1 n2)
          ∙ (ap (λ (rows : Rows). insert_in_order row_timer x (in_order row_timer rows)) (append_assoc ls i.front i.rest)
          ∙ (ap (λ (rows : Rows). insert_in_order row_timer x (in_order row_timer (ls ++ rows))) (sym i.old_is)
          ∙ sym (kept_left tick x xs (rows_below (slots table) lists) k)))))));
    }

pub migrate_rows_keeps : (table : List ℕ) (tick : ℕ) (rows : Rows) (lists : KeyedLists)
    → slots table < length lists → AllByRecursion (GoesDown table tick) rows → Distinct (rows ++ rows_below (slots table) lists)
    → AreMigrated table tick rows lists
migrate_rows_keeps table tick [] lists len g d = record { distinct = d; pending = refl }
migrate_rows_keeps table tick (x ∷ xs) lists len g d = elim (either (is_due_at tick (row_timer x))) [
  | inl k ↦ migrate_rows_due table tick x xs lists k d
      (λ d2. migrate_rows_keeps table tick xs (with_row (slots table) x lists)
      (omega (arith, length-set lists (slots table) (list_at (slots table) lists ++ x ∷ []))) g.1 d2)
  | inr k ↦
      let l : ℕ = bucket table tick (row_timer x).deadline in
      migrate_rows_left table tick x xs lists l refl (g.0 k) len k d
      (λ d2. migrate_rows_keeps table tick xs (with_row l x lists) (omega (arith, length-set lists l (list_at l lists ++ x ∷ []))) g.1 d2)
]
