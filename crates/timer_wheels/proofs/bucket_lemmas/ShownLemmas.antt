-- Lemmas about `ShowsBuckets`: it holds if each row is in its timer's bucket.
use Rattle.std.proofs.Common.{◌≡◌, ◌≢◌, ◌<◌, ◌+◌, ℕ, zero, suc, ◌==◌, List, [], ◌∷◌, ◌++◌, length, refl, sym, ◌∙◌, ap, inl, inr, arith, Bool, true, false, map, filter}
use Rattle.std.specs.List.{AllByRecursion}
use Rattle.std.proofs.lemmas.Bool.{eq-eqb, ne_eqb}
use Rattle.std.proofs.lemmas.List.{length-map}
use Rattle.timer_base.proofs.Basics.{either}
use Rattle.timer_base.specs.Order.{is_before, insert_in_order, in_order, AreDistinct, AreRising, IsNotAmong}
use Rattle.timer_base.proofs.OrderLaws.{insert_in_order-commutes, in_order-same, AllAt, All-weaken, length-in_order, AreDistinct-rising, IsNotAmong-in_order}
use Rattle.timer_base.specs.Pending.{timer_of}
use Rattle.timer_wheels.specs.Types.{Timer, Entry, WheelState, list_at, KeyedLists, Row, Rows}
use Rattle.timer_wheels.specs.BucketLists.{row_timer, row_timers, entries_of, rows_below, pending_in, wheel_state, AreInOrder, EachRow}
use Rattle.timer_wheels.specs.BucketLaws.{timers_of-entries}
use Rattle.timer_wheels.specs.Shown.{without_deadline, by_serial, row_of_entry, entries_at, ShowsBuckets}
use Rattle.timer_wheels.proofs.bucket_lemmas.AllLemmas.{filter_none, filter_each}
use Rattle.timer_wheels.proofs.bucket_lemmas.RowLemmas.{append-nil, filter-append}
use Rattle.timer_wheels.proofs.bucket_lemmas.Calls.{filter-pending_in}

-- Which rows satisfy a test.

-- no row of the lists satisfies the test
pub filter-no_list : (p : Row → Bool) (n : ℕ) (lists : KeyedLists)
    → ((t : ℕ) → t < n → AllByRecursion (λ row. p row ≡ false) (list_at t lists)) → filter p (rows_below n lists) ≡ []
filter-no_list p zero lists h = refl
filter-no_list p (suc n) [] h = refl
filter-no_list p (suc n) (x ∷ xs) h = filter-append p x (rows_below n xs)
    ∙ rw (filter_none p x (h 0 (omega arith)), filter-no_list p n xs (λ t b. h (suc t) (omega arith))) refl

-- only rows of one list do
pub filter-one_list : (p : Row → Bool) (n s : ℕ) (lists : KeyedLists) → s < n → s < length lists
    → ((t : ℕ) → t < n → t ≢ s → AllByRecursion (λ row. p row ≡ false) (list_at t lists))
    → filter p (rows_below n lists) ≡ filter p (list_at s lists)
filter-one_list p zero s lists h b o = absurd (omega arith)
filter-one_list p (suc n) s [] h b o = absurd (omega arith)
filter-one_list p (suc n) zero (x ∷ xs) h b o =
    filter-append p x (rows_below n xs)
    ∙ (ap (λ (y : Rows). filter p x ++ y) (filter-no_list p n xs (λ t c. o (suc t) (omega arith) (omega arith)))
    ∙ append-nil (filter p x))
filter-one_list p (suc n) (suc s) (x ∷ xs) h b o =
    filter-append p x (rows_below n xs)
    ∙ (ap (λ (y : Rows). y ++ filter p (rows_below n xs)) (filter_none p x (o 0 (omega arith) (omega arith)))
    ∙ filter-one_list p n s xs (omega arith) (omega arith) (λ t c e. o (suc t) (omega arith) (omega arith)))

-- By serial.

in_order-insert_step : {X : Type 0} (f g : X → Timer) (x y : X) (ys : List X) → (g x).serial ≢ (g y).serial
    → in_order g (insert_in_order f x ys) ≡ insert_in_order g x (in_order g ys)
    → in_order g (insert_in_order f x (y ∷ ys)) ≡ insert_in_order g x (in_order g (y ∷ ys))
in_order-insert_step f g x y ys n ih = elim (either (is_before (f x) (f y))) [
  | inl k ↦ rw k refl
  | inr k ↦ rw k (ap (insert_in_order g y) ih ∙ insert_in_order-commutes g y x (in_order g ys) (λ e. n (sym e)))
]

in_order-insert_in_order : {X : Type 0} (f g : X → Timer) (x : X) (ys : List X) → IsNotAmong (g x).serial (map g ys)
    → in_order g (insert_in_order f x ys) ≡ insert_in_order g x (in_order g ys)
in_order-insert_in_order f g x [] n = refl
in_order-insert_in_order f g x (y ∷ ys) n = in_order-insert_step f g x y ys (λ e. n.0 (sym e)) (in_order-insert_in_order f g x ys n.1)

among-without_deadline : (serial : ℕ) (es : List Entry) → IsNotAmong serial (map timer_of es) → IsNotAmong serial (map without_deadline es)
among-without_deadline serial [] n = tt
among-without_deadline serial (e ∷ es) n = (n.0, among-without_deadline serial es n.1)

-- the order by serial does not depend on the order before
by_serial-in_order : (es : List Entry) → AreDistinct (map timer_of es) → by_serial (in_order timer_of es) ≡ by_serial es
by_serial-in_order [] d = refl
by_serial-in_order (e ∷ es) d =
    in_order-insert_in_order timer_of without_deadline e (in_order timer_of es)
    (among-without_deadline e.timer.serial (in_order timer_of es) (IsNotAmong-in_order timer_of e.timer.serial es d.0))
    ∙ ap (insert_in_order without_deadline e) (by_serial-in_order es d.1)

at_zero : (rows : Rows) → AllAt 0 (map without_deadline (entries_of rows))
at_zero [] = tt
at_zero (x ∷ xs) = (refl, at_zero xs)

rising_too : (low : ℕ) (rows : Rows) → AreRising low (row_timers rows) → AreRising low (map without_deadline (entries_of rows))
rising_too low [] r = tt
rising_too low (x ∷ xs) r = (r.0, rising_too (row_timer x).serial xs r.1)

-- rows in order of starting are by serial
pub by_serial-pending_in : (rows : Rows) → AreRising 0 (row_timers rows) → by_serial (pending_in rows) ≡ entries_of rows
by_serial-pending_in rows r =
    by_serial-in_order (entries_of rows) (rw (timers_of-entries rows) (AreDistinct-rising 0 (row_timers rows) r))
    ∙ in_order-same without_deadline 0 0 (entries_of rows) (at_zero rows) (rising_too 0 rows r)

-- Each row stands in its timer's bucket.

-- the invariant of a row of bucket s
abbrev pub IsAt : (Timer → ℕ) → (Timer → ℕ) → ℕ → Row → Type 0
IsAt bucket_of rounds_of s row = (bucket_of (row_timer row) ≡ s) × (row.1.rounds ≡ rounds_of (row_timer row))

rows_again : (bucket_of rounds_of : Timer → ℕ) (s : ℕ) (rows : Rows) → AllByRecursion (IsAt bucket_of rounds_of s) rows
    → map (row_of_entry rounds_of) (entries_of rows) ≡ rows
rows_again bucket_of rounds_of s [] a = refl
rows_again bucket_of rounds_of s (x ∷ xs) a =
    ap (λ (k : ℕ). (x.0, record x.1 { rounds = k }) ∷ map (row_of_entry rounds_of) (entries_of xs)) (sym a.0.1)
    ∙ ap (λ (r : Rows). x ∷ r) (rows_again bucket_of rounds_of s xs a.1)

module _ (n : ℕ) (bucket_of rounds_of : Timer → ℕ) (lists : KeyedLists) (len : length lists
    ≡ n + 1) (each : EachRow (IsAt bucket_of rounds_of) n lists) where
  other_rows : (s t : ℕ) → t < n → t ≢ s → AllByRecursion (λ row. (bucket_of (row_timer row) == s) ≡ false) (list_at t lists)
  other_rows s t h e = All-weaken (IsAt bucket_of rounds_of t) (λ row. (bucket_of (row_timer row) == s)
      ≡ false) (list_at t lists) (λ row a. ne_eqb (bucket_of (row_timer row)) s (λ (q : bucket_of (row_timer row) ≡ s). e (sym a.0 ∙ q)))
      (each t h)

  these_rows : (s : ℕ) → s < n → AllByRecursion (λ row. (bucket_of (row_timer row) == s) ≡ true) (list_at s lists)
  these_rows s h = All-weaken (IsAt bucket_of rounds_of s) (λ row. (bucket_of (row_timer row) == s)
      ≡ true) (list_at s lists) (λ row a. eq-eqb (bucket_of (row_timer row)) s a.0) (each s h)

  -- the pending timers of one bucket are those of its list
  pub entries_at-pending : (s : ℕ) → s < n → entries_at bucket_of s (pending_in (rows_below n lists)) ≡ pending_in (list_at s lists)
  entries_at-pending s h =
      filter-pending_in (λ (entry : Entry). bucket_of entry.timer == s) (rows_below n lists)
      ∙ ap pending_in (filter-one_list (λ (row : Row). bucket_of (row_timer row) == s) n s lists h (omega arith) (other_rows s)
      ∙ filter_each (λ (row : Row). bucket_of (row_timer row) == s) (list_at s lists) (these_rows s h))

  pub shows : (last_tick now last : ℕ) → AreInOrder (n + 1) lists
      → ShowsBuckets n bucket_of rounds_of (wheel_state n last_tick now last lists) lists
  shows last_tick now last o = record {
    count = len;
    buckets = λ s h. sym (
        ap (λ (y : List Entry). map (row_of_entry rounds_of) (by_serial y)) (entries_at-pending s h)
        ∙ (ap (map (row_of_entry rounds_of)) (by_serial-pending_in (list_at s lists) (o s (omega arith)))
        ∙ rows_again bucket_of rounds_of s (list_at s lists) (each s h)));
    due = refl;
  }

-- a list with rows is of a bucket with pending timers
pub some_at : (n : ℕ) (bucket_of rounds_of : Timer → ℕ) (w : WheelState) (lists : KeyedLists)
    → ShowsBuckets n bucket_of rounds_of w lists → (s : ℕ) → s < n → 0 < length (list_at s lists)
    → 0 < length (entries_at bucket_of s w.pending)
some_at n bucket_of rounds_of w lists h s b k =
    let entries : List Entry = entries_at bucket_of s w.pending in
    let x : length (list_at s lists) ≡ length entries = ap length (h.buckets s b)
    ∙ (length-map (by_serial entries) (row_of_entry rounds_of) ∙ length-in_order without_deadline entries) in
    omega arith
