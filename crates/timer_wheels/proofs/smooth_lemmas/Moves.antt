-- One timer moves from the front of one bucket to the back of another: the state of the wheel stays, and the buckets
-- stay sound.
use Rattle.std.proofs.Common.{◌≡◌, ◌≢◌, ◌<◌, ℕ, List, [], ◌∷◌, ◌++◌, length, refl, sym, ◌∙◌, ap, inl, inr, subst, arith, slice_set, length-set, get_or-set_same, get_or-set_other}
use Rattle.std.specs.List.{AllByRecursion}
use Rattle.std.proofs.lemmas.List.{set-get_or}
use Rattle.std.proofs.lemmas.Bool.{cases_eq}
use Rattle.timer_base.specs.declared.timer.Timer.{Timer}
use Rattle.timer_base.specs.Order.{in_order, insert_in_order, AreDistinct, AreRising, IsNotAmong}
use Rattle.timer_base.proofs.OrderLaws.{map-in_order, in_order-anywhere, AreRising-weaken}
use Rattle.timer_base.specs.Pending.{timer_of}
use Rattle.timer_base.specs.WheelState.{IsPending}
use Rattle.timer_links.specs.Lists.{list_at, with_row, KeyedLists, Row, Rows}
use Rattle.timer_wheels.specs.BucketLists.{row_timer, row_timers, entry_of, entries_of, rows_below, pending_in, AreInOrder, AreBuckets, wheel_state}
use Rattle.timer_wheels.specs.smooth.Smooth.{IsMove}
use Rattle.timer_wheels.proofs.bucket_lemmas.RowLemmas.{all-append, all-front, all-rest, set_twice, IsInserted, rows_below-inserted, rows_below-with_row, timers-append, AreDistinct-inserted, AreDistinct-taken, IsNotAmong-others}
use Rattle.timer_wheels.proofs.bucket_lemmas.Calls.{in_order-with_row}

-- A row that is inserted at two places of the same rows.

module _ (row : Row) (mid old new : Rows) (a : IsInserted row mid old) (b : IsInserted row mid new) where
  same_rest : a.front ++ a.rest ≡ b.front ++ b.rest
  same_rest = sym a.old_is ∙ b.old_is

  pub all_moved : (P : Row → Type 0) → AllByRecursion P old → AllByRecursion P new
  all_moved P h =
      let h1 : AllByRecursion P (a.front ++ row ∷ a.rest) = subst (AllByRecursion P) a.new_is h in
      let tail = all-rest P a.front (row ∷ a.rest) h1 in
      let h2 : AllByRecursion P (b.front ++ b.rest) =
      subst (AllByRecursion P) same_rest (all-append P a.front a.rest (all-front P a.front (row ∷ a.rest) h1) tail.1) in
      subst (AllByRecursion P) (sym b.new_is)
      (all-append P b.front (row ∷ b.rest) (all-front P b.front b.rest h2) (tail.0, all-rest P b.front b.rest h2))

  module _ (d : AreDistinct (row_timers old)) where
    apart : AreDistinct (row_timers a.front ++ row_timer row ∷ row_timers a.rest)
    apart = subst AreDistinct (ap row_timers a.new_is ∙ timers-append a.front (row ∷ a.rest)) d

    others : IsNotAmong (row_timer row).serial (row_timers a.front ++ row_timers a.rest)
    others = IsNotAmong-others (row_timer row) (row_timers a.front) (row_timers a.rest) apart

    same_timers : row_timers a.front ++ row_timers a.rest ≡ row_timers b.front ++ row_timers b.rest
    same_timers = sym (timers-append a.front a.rest) ∙ (ap row_timers same_rest ∙ timers-append b.front b.rest)

    others2 : IsNotAmong (row_timer row).serial (row_timers b.front ++ row_timers b.rest)
    others2 = subst (IsNotAmong (row_timer row).serial) same_timers others

    pub distinct_moved : AreDistinct (row_timers new)
    distinct_moved = subst AreDistinct (sym (ap row_timers b.new_is ∙ timers-append b.front (row ∷ b.rest)))
        (AreDistinct-inserted (row_timer row) (row_timers b.front) (row_timers b.rest) others2
        (subst AreDistinct same_timers (AreDistinct-taken (row_timer row) (row_timers a.front) (row_timers a.rest) apart)))

    among_front : (xs ys : List Timer) → IsNotAmong (row_timer row).serial (xs ++ ys) → IsNotAmong (row_timer row).serial xs
    among_front xs ys n = all-front (λ t. t.serial ≢ (row_timer row).serial) xs ys n

    pub in_order_moved : in_order row_timer new ≡ in_order row_timer old
    in_order_moved =
        ap (in_order row_timer) b.new_is
        ∙ (in_order-anywhere row_timer row b.front b.rest (among_front (row_timers b.front) (row_timers b.rest) others2)
        ∙ (ap (λ (r : Rows). insert_in_order row_timer row (in_order row_timer r)) (sym same_rest)
        ∙ (sym (in_order-anywhere row_timer row a.front a.rest (among_front (row_timers a.front) (row_timers a.rest) others))
        ∙ ap (in_order row_timer) (sym a.new_is))))

-- the pending entries are the rows, in order
pending_by_rows : (rows : Rows) → pending_in rows ≡ entries_of (in_order row_timer rows)
pending_by_rows rows = sym (map-in_order row_timer timer_of entry_of (λ x. refl) rows)

-- The move.

module _ {n last_tick now last : ℕ} {lists : KeyedLists} {from to : ℕ} {row : Row} {rest : Rows}
    (b : AreBuckets n last_tick now last lists) (o : AreInOrder n lists) (m : IsMove n lists from to row rest) where
  from_exists : from < length lists
  from_exists = omega (arith, m.from_in, b.has_lists)

  mid_length : length (slice_set lists from rest) ≡ length lists
  mid_length = length-set lists from rest

  to_exists : to < length (slice_set lists from rest)
  to_exists = omega (arith, m.to_in, b.has_lists, mid_length)

  mid_from : list_at from (slice_set lists from rest) ≡ rest
  mid_from = get_or-set_same lists from rest [] from_exists

  mid_others : (s : ℕ) → s ≢ from → list_at s (slice_set lists from rest) ≡ list_at s lists
  mid_others s x = get_or-set_other lists from s rest [] x

  -- the lists afterwards
  pub after_from : list_at from (with_row to row (slice_set lists from rest)) ≡ rest
  after_from = get_or-set_other (slice_set lists from rest) to from (list_at to (slice_set lists from rest) ++ row ∷ []) []
      (λ (e : from ≡ to). m.elsewhere (sym e)) ∙ mid_from

  pub after_to : list_at to (with_row to row (slice_set lists from rest)) ≡ list_at to lists ++ row ∷ []
  after_to = get_or-set_same (slice_set lists from rest) to (list_at to (slice_set lists from rest) ++ row ∷ []) [] to_exists
      ∙ ap (λ (r : Rows). r ++ row ∷ []) (mid_others to m.elsewhere)

  pub after_others : (s : ℕ) → s ≢ from → s ≢ to → list_at s (with_row to row (slice_set lists from rest)) ≡ list_at s lists
  after_others s x y = get_or-set_other (slice_set lists from rest) to s (list_at to (slice_set lists from rest) ++ row ∷ []) [] y
      ∙ mid_others s x

  -- the rows
  back_is : slice_set (slice_set lists from rest) from (row ∷ rest) ≡ lists
  back_is = set_twice lists from rest (row ∷ rest) ∙ (ap (slice_set lists from) (sym m.at) ∙ set-get_or lists from [])

  inserted_old : IsInserted row (rows_below n (slice_set lists from rest)) (rows_below n lists)
  inserted_old = subst (λ (x : KeyedLists). IsInserted row (rows_below n (slice_set lists from rest)) (rows_below n x)) back_is
      (rows_below-inserted n from row [] rest (slice_set lists from rest) m.from_in (omega (arith, from_exists, mid_length)) mid_from)

  inserted_new : IsInserted row (rows_below n (slice_set lists from rest)) (rows_below n (with_row to row (slice_set lists from rest)))
  inserted_new = rows_below-with_row n to row (slice_set lists from rest) m.to_in to_exists

  abbrev old_rows : Rows
  old_rows = rows_below n lists

  abbrev new_rows : Rows
  new_rows = rows_below n (with_row to row (slice_set lists from rest))

  first_rising : AreRising 0 (row_timer row ∷ row_timers rest)
  first_rising = subst (λ (r : Rows). AreRising 0 (row_timers r)) m.at (o from m.from_in)

  pub serial_positive : 0 < (row_timer row).serial
  serial_positive = first_rising.0

  pub rest_rising : AreRising (row_timer row).serial (row_timers rest)
  rest_rising = first_rising.1

  pub mid_in_order : AreInOrder n (slice_set lists from rest)
  mid_in_order s h = elim (cases_eq s from) [
    | inl e ↦ subst (λ (r : Rows). AreRising 0 (row_timers r)) (sym (ap (λ (x : ℕ). list_at x (slice_set lists from rest)) e ∙ mid_from))
        (AreRising-weaken (row_timer row).serial 0 (row_timers rest) (omega arith) rest_rising)
    | inr x ↦ subst (λ (r : Rows). AreRising 0 (row_timers r)) (sym (mid_others s x)) (o s h)
  ]

  pub moved_sound : AreBuckets n last_tick now last (with_row to row (slice_set lists from rest))
  moved_sound = record {
    last_in_range = b.last_in_range;
    tick_in_range = b.tick_in_range;
    serial_in_range = b.serial_in_range;
    has_lists = length-set (slice_set lists from rest) to (list_at to (slice_set lists from rest) ++ row ∷ []) ∙ (mid_length ∙ b.has_lists);
    pending = all_moved row (rows_below n (slice_set lists from rest)) old_rows new_rows inserted_old inserted_new
        (λ (r : Row). IsPending last_tick now last (row_timer r)) b.pending;
    distinct = distinct_moved row (rows_below n (slice_set lists from rest)) old_rows new_rows inserted_old inserted_new b.distinct;
    due = rw (due_same) b.due;
    due_in_order = rw due_same b.due_in_order;
  } where
    due_same : list_at n (with_row to row (slice_set lists from rest)) ≡ list_at n lists
    due_same = after_others n (λ (e : n ≡ from). omega (arith, m.from_in)) (λ (e : n ≡ to). omega (arith, m.to_in))

  pub moved_in_order : AreInOrder n (with_row to row (slice_set lists from rest))
  moved_in_order = in_order-with_row n to row (slice_set lists from rest) to_exists serial_positive
      (rw (mid_others to m.elsewhere) m.last_there) mid_in_order

  pub moved_state : wheel_state n last_tick now last (with_row to row (slice_set lists from rest)) ≡ wheel_state n last_tick now last lists
  moved_state =
      let due : list_at n (with_row to row (slice_set lists from rest)) ≡ list_at n lists =
      after_others n (λ (e : n ≡ from). omega (arith, m.from_in)) (λ (e : n ≡ to). omega (arith, m.to_in)) in
      let rows : in_order row_timer (rows_below n (with_row to row (slice_set lists from rest))) ≡ in_order row_timer (rows_below n lists) =
      in_order_moved row (rows_below n (slice_set lists from rest)) old_rows new_rows inserted_old inserted_new b.distinct in
      let pend : pending_in (rows_below n (with_row to row (slice_set lists from rest))) ≡ pending_in (rows_below n lists) =
      pending_by_rows (rows_below n (with_row to row (slice_set lists from rest)))
      ∙ (ap entries_of rows ∙ sym (pending_by_rows (rows_below n lists))) in
      rw (due, pend) refl
