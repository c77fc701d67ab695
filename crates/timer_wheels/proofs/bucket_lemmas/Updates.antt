-- The two changes that every call but a tick composes: a row is removed, and a row is pushed to the back of a list.
use Rattle.std.proofs.Common.{◌≡◌, ◌<◌, ◌≤◌, ◌+◌, ◌==◌, ℕ, [], ◌∷◌, ◌++◌, length, refl, sym, ◌∙◌, ap, subst, inl, inr, arith, length-set, get_or-set_same, get_or-set_other, Option, Some, None, map, not, slice_set}
use Rattle.std.specs.List.{AllByRecursion}
use Rattle.std.proofs.lemmas.Bool.{cases_lt}
use Rattle.std.proofs.lemmas.List.{length-map}
use Rattle.timer_base.proofs.HeldLaws.{start_when_later, start_when_now}
use Rattle.timer_base.specs.Order.{AreBelow, AreRising}
use Rattle.timer_base.proofs.OrderLaws.{All-filter, All-weaken, AreRising-weaken, AreRising-append}
use Rattle.timer_base.specs.WheelState.{IsPending, IsDue, after_start, after_due_start, after_held_start, after_expiry, after_clear}
use Rattle.timer_links.specs.Lists.{with_row, without_key, PopsFront}
use Rattle.timer_wheels.specs.Types.{LAST, Node, list_at, KeyedLists, Row, Rows}
use Rattle.timer_wheels.specs.Buckets.{IsListOf}
use Rattle.timer_wheels.specs.BucketLists.{row_timer, row_timers, rows_below, wheel_state, AreDue, AreBuckets}
use Rattle.timer_wheels.proofs.bucket_lemmas.AllLemmas.{all-map}
use Rattle.timer_wheels.proofs.bucket_lemmas.RowLemmas.{IsInserted, IsNotAmong-below, rows_below-with_row, all-append, all-rest, entries-append, timers-append, rows_below-above, rows_below-none, rows_below-without_key, list_at-without_key}
use Rattle.timer_wheels.proofs.bucket_lemmas.Calls.{AreDistinct-part, AreRising-part, AreBelow-pending, pending_in-newest, all-inserted, distinct-inserted}

module _ {n last_tick now last : ℕ} {lists : KeyedLists} (b : AreBuckets n last_tick now last lists) where
  -- the row under a key is removed, if there is one
  pub removed : (key : ℕ) → AreBuckets n last_tick now last (map (without_key key) lists)
  removed key =
      let pending : Row → Type 0 = λ row. IsPending last_tick now last (row_timer row) in
      let due : Row → Type 0 = λ row. IsDue now last (row_timer row) in
      record {
        last_in_range = b.last_in_range;
        tick_in_range = b.tick_in_range;
        serial_in_range = b.serial_in_range;
        has_lists = length-map lists (without_key key) ∙ b.has_lists;
        pending = rw (rows_below-without_key n key lists)
            (All-filter pending pending (λ r. not (r.0 == key)) (rows_below n lists) (λ r e f. f) b.pending);
        distinct = rw (rows_below-without_key n key lists) (AreDistinct-part (λ r. not (r.0 == key)) (rows_below n lists) b.distinct);
        due = rw (list_at-without_key n key lists) (All-filter due due (λ r. not (r.0 == key)) (list_at n lists) (λ r e f. f) b.due);
        due_in_order = rw (list_at-without_key n key lists) (AreRising-part (λ r. not (r.0 == key)) 0 (list_at n lists) b.due_in_order);
      }

  -- what is due, with a later last serial
  pub older : (serial : ℕ) → last < serial → AreDue now serial (list_at n lists)
  older serial fresh = All-weaken (λ row. IsDue now last (row_timer row)) (λ row. IsDue now serial (row_timer row)) (list_at n lists)
      (λ row d. record { deadline = d.deadline; serial = let s : (row_timer row).serial ≤ last = d.serial in omega arith }) b.due

  -- what is pending, with a later last serial
  pub older_pending : (serial : ℕ) → last < serial
      → AllByRecursion (λ row. IsPending last_tick now serial (row_timer row)) (rows_below n lists)
  older_pending serial fresh = All-weaken (λ row. IsPending last_tick now last (row_timer row))
      (λ row. IsPending last_tick now serial (row_timer row)) (rows_below n lists) (λ row p. record {
        later = p.later;
        in_range = p.in_range;
        serial = let s : (row_timer row).serial ≤ last = p.serial in omega arith;
      }) b.pending

  -- a timer is started at the back of a bucket
  module _ (bucket place : ℕ) (node : Node) (h : bucket < n) (fresh : last < node.timer.serial) where
    here : bucket < length lists
    here = omega (arith, b.has_lists)

    inserted : IsInserted (place, node) (rows_below n lists) (rows_below n (with_row bucket (place, node) lists))
    inserted = rows_below-with_row n bucket (place, node) lists h here

    below : AreBelow node.timer.serial (row_timers (rows_below n lists))
    below = AreBelow-pending last_tick now last node.timer.serial (rows_below n lists) fresh b.pending

    due_stays : list_at n (with_row bucket (place, node) lists) ≡ list_at n lists
    due_stays = get_or-set_other lists bucket n (list_at bucket lists ++ (place, node) ∷ []) [] (omega arith)

    pushed : now < node.timer.deadline → node.timer.deadline ≤ last_tick → node.timer.serial ≤ LAST
        → AreBuckets n last_tick now node.timer.serial (with_row bucket (place, node) lists)
    pushed later range serial = record {
      last_in_range = b.last_in_range;
      tick_in_range = b.tick_in_range;
      serial_in_range = serial;
      has_lists = length-set lists bucket (list_at bucket lists ++ (place, node) ∷ []) ∙ b.has_lists;
      pending = all-inserted inserted (λ row. IsPending last_tick now node.timer.serial (row_timer row))
          (record { later = later; in_range = range; serial = omega arith }) (older_pending node.timer.serial fresh);
      distinct = distinct-inserted inserted (IsNotAmong-below node.timer.serial (row_timers (rows_below n lists)) below) b.distinct;
      due = subst (AreDue now node.timer.serial) (sym due_stays) (older node.timer.serial fresh);
      due_in_order = rw due_stays b.due_in_order;
    }

    -- its entry comes to its place among the pending ones
    pushed-state : wheel_state n last_tick now node.timer.serial (with_row bucket (place, node) lists)
        ≡ after_start place node.timer (wheel_state n last_tick now last lists)
    pushed-state = rw (pending_in-newest inserted below, due_stays) refl

  newest_due : (serial : ℕ) → last < serial → AreBelow serial (row_timers (list_at n lists))
  newest_due serial fresh = all-map row_timer (λ t. t.serial < serial) (list_at n lists)
      (All-weaken (λ row. IsDue now last (row_timer row)) (λ row. (row_timer row).serial < serial) (list_at n lists)
      (λ row d. let s : (row_timer row).serial ≤ last = d.serial in omega arith) b.due)

  -- a timer is started at the back of what is due
  pushed_due : (place : ℕ) (node : Node) → node.timer.deadline ≡ now → last < node.timer.serial → node.timer.serial ≤ LAST
      → AreBuckets n last_tick now node.timer.serial (with_row n (place, node) lists)
  pushed_due place node due fresh serial =
      let here : n < length lists = let e : length lists ≡ n + 1 = b.has_lists in omega arith in
      let rows : rows_below n (with_row n (place, node) lists) ≡ rows_below n lists =
      rows_below-above n n lists (list_at n lists ++ (place, node) ∷ []) (omega arith) in
      record {
        last_in_range = b.last_in_range;
        tick_in_range = b.tick_in_range;
        serial_in_range = serial;
        has_lists = length-set lists n (list_at n lists ++ (place, node) ∷ []) ∙ b.has_lists;
        pending = rw rows (older_pending node.timer.serial fresh);
        distinct = rw rows b.distinct;
        due = subst (AreDue now node.timer.serial) (sym (get_or-set_same lists n (list_at n lists ++ (place, node) ∷ []) [] here))
            (all-append (λ row. IsDue now node.timer.serial (row_timer row)) (list_at n lists) ((place, node) ∷ [])
            (older node.timer.serial fresh) (record { deadline = due; serial = omega arith }, tt));
        due_in_order = rw (get_or-set_same lists n (list_at n lists ++ (place, node) ∷ []) [] here, timers-append (list_at n lists) ((place, node) ∷ []))
            (AreRising-append 0 node.timer (row_timers (list_at n lists)) b.due_in_order (newest_due node.timer.serial fresh) (omega arith));
      }

  -- its entry comes to the back of what is due
  pushed_due-state : (place : ℕ) (node : Node) → wheel_state n last_tick now node.timer.serial (with_row n (place, node) lists)
      ≡ after_due_start place node.timer (wheel_state n last_tick now last lists)
  pushed_due-state place node =
      let here : n < length lists = let e : length lists ≡ n + 1 = b.has_lists in omega arith in
      rw (
        rows_below-above n n lists (list_at n lists ++ (place, node) ∷ []) (omega arith),
        get_or-set_same lists n (list_at n lists ++ (place, node) ∷ []) [] here,
        entries-append (list_at n lists) ((place, node) ∷ []),
      ) refl

  -- a timer is started at the back of its list
  module _ (list place : ℕ) (node : Node) (range : node.timer.deadline ≤ last_tick) (fresh : last < node.timer.serial)
      (serial : node.timer.serial ≤ LAST) where
    pub pushed_in : IsListOf list n now node.timer.deadline
        → AreBuckets n last_tick now node.timer.serial (with_row list (place, node) lists)
    pushed_in (inl h) = pushed list place node h.0 fresh h.1 range serial
    pushed_in (inr h) = subst (λ (l : ℕ). AreBuckets n last_tick now node.timer.serial (with_row l (place, node) lists)) (sym h.0)
        (pushed_due place node h.1 fresh serial)

    pub pushed_in-state : IsListOf list n now node.timer.deadline
        → wheel_state n last_tick now node.timer.serial (with_row list (place, node) lists)
        ≡ after_held_start place node.timer (wheel_state n last_tick now last lists)
    pushed_in-state (inl h) =
        pushed-state list place node h.0 fresh
        ∙ sym (start_when_later place node.timer (wheel_state n last_tick now last lists) h.1)
    pushed_in-state (inr h) =
        ap (λ (l : ℕ). wheel_state n last_tick now node.timer.serial (with_row l (place, node) lists)) h.0
        ∙ (pushed_due-state place node ∙ sym (start_when_now place node.timer (wheel_state n last_tick now last lists) h.1))

  -- it is one of the lists
  pub in_lists : (list deadline : ℕ) → IsListOf list n now deadline → list < length lists
  in_lists list deadline (inl h) = let k : list < n = h.0 in let e : length lists ≡ n + 1 = b.has_lists in omega arith
  in_lists list deadline (inr h) = let k : list ≡ n = h.0 in let e : length lists ≡ n + 1 = b.has_lists in omega arith

  -- the first of the due timers is removed
  module _ (row : Row) (rest : Rows) (e : list_at n lists ≡ row ∷ rest) where
    less_due : list_at n (slice_set lists n rest) ≡ rest
    less_due = get_or-set_same lists n rest [] (let h : length lists ≡ n + 1 = b.has_lists in omega arith)

    same_rows : rows_below n (slice_set lists n rest) ≡ rows_below n lists
    same_rows = rows_below-above n n lists rest (omega arith)

    taken_due : AreBuckets n last_tick now last (slice_set lists n rest)
    taken_due = record {
      last_in_range = b.last_in_range;
      tick_in_range = b.tick_in_range;
      serial_in_range = b.serial_in_range;
      has_lists = length-set lists n rest ∙ b.has_lists;
      pending = rw same_rows b.pending;
      distinct = rw same_rows b.distinct;
      due = subst (AreDue now last) (sym less_due) (subst (AreDue now last) e b.due).1;
      due_in_order = rw less_due (AreRising-weaken (row_timer row).serial 0 (row_timers rest) (omega arith)
          (subst (λ (y : Rows). AreRising 0 (row_timers y)) e b.due_in_order).1);
    }

    pub expired : wheel_state n last_tick now last (slice_set lists n rest) ≡ after_expiry (wheel_state n last_tick now last lists)
    expired = rw (same_rows, less_due, e) refl

  pub popped : (found : Option Row) (new : KeyedLists) → PopsFront n lists found new → AreBuckets n last_tick now last new
  popped None new p = subst (AreBuckets n last_tick now last) (sym p.1) b
  popped (Some row) new p = subst (AreBuckets n last_tick now last) (sym p.2) (taken_due row p.0 p.1)

  -- the buckets are emptied
  module _ (new : KeyedLists) (e : (s : ℕ) → s < n → list_at s new ≡ []) (d : list_at n new ≡ list_at n lists) where
    pub cleared : length new ≡ n + 1 → AreBuckets n last_tick now last new
    cleared len = record {
      last_in_range = b.last_in_range;
      tick_in_range = b.tick_in_range;
      serial_in_range = b.serial_in_range;
      has_lists = len;
      pending = rw (rows_below-none n new e) tt;
      distinct = rw (rows_below-none n new e) tt;
      due = subst (AreDue now last) (sym d) b.due;
      due_in_order = rw d b.due_in_order;
    }

    pub cleared-state : wheel_state n last_tick now last new ≡ after_clear (wheel_state n last_tick now last lists)
    cleared-state = rw (rows_below-none n new e, d) refl

-- new buckets
pub emptied : (n last_tick now : ℕ) (lists : KeyedLists) → last_tick ≤ LAST → now ≤ last_tick → length lists ≡ n + 1
    → ((s : ℕ) → list_at s lists ≡ []) → AreBuckets n last_tick now 0 lists
emptied n last_tick now lists range first len e = record {
  last_in_range = range;
  tick_in_range = first;
  serial_in_range = omega arith;
  has_lists = len;
  pending = rw (rows_below-none n lists (λ s h. e s)) tt;
  distinct = rw (rows_below-none n lists (λ s h. e s)) tt;
  due = rw (e n) tt;
  due_in_order = rw (e n) tt;
}

-- a row whose deadline is later than now stands in a bucket
pub standing_pending : {n last_tick now last : ℕ} {lists : KeyedLists} → AreBuckets n last_tick now last lists → (l : ℕ)
    (front : Rows) (row : Row) (rest : Rows) → l < length lists → list_at l lists ≡ front ++ row ∷ rest
    → now < (row_timer row).deadline → l < n
standing_pending {n} {last_tick} {now} {last} {lists} b l front row rest h at later = elim (cases_lt l n) [
  | inl k ↦ k
  | inr k ↦
      let len : length lists ≡ n + 1 = b.has_lists in
      let q : l ≡ n = omega arith in
      let d = (all-rest (λ row. IsDue now last (row_timer row)) front (row ∷ rest) (subst (AreDue now last)
      (ap (λ (y : ℕ). list_at y lists) (sym q) ∙ at) b.due)).0 in
      let past : (row_timer row).deadline ≡ now = d.deadline in
      absurd (omega arith)
]
