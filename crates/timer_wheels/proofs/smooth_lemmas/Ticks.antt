-- One tick of a smooth wheel, after its moves: the timers of the tick become due, and the others stay where they are.
use Rattle.std.proofs.Common.{◌≡◌, ◌≢◌, ◌<◌, ◌+◌, ◌*◌, ℕ, zero, suc, List, [], ◌∷◌, ◌++◌, length, refl, sym, ◌∙◌, ap, inl, inr, subst, arith, slice_set, length-set, get_or-set_same, get_or-set_other, filter, not, Bool, true, false}
use Rattle.std.specs.List.{AllByRecursion}
use Rattle.std.proofs.lemmas.Bool.{cases_eq, eq-eqb, ne_eqb}
use Rattle.std.proofs.lemmas.List.Elements.{filter-append}
use Rattle.timer_base.specs.Order.{AreDistinct, AreRising}
use Rattle.timer_base.proofs.OrderLaws.{map-in_order, in_order-same}
use Rattle.timer_base.specs.Pending.{Entry, timer_of, is_due_at, entries_due, entries_left}
use Rattle.timer_base.specs.WheelState.{IsPending, IsDue, after_tick}
use Rattle.timer_links.specs.Lists.{list_at, appended, KeyedLists, Row, Rows}
use Rattle.timer_wheels.specs.BucketLists.{row_timer, row_timers, entry_of, entries_of, rows_below, pending_in, AreInOrder, AreBuckets, EachRow, wheel_state}
use Rattle.timer_wheels.specs.Digits.{IsTable, radix}
use Rattle.timer_wheels.specs.smooth.Smooth.{slot_in, smooth_list, next_list, moved_to, mark, HasTurns, Stands, IsSmooth, AreTickedLists}
use Rattle.timer_wheels.proofs.bucket_lemmas.AllLemmas.{all-both, all-map, filter_none, filter_each}
use Rattle.timer_wheels.proofs.bucket_lemmas.RowLemmas.{all-front, all-rest, all-rows_below, all-list_at, IsAround, around, append-nil, rows_below-above}
use Rattle.timer_wheels.proofs.bucket_lemmas.Calls.{filter-pending_in, AreDistinct-part}
use Rattle.timer_wheels.proofs.smooth_lemmas.Slots.{slot_low, slots_step}
use Rattle.timer_wheels.proofs.smooth_lemmas.Laws.{ticked_stands}
use Rattle.timer_wheels.proofs.smooth_lemmas.Lists.{one_wheel, same_rest_of, radix_above, ahead_within}
use Rattle.timer_wheels.proofs.smooth_lemmas.Places.{weaker, front_kept}

module _ (table : List ℕ) (n last_tick a last : ℕ) (lists : KeyedLists) (i : IsTable table) (turns : HasTurns table)
    (some : 0 < length table) (b : AreBuckets n last_tick a last lists) (o : AreInOrder n lists)
    (placed : EachRow (IsSmooth table a (mark table a lists)) n lists) (before_last : a < last_tick) (none_due : list_at n lists ≡ [])
    (in_range : (j s : ℕ) → j < length table → smooth_list table j s < n)
    (empty : (k : ℕ) → 0 < k → k < length table → slot_in table k (a + 1) ≡ slot_in table k a + 1
    → list_at (next_list table a k) lists ≡ []) where
  l_in : smooth_list table zero (a + 1) < n
  l_in = in_range zero (a + 1) some

  l_exists : smooth_list table zero (a + 1) < length lists
  l_exists = omega (arith, l_in, b.has_lists)

  l_not_n : n ≢ smooth_list table zero (a + 1)
  l_not_n e = absurd (omega (arith, l_in))

  mid_length : length (slice_set lists (smooth_list table zero (a + 1)) []) ≡ length lists
  mid_length = length-set lists (smooth_list table zero (a + 1)) []

  -- the lists afterwards
  pub new_l : list_at (smooth_list table zero (a + 1)) (appended (smooth_list table zero (a + 1)) n lists) ≡ []
  new_l = get_or-set_other (slice_set lists (smooth_list table zero (a + 1)) []) n (smooth_list table zero (a + 1))
      (list_at n lists ++ list_at (smooth_list table zero (a + 1)) lists) [] (λ e. l_not_n (sym e))
      ∙ get_or-set_same lists (smooth_list table zero (a + 1)) [] [] l_exists

  new_n : list_at n (appended (smooth_list table zero (a + 1)) n lists) ≡ list_at (smooth_list table zero (a + 1)) lists
  new_n = get_or-set_same (slice_set lists (smooth_list table zero (a + 1)) []) n
      (list_at n lists ++ list_at (smooth_list table zero (a + 1)) lists) [] (omega (arith, b.has_lists, mid_length))
      ∙ ap (λ (r : Rows). r ++ list_at (smooth_list table zero (a + 1)) lists) none_due

  pub new_others : (s : ℕ) → s ≢ smooth_list table zero (a + 1) → s ≢ n
      → list_at s (appended (smooth_list table zero (a + 1)) n lists) ≡ list_at s lists
  new_others s x y = get_or-set_other (slice_set lists (smooth_list table zero (a + 1)) []) n s
      (list_at n lists ++ list_at (smooth_list table zero (a + 1)) lists) [] y
      ∙ get_or-set_other lists (smooth_list table zero (a + 1)) s [] [] x

  pending_rows : (s : ℕ) → s < n → AllByRecursion (λ row. IsPending last_tick a last (row_timer row)) (list_at s lists)
  pending_rows = all-list_at (λ row. IsPending last_tick a last (row_timer row)) n lists b.pending

  -- those of the tick's list are due
  due_row : (row : Row) → IsSmooth table a (mark table a lists) (smooth_list table zero (a + 1)) row → (row_timer row).deadline ≡ a + 1
  due_row row p =
      let w : p.on ≡ zero = one_wheel table p.on zero (slot_in table p.on (row_timer row).deadline) (a + 1) i turns p.stands.wheel some
      (sym p.stands.at_list) in
      let st : Stands table a (mark table a lists) (smooth_list table zero (a + 1)) zero (row_timer row) =
      subst (λ (x : ℕ). Stands table a (mark table a lists) (smooth_list table zero (a + 1)) x (row_timer row)) w p.stands in
      let q : slot_in table zero (row_timer row).deadline ≡ a + 1 = same_rest_of (2 * radix zero table) (slot_in table zero a)
      (slot_in table zero (row_timer row).deadline) (a + 1) (omega (arith, radix_above table zero i)) st.ahead (omega (arith, slot_low table a))
      (ahead_within table a zero (row_timer row).deadline i (record { wheel = some; ahead = st.ahead; near = st.near }))
      (omega (arith, slot_low table a, radix_above table zero i)) (omega (arith, st.at_list)) in
      omega (arith, slot_low table (row_timer row).deadline)

  due_rows : AllByRecursion (λ row. (row_timer row).deadline ≡ a + 1) (list_at (smooth_list table zero (a + 1)) lists)
  due_rows = weaker (IsSmooth table a (mark table a lists) (smooth_list table zero (a + 1))) (λ row. (row_timer row).deadline ≡ a + 1)
      (list_at (smooth_list table zero (a + 1)) lists) due_row (placed (smooth_list table zero (a + 1)) l_in)

  -- a row of another list: its bucket does not begin to be the present one
  record Other (s : ℕ) (row : Row) : Type 0 where
    not_due : (row_timer row).deadline ≢ a + 1
    stays : (k : ℕ) → 0 < k → k < length table → s ≡ smooth_list table k (slot_in table k (row_timer row).deadline)
        → slot_in table k (row_timer row).deadline ≡ slot_in table k a + 1 → slot_in table k (a + 1) ≡ slot_in table k a

  not_empty : (s : ℕ) (x : Row) (xs : Rows) → list_at s lists ≡ x ∷ xs → list_at s lists ≡ [] → ⊥
  not_empty s x xs e z = let q : suc (length xs) ≡ 0 = ap (λ (r : Rows). length r) (sym e ∙ z) in omega arith

  other_row : (s : ℕ) → s ≢ smooth_list table zero (a + 1) → (x : Row) (xs : Rows) → list_at s lists ≡ x ∷ xs → (row : Row)
      → IsSmooth table a (mark table a lists) s row → Other s row
  other_row s apart x xs e row p = record {
    not_due = λ (d : (row_timer row).deadline ≡ a + 1). not_now p.on d p.stands;
    stays = stays;
  } where
    stays : (k : ℕ) → 0 < k → k < length table → s ≡ smooth_list table k (slot_in table k (row_timer row).deadline)
        → slot_in table k (row_timer row).deadline ≡ slot_in table k a + 1 → slot_in table k (a + 1) ≡ slot_in table k a
    stays k z w at q = elim (slots_step table k a i) [
      | inl h ↦ h
      | inr h ↦ absurd (not_empty s x xs e (ap (λ (y : ℕ). list_at y lists) (at ∙ ap (smooth_list table k) q) ∙ empty k z w h))
    ]

    not_now : (k : ℕ) → (row_timer row).deadline ≡ a + 1 → Stands table a (mark table a lists) s k (row_timer row) → ⊥
    not_now zero d st = apart (st.at_list ∙ ap (smooth_list table zero) (slot_low table (row_timer row).deadline ∙ d))
    not_now (suc k) d st =
        let f : slot_in table (suc k) (row_timer row).deadline ≡ slot_in table (suc k) (a + 1) = ap (slot_in table (suc k)) d in
        elim (slots_step table (suc k) a i) [
          | inl h ↦ omega (arith, st.ahead)
          | inr h ↦ absurd (omega (arith, stays (suc k) (omega arith) st.wheel st.at_list (f ∙ h)))
        ]

  other_by : (s : ℕ) → s ≢ smooth_list table zero (a + 1) → (rows : Rows) → list_at s lists ≡ rows
      → AllByRecursion (IsSmooth table a (mark table a lists) s) rows → AllByRecursion (Other s) rows
  other_by s apart [] e h = tt
  other_by s apart (x ∷ xs) e h = weaker (IsSmooth table a (mark table a lists) s) (Other s) (x ∷ xs) (other_row s apart x xs e) h

  other_rows : (s : ℕ) → s < n → s ≢ smooth_list table zero (a + 1) → AllByRecursion (Other s) (list_at s lists)
  other_rows s h apart = other_by s apart (list_at s lists) refl (placed s h)

  -- each row that stays is pending after the tick
  pending_next : (s : ℕ) (row : Row) → Other s row → IsPending last_tick a last (row_timer row) → IsPending last_tick (a + 1) last (row_timer row)
  pending_next s row o p = let d = o.not_due in record { later = omega (arith, p.later); in_range = p.in_range; serial = p.serial }

  pending_new : (s : ℕ) → s < n → AllByRecursion (λ row. IsPending last_tick (a + 1) last (row_timer row))
      (list_at s (appended (smooth_list table zero (a + 1)) n lists))
  pending_new s h = elim (cases_eq s (smooth_list table zero (a + 1))) [
    | inl e ↦ subst (AllByRecursion (λ row. IsPending last_tick (a + 1) last (row_timer row)))
        (sym (ap (λ (x : ℕ). list_at x (appended (smooth_list table zero (a + 1)) n lists)) e ∙ new_l)) tt
    | inr x ↦ subst (AllByRecursion (λ row. IsPending last_tick (a + 1) last (row_timer row)))
        (sym (new_others s x (λ (e : s ≡ n). omega arith)))
        (all-both (Other s) (λ row. IsPending last_tick a last (row_timer row)) (λ row. IsPending last_tick (a + 1) last (row_timer row))
        (list_at s lists) (pending_next s) (other_rows s h x) (pending_rows s h))
  ]

  -- The rows that stay, and those that are due, by a test.

  a_round : IsAround n (smooth_list table zero (a + 1)) lists
  a_round = around n (smooth_list table zero (a + 1)) lists l_in l_exists

  rows_new : rows_below n (appended (smooth_list table zero (a + 1)) n lists) ≡ a_round.front ++ a_round.rest
  rows_new = rows_below-above n n (slice_set lists (smooth_list table zero (a + 1)) [])
      (list_at n lists ++ list_at (smooth_list table zero (a + 1)) lists) (omega arith) ∙ a_round.with_rows []

  abbrev due : Row → Bool
  due row = is_due_at (a + 1) (row_timer row)

  later_not_due : (row : Row) → IsPending last_tick (a + 1) last (row_timer row) → is_due_at (a + 1) (row_timer row) ≡ false
  later_not_due row p = ne_eqb (row_timer row).deadline (a + 1) (λ e. omega (arith, p.later))

  staying : AllByRecursion (λ row. is_due_at (a + 1) (row_timer row) ≡ false) (a_round.front ++ a_round.rest)
  staying = subst (AllByRecursion (λ row. is_due_at (a + 1) (row_timer row) ≡ false)) rows_new
      (weaker (λ row. IsPending last_tick (a + 1) last (row_timer row)) (λ row. is_due_at (a + 1) (row_timer row) ≡ false)
      (rows_below n (appended (smooth_list table zero (a + 1)) n lists)) later_not_due
      (all-rows_below (λ row. IsPending last_tick (a + 1) last (row_timer row)) n (appended (smooth_list table zero (a + 1)) n lists) pending_new))

  leaving : AllByRecursion (λ row. is_due_at (a + 1) (row_timer row) ≡ true) (list_at (smooth_list table zero (a + 1)) lists)
  leaving = weaker (λ row. (row_timer row).deadline ≡ a + 1) (λ row. is_due_at (a + 1) (row_timer row) ≡ true)
      (list_at (smooth_list table zero (a + 1)) lists) (λ row e. eq-eqb (row_timer row).deadline (a + 1) e) due_rows

  parts : (p : Row → Bool) → filter p (rows_below n lists)
      ≡ filter p a_round.front ++ (filter p (list_at (smooth_list table zero (a + 1)) lists) ++ filter p a_round.rest)
  parts p = ap (filter p) a_round.rows ∙ (filter-append p a_round.front (list_at (smooth_list table zero (a + 1)) lists ++ a_round.rest)
      ∙ ap (λ (r : Rows). filter p a_round.front ++ r) (filter-append p (list_at (smooth_list table zero (a + 1)) lists) a_round.rest))

  not_true : (row : Row) → is_due_at (a + 1) (row_timer row) ≡ false → not (is_due_at (a + 1) (row_timer row)) ≡ true
  not_true row e = rw e refl

  not_false : (row : Row) → is_due_at (a + 1) (row_timer row) ≡ true → not (is_due_at (a + 1) (row_timer row)) ≡ false
  not_false row e = rw e refl

  left_is : filter (λ row. not (is_due_at (a + 1) (row_timer row))) (rows_below n lists)
      ≡ rows_below n (appended (smooth_list table zero (a + 1)) n lists)
  left_is =
      let front = all-front (λ row. is_due_at (a + 1) (row_timer row) ≡ false) a_round.front a_round.rest staying in
      let rest = all-rest (λ row. is_due_at (a + 1) (row_timer row) ≡ false) a_round.front a_round.rest staying in
      rw (
        parts (λ row. not (is_due_at (a + 1) (row_timer row))),
        filter_each (λ row. not (is_due_at (a + 1) (row_timer row))) a_round.front
            (weaker (λ row. is_due_at (a + 1) (row_timer row) ≡ false) (λ row. not (is_due_at (a + 1) (row_timer row)) ≡ true) a_round.front not_true front),
        filter_none (λ row. not (is_due_at (a + 1) (row_timer row))) (list_at (smooth_list table zero (a + 1)) lists)
            (weaker (λ row. is_due_at (a + 1) (row_timer row) ≡ true) (λ row. not (is_due_at (a + 1) (row_timer row)) ≡ false)
            (list_at (smooth_list table zero (a + 1)) lists) not_false leaving),
        filter_each (λ row. not (is_due_at (a + 1) (row_timer row))) a_round.rest
            (weaker (λ row. is_due_at (a + 1) (row_timer row) ≡ false) (λ row. not (is_due_at (a + 1) (row_timer row)) ≡ true) a_round.rest not_true rest),
      ) (sym rows_new)

  due_is : filter (λ row. is_due_at (a + 1) (row_timer row)) (rows_below n lists) ≡ list_at (smooth_list table zero (a + 1)) lists
  due_is =
      let front = all-front (λ row. is_due_at (a + 1) (row_timer row) ≡ false) a_round.front a_round.rest staying in
      let rest = all-rest (λ row. is_due_at (a + 1) (row_timer row) ≡ false) a_round.front a_round.rest staying in
      rw (
        parts (λ row. is_due_at (a + 1) (row_timer row)),
        filter_none (λ row. is_due_at (a + 1) (row_timer row)) a_round.front front,
        filter_each (λ row. is_due_at (a + 1) (row_timer row)) (list_at (smooth_list table zero (a + 1)) lists) leaving,
        filter_none (λ row. is_due_at (a + 1) (row_timer row)) a_round.rest rest,
      ) (append-nil (list_at (smooth_list table zero (a + 1)) lists))

  rising_l : AreRising 0 (row_timers (list_at (smooth_list table zero (a + 1)) lists))
  rising_l = o (smooth_list table zero (a + 1)) l_in

  due_pending : pending_in (list_at (smooth_list table zero (a + 1)) lists) ≡ entries_of (list_at (smooth_list table zero (a + 1)) lists)
  due_pending =
      sym (map-in_order row_timer timer_of entry_of (λ x. refl) (list_at (smooth_list table zero (a + 1)) lists))
      ∙ ap entries_of (in_order-same row_timer (a + 1) 0 (list_at (smooth_list table zero (a + 1)) lists)
      (all-map row_timer (λ t. t.deadline ≡ a + 1) (list_at (smooth_list table zero (a + 1)) lists) due_rows) rising_l)

  ticked_state : wheel_state n last_tick (a + 1) last (appended (smooth_list table zero (a + 1)) n lists)
      ≡ after_tick (wheel_state n last_tick a last lists)
  ticked_state =
      let pend : pending_in (rows_below n (appended (smooth_list table zero (a + 1)) n lists)) ≡ entries_left (a + 1) (pending_in (rows_below n lists)) =
      sym (filter-pending_in (λ (e : Entry). not (is_due_at (a + 1) e.timer)) (rows_below n lists) ∙ ap pending_in left_is) in
      let out : entries_of (list_at n (appended (smooth_list table zero (a + 1)) n lists)) ≡ entries_due (a + 1) (pending_in (rows_below n lists)) =
      ap entries_of new_n ∙ (sym due_pending ∙ sym (filter-pending_in (λ (e : Entry). is_due_at (a + 1) e.timer) (rows_below n lists)
      ∙ ap pending_in due_is)) in
      rw (pend, out) refl

  new_in_order : AreInOrder n (appended (smooth_list table zero (a + 1)) n lists)
  new_in_order s h = elim (cases_eq s (smooth_list table zero (a + 1))) [
    | inl e ↦ subst (λ (r : Rows). AreRising 0 (row_timers r))
        (sym (ap (λ (x : ℕ). list_at x (appended (smooth_list table zero (a + 1)) n lists)) e ∙ new_l)) tt
    | inr x ↦ subst (λ (r : Rows). AreRising 0 (row_timers r)) (sym (new_others s x (λ (e : s ≡ n). omega arith))) (o s h)
  ]

  ticked_sound : AreBuckets n last_tick (a + 1) last (appended (smooth_list table zero (a + 1)) n lists)
  ticked_sound = record {
    last_in_range = b.last_in_range;
    tick_in_range = omega (arith, before_last);
    serial_in_range = b.serial_in_range;
    has_lists = length-set (slice_set lists (smooth_list table zero (a + 1)) []) n
        (list_at n lists ++ list_at (smooth_list table zero (a + 1)) lists) ∙ (mid_length ∙ b.has_lists);
    pending = all-rows_below (λ row. IsPending last_tick (a + 1) last (row_timer row)) n (appended (smooth_list table zero (a + 1)) n lists) pending_new;
    distinct = subst (λ (r : Rows). AreDistinct (row_timers r)) left_is
        (AreDistinct-part (λ row. not (is_due_at (a + 1) (row_timer row))) (rows_below n lists) b.distinct);
    due = subst (AllByRecursion (λ row. IsDue (a + 1) last (row_timer row))) (sym new_n)
        (all-both (λ row. (row_timer row).deadline ≡ a + 1) (λ row. IsPending last_tick a last (row_timer row))
        (λ row. IsDue (a + 1) last (row_timer row)) (list_at (smooth_list table zero (a + 1)) lists)
        (λ row e p. record { deadline = e; serial = p.serial }) due_rows (pending_rows (smooth_list table zero (a + 1)) l_in));
    due_in_order = subst (λ (r : Rows). AreRising 0 (row_timers r)) (sym new_n) rising_l;
  }

  -- The places.

  -- a next bucket that stays the next one keeps its rows
  pub next_same : (j : ℕ) → 0 < j → j < length table → slot_in table j (a + 1) ≡ slot_in table j a
      → list_at (next_list table (a + 1) j) (appended (smooth_list table zero (a + 1)) n lists) ≡ list_at (next_list table a j) lists
  next_same j z h e =
      let q : next_list table (a + 1) j ≡ next_list table a j = ap (λ (x : ℕ). smooth_list table j (x + 1)) e in
      ap (λ (x : ℕ). list_at x (appended (smooth_list table zero (a + 1)) n lists)) q
      ∙ new_others (next_list table a j)
      (λ (y : next_list table a j ≡ smooth_list table zero (a + 1)).
      let w : j ≡ zero = one_wheel table j zero (slot_in table j a + 1) (a + 1) i turns h some y in omega arith)
      (λ (y : next_list table a j ≡ n). let r = in_range j (slot_in table j a + 1) h in omega arith)

  marks_same : (j : ℕ) → 0 < j → j < length table → slot_in table j (a + 1) ≡ slot_in table j a
      → mark table (a + 1) (appended (smooth_list table zero (a + 1)) n lists) j ≡ mark table a lists j
  marks_same j z h e = ap moved_to (next_same j z h e)

  record Known (s : ℕ) (row : Row) : Type 0 where
    placed_before : IsSmooth table a (mark table a lists) s row
    other : Other s row

  known : (s : ℕ) (row : Row) → IsSmooth table a (mark table a lists) s row → Other s row → Known s row
  known s row p o = record { placed_before = p; other = o }

  placed_next : (s : ℕ) (row : Row) → Known s row → moved_to (list_at s (appended (smooth_list table zero (a + 1)) n lists)) < (row_timer row).serial
      → IsSmooth table (a + 1) (mark table (a + 1) (appended (smooth_list table zero (a + 1)) n lists)) s row
  placed_next s row h front =
      let p = h.placed_before in
      record {
        on = p.on;
        stands = ticked_stands table a (mark table a lists) (mark table (a + 1) (appended (smooth_list table zero (a + 1)) n lists)) s p.on
            (row_timer row) i h.other.not_due marks_same (λ z e. h.other.stays p.on z p.stands.wheel p.stands.at_list e)
            (λ z e. subst (λ (x : ℕ). moved_to (list_at x (appended (smooth_list table zero (a + 1)) n lists)) < (row_timer row).serial)
            (p.stands.at_list ∙ ap (smooth_list table p.on) e) front) p.stands;
        no_rounds = p.no_rounds;
      }

  ticked_placed : EachRow (IsSmooth table (a + 1) (mark table (a + 1) (appended (smooth_list table zero (a + 1)) n lists))) n
      (appended (smooth_list table zero (a + 1)) n lists)
  ticked_placed s h = elim (cases_eq s (smooth_list table zero (a + 1))) [
    | inl e ↦ subst (AllByRecursion (IsSmooth table (a + 1) (mark table (a + 1) (appended (smooth_list table zero (a + 1)) n lists)) s))
        (sym (ap (λ (x : ℕ). list_at x (appended (smooth_list table zero (a + 1)) n lists)) e ∙ new_l)) tt
    | inr x ↦
        let q : list_at s (appended (smooth_list table zero (a + 1)) n lists) ≡ list_at s lists = new_others s x (λ (e : s ≡ n). omega arith) in
        all-both (Known s) (λ row. moved_to (list_at s (appended (smooth_list table zero (a + 1)) n lists)) < (row_timer row).serial)
        (IsSmooth table (a + 1) (mark table (a + 1) (appended (smooth_list table zero (a + 1)) n lists)) s)
        (list_at s (appended (smooth_list table zero (a + 1)) n lists)) (placed_next s)
        (subst (AllByRecursion (Known s)) (sym q)
        (all-both (IsSmooth table a (mark table a lists) s) (Other s) (Known s) (list_at s lists) (known s) (placed s h) (other_rows s h x)))
        (front_kept (list_at s (appended (smooth_list table zero (a + 1)) n lists)) (new_in_order s h))
  ]

  pub ticked : AreTickedLists table n last_tick a last lists (appended (smooth_list table zero (a + 1)) n lists)
  ticked = record { sound = ticked_sound; in_order = new_in_order; state = ticked_state; placed = ticked_placed }
