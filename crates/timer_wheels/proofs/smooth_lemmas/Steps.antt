-- One step of a smooth wheel's work: the first timer of a next bucket goes to a lower wheel.
use Rattle.std.proofs.Common.{◌≡◌, ◌≢◌, ◌<◌, ◌≤◌, ◌+◌, ◌-◌, ◌*◌, ◌==◌, ℕ, suc, not, nat_lt, true, false, List, [], ◌∷◌, length, refl, sym, ◌∙◌, ap, inl, inr, subst, arith, slice_set, length-set, get_or-set_same, get_or-set_other}
use Rattle.std.specs.List.{AllByRecursion}
use Rattle.std.proofs.lemmas.Bool.{cases_eq, eqb-true}
use Rattle.std.proofs.lemmas.Bool.Decides.{nat_tests}
use Rattle.timer_base.specs.Order.{AreRising}
use Rattle.timer_base.specs.WheelState.{IsPending}
use Rattle.timer_wheels.specs.Types.{LAST, list_at, KeyedLists, Row, Rows}
use Rattle.timer_wheels.specs.BucketLists.{row_timer, row_timers, AreInOrder, AreBuckets, EachRow}
use Rattle.timer_wheels.specs.Digits.{IsTable, radix}
use Rattle.timer_wheels.specs.Occupied.{bit_of, filled}
use Rattle.timer_wheels.specs.smooth.Smooth.{slot_in, smooth_list, is_in_next, descend_by, next_list, moved_to, mark, descend, HasTurns, IsMove, Stands, IsSmooth, IsStep}
use Rattle.timer_wheels.proofs.bucket_lemmas.AllLemmas.{all-map}
use Rattle.timer_wheels.proofs.bucket_lemmas.RowLemmas.{all-list_at}
use Rattle.timer_wheels.proofs.smooth_lemmas.Slots.{slots_mono, slots_near}
use Rattle.timer_wheels.proofs.smooth_lemmas.Descent.{descend_is}
use Rattle.timer_wheels.proofs.smooth_lemmas.Laws.{moved_stands, descend_below}
use Rattle.timer_wheels.proofs.smooth_lemmas.Lists.{IsAhead, one_wheel, one_slot, same_rest_of, radix_above, ahead_within}
use Rattle.timer_wheels.proofs.smooth_lemmas.Moves.{moved_sound, moved_in_order, moved_state, mid_in_order}
use Rattle.timer_wheels.proofs.smooth_lemmas.Places.{AreLeft, weaker, places_left, places_with_row, front_gone}

-- a bucket of timers that were started before one with this serial has not moved on up to it, and an empty one has
pub bit_is_mark : (serial : ℕ) (rows : Rows) → serial ≤ LAST → 0 < serial → AllByRecursion (λ u. (row_timer u).serial < serial) rows
    → (filled rows == 0) ≡ not (nat_lt (moved_to rows) serial)
bit_is_mark serial [] h z a = let b : nat_lt LAST serial ≡ false = grind (arith, nat_tests) in rw b refl
bit_is_mark serial (x ∷ xs) h z a =
    let l : (row_timer x).serial < serial = a.0 in
    let b : nat_lt ((row_timer x).serial - 1) serial ≡ true = less ((row_timer x).serial - 1) serial (omega arith) in
    rw b refl
  where
    less : (x y : ℕ) → x < y → nat_lt x y ≡ true
    less x y h = grind (arith, nat_tests)

module _ (table : List ℕ) (n last_tick now last k : ℕ) (lists : KeyedLists) (row : Row) (rest : Rows) (i : IsTable table)
    (turns : HasTurns table) (b : AreBuckets n last_tick now last lists) (o : AreInOrder n lists)
    (placed : EachRow (IsSmooth table now (mark table now lists)) n lists) (wheel : suc k < length table)
    (in_range : (j s : ℕ) → j < length table → smooth_list table j s < n)
    (at : list_at (next_list table now (suc k)) lists ≡ row ∷ rest) where
  -- the new wheel and list
  abbrev on : ℕ
  on = descend table now (mark table now (slice_set lists (next_list table now (suc k)) rest)) (row_timer row).deadline (row_timer row).serial k

  abbrev to : ℕ
  to = smooth_list table on (slot_in table on (row_timer row).deadline)

  from_in : next_list table now (suc k) < n
  from_in = in_range (suc k) (slot_in table (suc k) now + 1) wheel

  from_exists : next_list table now (suc k) < length lists
  from_exists = omega (arith, from_in, b.has_lists)

  first : IsSmooth table now (mark table now lists) (next_list table now (suc k)) row
  first = (subst (AllByRecursion (IsSmooth table now (mark table now lists) (next_list table now (suc k)))) at
      (placed (next_list table now (suc k)) from_in)).0

  pending : IsPending last_tick now last (row_timer row)
  pending = (subst (AllByRecursion (λ r. IsPending last_tick now last (row_timer r))) at
      (all-list_at (λ r. IsPending last_tick now last (row_timer r)) n lists b.pending (next_list table now (suc k)) from_in)).0

  serial_in_range : (row_timer row).serial ≤ LAST
  serial_in_range = omega (arith, pending.serial, b.serial_in_range)

  rising : AreRising 0 (row_timers (row ∷ rest))
  rising = subst (λ (r : Rows). AreRising 0 (row_timers r)) at (o (next_list table now (suc k)) from_in)

  -- it stands on the wheel whose next bucket this is
  on_wheel : first.on ≡ suc k
  on_wheel = one_wheel table first.on (suc k) (slot_in table first.on (row_timer row).deadline) (slot_in table (suc k) now + 1) i turns
      first.stands.wheel wheel (sym first.stands.at_list)

  there : Stands table now (mark table now lists) (next_list table now (suc k)) (suc k) (row_timer row)
  there = subst (λ (x : ℕ). Stands table now (mark table now lists) (next_list table now (suc k)) x (row_timer row)) on_wheel first.stands

  in_next : slot_in table (suc k) (row_timer row).deadline ≡ slot_in table (suc k) now + 1
  in_next = same_rest_of (2 * radix (suc k) table) (slot_in table (suc k) now) (slot_in table (suc k) (row_timer row).deadline)
      (slot_in table (suc k) now + 1) (omega (arith, radix_above table (suc k) i)) there.ahead (omega arith)
      (ahead_within table now (suc k) (row_timer row).deadline i (record { wheel = wheel; ahead = there.ahead; near = there.near }))
      (omega (arith, radix_above table (suc k) i)) (omega (arith, there.at_list))

  -- its mark rises, and no other changes
  mid_from : list_at (next_list table now (suc k)) (slice_set lists (next_list table now (suc k)) rest) ≡ rest
  mid_from = get_or-set_same lists (next_list table now (suc k)) rest [] from_exists

  gone : (moved_to (row ∷ rest) ≤ moved_to rest) × ((row_timer row).serial ≤ moved_to rest)
  gone = front_gone row rest serial_in_range rising

  rise : (j : ℕ) → 0 < j → j < length table
      → mark table now lists j ≤ mark table now (slice_set lists (next_list table now (suc k)) rest) j
  rise j z h = elim (cases_eq (next_list table now j) (next_list table now (suc k))) [
    | inl e ↦
        let old : mark table now lists j ≡ moved_to (row ∷ rest) = ap (λ (x : ℕ). moved_to (list_at x lists)) e ∙ ap moved_to at in
        let new : mark table now (slice_set lists (next_list table now (suc k)) rest) j ≡ moved_to rest =
        ap (λ (x : ℕ). moved_to (list_at x (slice_set lists (next_list table now (suc k)) rest))) e ∙ ap moved_to mid_from in
        omega (arith, gone.0)
    | inr x ↦
        let same : mark table now (slice_set lists (next_list table now (suc k)) rest) j ≡ mark table now lists j =
        ap moved_to (get_or-set_other lists (next_list table now (suc k)) (next_list table now j) rest [] x) in
        omega arith
  ]

  mark_gone : (row_timer row).serial ≤ mark table now (slice_set lists (next_list table now (suc k)) rest) (suc k)
  mark_gone =
      let e : mark table now (slice_set lists (next_list table now (suc k)) rest) (suc k) ≡ moved_to rest = ap moved_to mid_from in
      omega (arith, gone.1)

  -- where it goes by the law
  goes : Stands table now (mark table now (slice_set lists (next_list table now (suc k)) rest)) to on (row_timer row)
  goes = moved_stands table now (mark table now lists) (mark table now (slice_set lists (next_list table now (suc k)) rest))
      (next_list table now (suc k)) k (row_timer row) i rise in_next mark_gone there

  lower : on ≤ k
  lower = descend_below table now (mark table now (slice_set lists (next_list table now (suc k)) rest)) k (row_timer row)

  to_in : to < n
  to_in = in_range on (slot_in table on (row_timer row).deadline) goes.wheel

  elsewhere : to ≢ next_list table now (suc k)
  elsewhere e =
      let w : on ≡ suc k = one_wheel table on (suc k) (slot_in table on (row_timer row).deadline) (slot_in table (suc k) now + 1) i turns
      goes.wheel wheel e in
      absurd (omega (arith, lower))

  -- a timer in its slot of a wheel below was started before
  pub earlier_there : (j s : ℕ) → j ≤ k → IsAhead table now j (row_timer row).deadline
      → s ≡ smooth_list table j (slot_in table j (row_timer row).deadline) → (u : Row)
      → IsSmooth table now (mark table now lists) s u → (row_timer u).serial < (row_timer row).serial
  earlier_there j s h ahead at_list u p =
      let w : p.on ≡ j = one_wheel table p.on j (slot_in table p.on (row_timer u).deadline) (slot_in table j (row_timer row).deadline) i turns
      p.stands.wheel ahead.wheel (sym p.stands.at_list ∙ at_list) in
      let st : Stands table now (mark table now lists) s j (row_timer u) =
      subst (λ (x : ℕ). Stands table now (mark table now lists) s x (row_timer u)) w p.stands in
      let e : slot_in table j (row_timer u).deadline ≡ slot_in table j (row_timer row).deadline =
      one_slot table now j (row_timer u).deadline (row_timer row).deadline i
      (record { wheel = st.wheel; ahead = st.ahead; near = st.near }) ahead (sym st.at_list ∙ at_list) in
      let m1 = slots_mono table j (suc k) (row_timer row).deadline (row_timer u).deadline i (omega arith) (omega arith) in
      let m2 = slots_mono table j (suc k) (row_timer u).deadline (row_timer row).deadline i (omega arith) (omega arith) in
      let f : slot_in table (suc k) (row_timer u).deadline ≡ slot_in table (suc k) now + 1 = omega (arith, in_next) in
      let q : (row_timer u).serial ≤ mark table now lists (suc k) = st.passed (suc k) (omega arith) wheel f in
      let m : mark table now lists (suc k) ≡ (row_timer row).serial - 1 = ap moved_to at in
      let z : 0 < (row_timer row).serial = rising.0 in
      omega arith

  -- where it goes, by the bits of the lists
  by_bits : (words : List ℕ) → ((s : ℕ) → s < n → bit_of words s ≡ filled (list_at s lists)) → (j : ℕ) → 0 < j → j ≤ k
      → is_in_next table now j (row_timer row).deadline ≡ true
      → (bit_of words (next_list table now j) == 0)
      ≡ not (nat_lt (mark table now (slice_set lists (next_list table now (suc k)) rest) j) (row_timer row).serial)
  by_bits words marked j z h e =
      let slot : slot_in table j (row_timer row).deadline ≡ slot_in table j now + 1 =
      eqb-true (slot_in table j (row_timer row).deadline) (slot_in table j now + 1) e in
      let there_in : next_list table now j < n = in_range j (slot_in table j now + 1) (omega arith) in
      let ahead : IsAhead table now j (row_timer row).deadline = record {
        wheel = omega arith;
        ahead = omega arith;
        near = slots_near table j (suc j) now (row_timer row).deadline i (omega arith) (omega arith);
      } in
      let apart : next_list table now j ≢ next_list table now (suc k) = λ (y : next_list table now j ≡ next_list table now (suc k)).
      let w : j ≡ suc k = one_wheel table j (suc k) (slot_in table j now + 1) (slot_in table (suc k) now + 1) i turns (omega arith) wheel y in
      omega arith in
      let same : list_at (next_list table now j) (slice_set lists (next_list table now (suc k)) rest) ≡ list_at (next_list table now j) lists =
      get_or-set_other lists (next_list table now (suc k)) (next_list table now j) rest [] apart in
      let law : AllByRecursion (λ u. (row_timer u).serial < (row_timer row).serial) (list_at (next_list table now j) lists) =
      weaker (IsSmooth table now (mark table now lists) (next_list table now j)) (λ u. (row_timer u).serial < (row_timer row).serial)
      (list_at (next_list table now j) lists)
      (earlier_there j (next_list table now j) h ahead (sym (ap (smooth_list table j) slot))) (placed (next_list table now j) there_in) in
      ap (λ (x : ℕ). x == 0) (marked (next_list table now j) there_in)
      ∙ (bit_is_mark (row_timer row).serial (list_at (next_list table now j) lists) serial_in_range rising.0 law
      ∙ ap (λ (r : Rows). not (nat_lt (moved_to r) (row_timer row).serial)) (sym same))

  pub on_by_bits : (words : List ℕ) → ((s : ℕ) → s < n → bit_of words s ≡ filled (list_at s lists))
      → descend_by table now words (row_timer row).deadline k ≡ on
  on_by_bits words marked = descend_is table now words (mark table now (slice_set lists (next_list table now (suc k)) rest))
      (row_timer row).deadline (row_timer row).serial k (by_bits words marked)

  -- those that are there were started before
  before : (u : Row) → IsSmooth table now (mark table now lists) to u → (row_timer u).serial < (row_timer row).serial
  before u p =
      let w : p.on ≡ on = one_wheel table p.on on (slot_in table p.on (row_timer u).deadline) (slot_in table on (row_timer row).deadline) i turns
      p.stands.wheel goes.wheel (sym p.stands.at_list) in
      let s : Stands table now (mark table now lists) to on (row_timer u) =
      subst (λ (x : ℕ). Stands table now (mark table now lists) to x (row_timer u)) w p.stands in
      let e : slot_in table on (row_timer u).deadline ≡ slot_in table on (row_timer row).deadline =
      one_slot table now on (row_timer u).deadline (row_timer row).deadline i
      (record { wheel = s.wheel; ahead = s.ahead; near = s.near }) (record { wheel = goes.wheel; ahead = goes.ahead; near = goes.near })
      (sym s.at_list) in
      let m1 = slots_mono table on (suc k) (row_timer row).deadline (row_timer u).deadline i (omega (arith, lower)) (omega arith) in
      let m2 = slots_mono table on (suc k) (row_timer u).deadline (row_timer row).deadline i (omega (arith, lower)) (omega arith) in
      let f : slot_in table (suc k) (row_timer u).deadline ≡ slot_in table (suc k) now + 1 = omega (arith, in_next) in
      let q : (row_timer u).serial ≤ mark table now lists (suc k) = s.passed (suc k) (omega (arith, lower)) wheel f in
      let m : mark table now lists (suc k) ≡ (row_timer row).serial - 1 = ap moved_to at in
      let z : 0 < (row_timer row).serial = rising.0 in
      omega arith

  move : IsMove n lists (next_list table now (suc k)) to row rest
  move = record {
    from_in = from_in;
    to_in = to_in;
    elsewhere = elsewhere;
    at = at;
    last_there = all-map row_timer (λ t. t.serial < (row_timer row).serial) (list_at to lists)
        (weaker (IsSmooth table now (mark table now lists) to) (λ u. (row_timer u).serial < (row_timer row).serial) (list_at to lists) before
        (placed to to_in));
  }

  left : AreLeft n lists (slice_set lists (next_list table now (suc k)) rest)
  left s r P h = elim (cases_eq s (next_list table now (suc k))) [
    | inl e ↦
        let old : AllByRecursion P (row ∷ rest) = subst (AllByRecursion P) (ap (λ (x : ℕ). list_at x lists) e ∙ at) h in
        subst (AllByRecursion P) (sym (ap (λ (x : ℕ). list_at x (slice_set lists (next_list table now (suc k)) rest)) e ∙ mid_from)) old.1
    | inr x ↦ subst (AllByRecursion P) (sym (get_or-set_other lists (next_list table now (suc k)) s rest [] x)) h
  ]

  mid_placed : EachRow (IsSmooth table now (mark table now (slice_set lists (next_list table now (suc k)) rest))) n
      (slice_set lists (next_list table now (suc k)) rest)
  mid_placed = places_left table now n lists (slice_set lists (next_list table now (suc k)) rest) left rise
      (mid_in_order b o move) placed

  pub step : IsStep table n last_tick now last k lists row rest
  step = record {
    on = on;
    lower = lower;
    wheel = goes.wheel;
    in_next = in_next;
    ahead = goes.ahead;
    near = goes.near;
    by_bits = on_by_bits;
    move = move;
    sound = moved_sound b o move;
    in_order = moved_in_order b o move;
    state = moved_state b o move;
    placed = places_with_row table now n to on (slice_set lists (next_list table now (suc k)) rest) row i turns
        (omega (arith, to_in, b.has_lists, length-set lists (next_list table now (suc k)) rest)) serial_in_range goes first.no_rounds
        (moved_in_order b o move) mid_placed;
  }
