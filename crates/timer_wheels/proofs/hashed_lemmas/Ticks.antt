-- One tick of a hashed wheel: rounds, the invariant and the state after `swept`.
use Rattle.std.proofs.Common.{◌≡◌, ◌≢◌, ◌<◌, ◌+◌, ◌-◌, ◌*◌, ◌/◌, ◌%◌, ℕ, zero, suc, List, [], ◌∷◌, ◌++◌, length, refl, sym, ◌∙◌, ap, inl, inr, arith, get_or-set_other, Bool, true, false, not, map, filter, slice_set}
use Rattle.std.specs.List.{AllByRecursion}
use Rattle.std.proofs.lemmas.Bool.{cases_eq, cases_lt, eq-eqb, ne_eqb, eqb-true}
use Rattle.std.proofs.lemmas.Bool.Decides.{nat_tests}
use Rattle.std.proofs.Math.Nat.{add-mul-mod_self_left, mod-add-mod}
use Rattle.timer_base.proofs.Basics.{not_due_before, is_due, either}
use Rattle.timer_base.specs.Order.{in_order, AreDistinct, AreRising}
use Rattle.timer_base.proofs.OrderLaws.{filter-in_order, in_order-same, AllAt, All-weaken, All-filter}
use Rattle.timer_base.specs.Pending.{timer_of, is_due_at, entries_due, entries_left}
use Rattle.timer_base.proofs.TickLaws.{left_all}
use Rattle.timer_base.specs.WheelState.{IsPending, after_tick}
use Rattle.timer_wheels.specs.Types.{Timer, Entry, WheelState, list_at, KeyedLists, Row, Rows}
use Rattle.timer_wheels.specs.BucketLaws.{timers_of-entries, wheel_state-well_formed}
use Rattle.timer_wheels.specs.BucketLists.{row_timer, row_timers, entry_of, entries_of, rows_below, pending_in, wheel_state, ArePending, AreInOrder, AreBuckets, EachRow}
use Rattle.timer_wheels.specs.hashed.Hashed.{IsInBucket, AreInBuckets, rounds_of}
use Rattle.timer_wheels.specs.hashed.Sweep.{with_fewer_rounds, has_no_rounds, has_rounds, due_now, due_later, swept}
use Rattle.timer_wheels.proofs.bucket_lemmas.AllLemmas.{all-both, all-map}
use Rattle.timer_wheels.proofs.table_lemmas.DigitLaws.{quotient_is, rest_is}
use Rattle.timer_wheels.proofs.bucket_lemmas.RowLemmas.{all-rows_below, all-list_at, append-nil, entries-append, filter-entries, filter-append}
use Rattle.timer_wheels.proofs.bucket_lemmas.Calls.{filter-pending_in, AreDistinct-part, AreRising-part, due_past}
use Rattle.timer_wheels.proofs.bucket_lemmas.ShownLemmas.{filter-one_list}
use Rattle.timer_wheels.proofs.hashed_lemmas.SweepLemmas.{at_list, at_due as due_list, same_length}

-- Numbers.

-- how far a deadline is after the next tick: in rounds, and the remainder
pub record IsDistance (n now d q r : ℕ) : Type 0 where
  pub is : d ≡ now + 1 + (n * q + r)
  pub over : r < n

pub distance : (n now d : ℕ) → 0 < n → now < d → IsDistance n now d ((d - now - 1) / n) ((d - now - 1) % n)
distance n now d z h = record { is = omega arith; over = omega arith }

-- the slot some steps after that of a tick is another one, unless there are none
pub no_step : (n t r : ℕ) → r < n → (t + r) % n ≡ t % n → r ≡ 0
no_step n t r h e = elim (cases_lt (t % n + r) n) [
  | inl k ↦ omega (arith, rest_is n (t / n) (t % n + r) (t + r) k (omega arith))
  | inr k ↦ omega (arith, rest_is n (t / n + 1) (t % n + r - n) (t + r) (omega arith) (omega arith))
]

pub same_slot : {n now d q r : ℕ} → IsDistance n now d q r → d % n ≡ (now + 1 + r) % n
same_slot {n} {now} {d} {q} {r} h =
    let e : d ≡ (now + 1 + r) + n * q = omega (arith, h.is) in
    ap (λ (y : ℕ). y % n) e ∙ add-mul-mod_self_left (now + 1 + r) n q

-- no round is left
now_due : {n now d q r : ℕ} → IsDistance n now d q r → q ≡ 0 → r ≡ 0 → d ≡ now + 1
now_due {n} {now} {d} {q} {r} h e f = let m : n * q ≡ n * 0 = ap (λ (y : ℕ). n * y) e in omega (arith, h.is)

-- one round fewer is left
round_less : {n now d q r : ℕ} (k : ℕ) → 0 < n → IsDistance n now d q r → r ≡ 0 → q ≡ suc k → (now + 1 < d) × ((d - (now + 1) - 1) / n ≡ k)
round_less {n} {now} {d} {q} {r} k z h e f =
    let m : n * q ≡ n * (suc k) = ap (λ (y : ℕ). n * y) f in
    let i : d ≡ now + 1 + (n * q + r) = h.is in
    (omega arith, quotient_is n k (n - 1) (d - (now + 1) - 1) (omega arith) (omega arith))

-- elsewhere the rounds stay
same_round : {n now d q r : ℕ} (k : ℕ) → IsDistance n now d q r → r ≡ suc k → (now + 1 < d) × ((d - (now + 1) - 1) / n ≡ q)
same_round {n} {now} {d} {q} {r} k h e =
    (omega (arith, h.is), quotient_is n q k (d - (now + 1) - 1) (omega (arith, h.over)) (omega (arith, h.is)))

pred_of : (k : ℕ) → k ≢ 0 → k ≡ suc (k - 1)
pred_of k h = omega arith

-- Rows.

-- a row of the tick's bucket after the tick
record IsSweptRow (n now : ℕ) (row : Row) : Type 0 where
  due : row.1.rounds ≡ 0 → (row_timer row).deadline ≡ now + 1
  later : row.1.rounds ≢ 0 → (now + 1 < (row_timer row).deadline) × (row.1.rounds - 1 ≡ rounds_of n (now + 1) (row_timer row))

at_slot : (n now s : ℕ) (row : Row) → 0 < n → s ≡ (now + 1) % n → now < (row_timer row).deadline → IsInBucket n now s row
    → IsSweptRow n now row
at_slot n now s row z e h b =
    let far = distance n now (row_timer row).deadline z h in
    let none : ((row_timer row).deadline - now - 1) % n ≡ 0 = no_step n (now + 1) _ far.over (sym (same_slot far) ∙ (b.0 ∙ e)) in
    record {
      due = λ k. now_due far (sym b.1 ∙ k) none;
      later = λ k. let f = round_less (row.1.rounds - 1) z far none (sym b.1 ∙ pred_of row.1.rounds k) in (f.0, sym f.1);
    }

-- a row of another bucket after it
off_slot : (n now s : ℕ) (row : Row) → 0 < n → s ≢ (now + 1) % n → now < (row_timer row).deadline → IsInBucket n now s row
    → (now + 1 < (row_timer row).deadline) × IsInBucket n (now + 1) s row
off_slot n now s row z e h b =
    let r : ℕ = ((row_timer row).deadline - now - 1) % n in
    let far = distance n now (row_timer row).deadline z h in
    let some : r ≢ 0 = λ (k : r ≡ 0). e (sym b.0 ∙ (same_slot far ∙ ap (λ (y : ℕ). y % n)
    (let i : now + 1 + r ≡ now + 1 = omega arith in i))) in
    let f = same_round (r - 1) far (pred_of r some) in
    (f.0, (b.0, b.1 ∙ sym f.1))

-- fewer rounds leave the timers as they are
pub entries-fewer : (k : ℕ) (rows : Rows) → entries_of (map (with_fewer_rounds k) rows) ≡ entries_of rows
entries-fewer k [] = refl
entries-fewer k (x ∷ xs) = ap (λ (r : List Entry). entry_of x ∷ r) (entries-fewer k xs)

pub timers-fewer : (k : ℕ) (rows : Rows) → row_timers (map (with_fewer_rounds k) rows) ≡ row_timers rows
timers-fewer k [] = refl
timers-fewer k (x ∷ xs) = ap (λ (r : List Timer). row_timer x ∷ r) (timers-fewer k xs)

-- the rows of a test are those of a test of their entries
entries-test : (p : Row → Bool) (q : Entry → Bool) (rows : Rows) → AllByRecursion (λ row. p row ≡ q (entry_of row)) rows
    → entries_of (filter p rows) ≡ filter q (entries_of rows)
entries-test p q [] a = refl
entries-test p q (x ∷ xs) a = elim (either (q (entry_of x))) [
  | inl k ↦ rw (a.0, k) (ap (λ (r : List Entry). entry_of x ∷ r) (entries-test p q xs a.1))
  | inr k ↦ rw (a.0, k) (entries-test p q xs a.1)
]

-- a row has no rounds exactly if its timer is due
due_with_none : (n now : ℕ) (row : Row) → IsSweptRow n now row → has_no_rounds row ≡ is_due_at (now + 1) (row_timer row)
due_with_none n now row s = elim (cases_eq row.1.rounds 0) [
  | inl e ↦ eq-eqb row.1.rounds 0 e ∙ sym (is_due (now + 1) (row_timer row) (s.due e))
  | inr e ↦ ne_eqb row.1.rounds 0 e ∙ sym (not_due_before (now + 1) (row_timer row) (s.later e).0)
]

has_some : (row : Row) → has_rounds row ≡ true → row.1.rounds ≢ 0
has_some row k = grind (arith, nat_tests)

-- a pending row after the tick
abbrev pub StaysIn : ℕ → ℕ → ℕ → ℕ → ℕ → Row → Type 0
StaysIn n last_tick now last s row = IsPending last_tick now last (row_timer row) × IsInBucket n now s row

still : (last_tick now last : ℕ) (t : Timer) → IsPending last_tick now last t → now + 1 < t.deadline → IsPending last_tick (now + 1) last t
still last_tick now last t p h = record { later = h; in_range = p.in_range; serial = p.serial }

module _ (n now : ℕ) (rows : Rows) (a : AllByRecursion (IsSweptRow n now) rows) where
  -- the rows that stay are those of the timers that are not due
  entries-later : entries_of (due_later rows) ≡ entries_left (now + 1) (entries_of rows)
  entries-later = entries-fewer 1 (filter has_rounds rows)
      ∙ entries-test has_rounds (λ (entry : Entry). not (is_due_at (now + 1) entry.timer)) rows
      (All-weaken (IsSweptRow n now) (λ row. has_rounds row ≡ not (is_due_at (now + 1) (row_timer row))) rows
      (λ row s. ap not (due_with_none n now row s)) a)

  -- and the others those that are
  entries-now : entries_of (due_now rows) ≡ entries_due (now + 1) (entries_of rows)
  entries-now = entries-test has_no_rounds (λ (entry : Entry). is_due_at (now + 1) entry.timer) rows
      (All-weaken (IsSweptRow n now) (λ row. has_no_rounds row ≡ is_due_at (now + 1) (row_timer row)) rows (due_with_none n now) a)

  all-due : AllAt (now + 1) (map timer_of (entries_of (due_now rows)))
  all-due = rw (timers_of-entries (due_now rows)) (all-map row_timer (λ t. t.deadline ≡ now + 1) (due_now rows)
      (All-filter (IsSweptRow n now) (λ row. (row_timer row).deadline ≡ now + 1) has_no_rounds rows
      (λ row k s. s.due (eqb-true row.1.rounds 0 k)) a))

  stays-later : (last_tick last s : ℕ) → AllByRecursion (StaysIn n last_tick now last s) rows
      → AllByRecursion (StaysIn n last_tick (now + 1) last s) (due_later rows)
  stays-later last_tick last s b = all-map (with_fewer_rounds 1) (StaysIn n last_tick (now + 1) last s) (filter has_rounds rows)
      (All-filter (λ row. IsSweptRow n now row × StaysIn n last_tick now last s row)
      (λ row. StaysIn n last_tick (now + 1) last s (with_fewer_rounds 1 row)) has_rounds rows
      (λ row k w. let f = w.0.later (has_some row k) in (still last_tick now last (row_timer row) w.1.0 f.0, (w.1.1.0, f.1)))
      (all-both (IsSweptRow n now) (StaysIn n last_tick now last s) (λ row. IsSweptRow n now row × StaysIn n last_tick now last s row) rows
      (λ row q w. (q, w)) a b))

rising-later : (low : ℕ) (rows : Rows) → AreRising low (row_timers rows) → AreRising low (row_timers (due_later rows))
rising-later low rows r = rw (timers-fewer 1 (filter has_rounds rows)) (AreRising-part has_rounds low rows r)

-- All lists.

-- a function of entries that goes list by list
pub entries_below : (f : List Entry → List Entry) (n : ℕ) (old new : KeyedLists) → f [] ≡ []
    → ((xs ys : List Entry) → f (xs ++ ys) ≡ f xs ++ f ys) → length old ≡ length new
    → ((t : ℕ) → t < n → entries_of (list_at t new) ≡ f (entries_of (list_at t old)))
    → entries_of (rows_below n new) ≡ f (entries_of (rows_below n old))
entries_below f zero old new none over e h = sym none
entries_below f (suc n) [] [] none over e h = sym none
entries_below f (suc n) [] (y ∷ ys) none over e h = absurd (omega arith)
entries_below f (suc n) (x ∷ xs) [] none over e h = absurd (omega arith)
entries_below f (suc n) (x ∷ xs) (y ∷ ys) none over e h =
    rw (entries-append y (rows_below n ys), entries-append x (rows_below n xs), over (entries_of x) (entries_of (rows_below n xs)))
    (rw (h 0 (omega arith), entries_below f n xs ys none over (omega arith) (λ t b. h (suc t) (omega arith))) refl)

all_left : (n last_tick now last s : ℕ) (rows : Rows) → AllByRecursion (StaysIn n last_tick (now + 1) last s) rows
    → entries_left (now + 1) (entries_of rows) ≡ entries_of rows
all_left n last_tick now last s rows a = left_all (now + 1) (entries_of rows) (all-map entry_of (λ entry. now + 1 < entry.timer.deadline) rows
    (All-weaken (StaysIn n last_tick (now + 1) last s) (λ row. now + 1 < (row_timer row).deadline) rows (λ row q. q.0.later) a))

module _ (n last_tick now last : ℕ) (lists : KeyedLists) (f : EachRow (StaysIn n last_tick now last) n lists) where
  pub stays-pending : ArePending last_tick now last (rows_below n lists)
  stays-pending = all-rows_below (λ row. IsPending last_tick now last (row_timer row)) n lists
      (λ t h. All-weaken (StaysIn n last_tick now last t) (λ row. IsPending last_tick now last (row_timer row)) (list_at t lists)
      (λ row q. q.0) (f t h))

  pub stays-in_buckets : AreInBuckets n now lists
  stays-in_buckets t h = All-weaken (StaysIn n last_tick now last t) (IsInBucket n now t) (list_at t lists) (λ row q. q.1) (f t h)

pub stays : (n last_tick now last : ℕ) (lists : KeyedLists) → ArePending last_tick now last (rows_below n lists) → AreInBuckets n now lists
    → EachRow (StaysIn n last_tick now last) n lists
stays n last_tick now last lists p b t h = all-both (λ row. IsPending last_tick now last (row_timer row)) (IsInBucket n now t)
    (StaysIn n last_tick now last t) (list_at t lists) (λ row q r. (q, r))
    (all-list_at (λ row. IsPending last_tick now last (row_timer row)) n lists p t h) (b t h)

module _ {n last_tick now last : ℕ} {lists : KeyedLists} (a : AreBuckets n last_tick now last lists) (z : 0 < n)
    (b : AreInBuckets n now lists) (o : AreInOrder n lists) (none : list_at n lists ≡ []) where
  -- the slot of the tick, its bucket, and the lists after the tick
  abbrev tick_slot : ℕ
  tick_slot = (now + 1) % n

  abbrev bucket : Rows
  bucket = list_at tick_slot lists

  abbrev new : KeyedLists
  new = swept tick_slot n lists

  below : tick_slot < n
  below = omega arith

  in_lists : tick_slot < length lists
  in_lists = omega (arith, below, a.has_lists)

  swept_rows : AllByRecursion (IsSweptRow n now) bucket
  swept_rows = All-weaken (StaysIn n last_tick now last tick_slot) (IsSweptRow n now) bucket
      (λ row q. at_slot n now tick_slot row z refl q.0.later q.1) (stays n last_tick now last lists a.pending b tick_slot below)

  staying_rows : (t : ℕ) → t < n → t ≢ tick_slot → AllByRecursion (StaysIn n last_tick (now + 1) last t) (list_at t lists)
  staying_rows t h e = All-weaken (StaysIn n last_tick now last t) (StaysIn n last_tick (now + 1) last t) (list_at t lists)
      (λ row q. let f = off_slot n now t row z e q.0.later q.1 in (still last_tick now last (row_timer row) q.0 f.0, f.1))
      (stays n last_tick now last lists a.pending b t h)

  length-swept : length new ≡ length lists
  length-swept = same_length tick_slot n lists (omega (arith, below)) in_lists (omega (arith, a.has_lists)) bucket []

  at_this : list_at tick_slot new ≡ due_later bucket
  at_this = at_list tick_slot n lists (omega (arith, below)) in_lists (omega (arith, a.has_lists)) bucket [] ∙ append-nil (due_later bucket)

  at_due : list_at n new ≡ due_now bucket
  at_due = due_list tick_slot n lists (omega (arith, below)) in_lists (omega (arith, a.has_lists)) bucket []
      ∙ ap (λ (y : Rows). y ++ due_now bucket) none

  at_other : (t : ℕ) → t < n → t ≢ tick_slot → list_at t new ≡ list_at t lists
  at_other t h e = get_or-set_other (slice_set lists tick_slot (due_later bucket ++ [])) n t (list_at n lists ++ due_now bucket) [] (omega arith)
      ∙ get_or-set_other lists tick_slot t (due_later bucket ++ []) [] e

  each_after : EachRow (StaysIn n last_tick (now + 1) last) n new
  each_after t h = elim (cases_eq t tick_slot) [
    | inl e ↦ rw (e, at_this) (stays-later n now bucket swept_rows last_tick last tick_slot
        (stays n last_tick now last lists a.pending b tick_slot below))
    | inr x ↦ rw (at_other t h x) (staying_rows t h x)
  ]

  left_in : (t : ℕ) → t < n → entries_of (list_at t new) ≡ entries_left (now + 1) (entries_of (list_at t lists))
  left_in t h = elim (cases_eq t tick_slot) [
    | inl e ↦ rw (e, at_this) (entries-later n now bucket swept_rows)
    | inr x ↦ rw (at_other t h x) (sym (all_left n last_tick now last t (list_at t lists) (staying_rows t h x)))
  ]

  none_other : (t : ℕ) → t < n → t ≢ tick_slot → AllByRecursion (λ row. is_due_at (now + 1) (row_timer row) ≡ false) (list_at t lists)
  none_other t h e = All-weaken (StaysIn n last_tick (now + 1) last t) (λ row. is_due_at (now + 1) (row_timer row) ≡ false)
      (list_at t lists) (λ row q. not_due_before (now + 1) (row_timer row) q.0.later) (staying_rows t h e)

  -- the rows that are left are those of the timers that are not due
  abbrev is_left : Entry → Bool
  is_left entry = not (is_due_at (now + 1) entry.timer)

  rows_left : entries_of (rows_below n new) ≡ entries_left (now + 1) (entries_of (rows_below n lists))
  rows_left = entries_below (filter is_left) n lists new refl (filter-append is_left) (sym length-swept) left_in

  pub ticked-in_buckets : AreInBuckets n (now + 1) new
  ticked-in_buckets = stays-in_buckets n last_tick (now + 1) last new each_after

  rising_bucket : AreRising 0 (row_timers bucket)
  rising_bucket = o tick_slot below

  pub ticked-in_order : AreInOrder n new
  ticked-in_order t h = elim (cases_eq t tick_slot) [
    | inl e ↦ rw (e, at_this) (rising-later 0 bucket rising_bucket)
    | inr y ↦ rw (at_other t h y) (o t h)
  ]

  ticked-distinct : AreDistinct (row_timers (rows_below n new))
  ticked-distinct =
      let left : Rows = filter (λ (row : Row). is_left (entry_of row)) (rows_below n lists) in
      rw (sym (timers_of-entries (rows_below n new)) ∙ (ap (map timer_of) (rows_left ∙ filter-entries is_left (rows_below n lists))
      ∙ timers_of-entries left))
      (AreDistinct-part (λ (row : Row). is_left (entry_of row)) (rows_below n lists) a.distinct)

  -- what became due
  due_rows : entries_due (now + 1) (pending_in (rows_below n lists)) ≡ entries_of (due_now bucket)
  due_rows =
      filter-pending_in (λ (entry : Entry). is_due_at (now + 1) entry.timer) (rows_below n lists)
      ∙ (ap pending_in (filter-one_list (λ (row : Row). is_due_at (now + 1) (row_timer row)) n tick_slot lists below
      in_lists none_other)
      ∙ (ap (in_order timer_of) (sym (filter-entries (λ (entry : Entry). is_due_at (now + 1) entry.timer) bucket)
      ∙ sym (entries-now n now bucket swept_rows))
      ∙ in_order-same timer_of (now + 1) 0 (entries_of (due_now bucket)) (all-due n now bucket swept_rows)
      (rw (timers_of-entries (due_now bucket)) (AreRising-part has_no_rounds 0 bucket rising_bucket))))

  pub ticked : wheel_state n last_tick (now + 1) last new ≡ after_tick (wheel_state n last_tick now last lists)
  ticked = rw (
    ap (in_order timer_of) rows_left ∙ sym (filter-in_order timer_of is_left (entries_of (rows_below n lists))),
    at_due,
    due_rows,
  ) refl

  pub ticked-sound : now < last_tick → AreBuckets n last_tick (now + 1) last new
  ticked-sound before = record {
    last_in_range = a.last_in_range;
    tick_in_range = omega arith;
    serial_in_range = a.serial_in_range;
    has_lists = length-swept ∙ a.has_lists;
    pending = stays-pending n last_tick (now + 1) last new each_after;
    distinct = ticked-distinct;
    due = due_past last_tick now (now + 1) last (pending_in (rows_below n lists)) (list_at n new)
        (wheel_state-well_formed n last_tick now last lists a).each (ap (λ (w : WheelState). w.due) ticked);
    due_in_order = rw at_due (AreRising-part has_no_rounds 0 bucket rising_bucket);
  }

-- Slots.

-- the slot of a deadline, counted from that of the present tick
pub slot_from : (n now d slot bucket : ℕ) → 0 < n → now < d → slot ≡ now % n → bucket ≡ (slot + ((d - now - 1) % n + 1)) % n
    → d % n ≡ bucket
slot_from n now d slot bucket z h e f =
    let r : ℕ = (d - now - 1) % n in
    let sum : now + 1 + r ≡ now + (r + 1) = omega arith in
    same_slot (distance n now d z h) ∙ (ap (λ (y : ℕ). y % n) sum
    ∙ sym (f ∙ (ap (λ (y : ℕ). (y + (r + 1)) % n) e ∙ mod-add-mod now n (r + 1))))

-- the slot of the next tick
pub next_slot : (n now slot next : ℕ) → slot ≡ now % n → next ≡ (slot + 1) % n → next ≡ (now + 1) % n
next_slot n now slot next e f = f ∙ (ap (λ (y : ℕ). (y + 1) % n) e ∙ mod-add-mod now n 1)

-- another name for the number of slots and the tick
pub same_frame : (n now m tick : ℕ) (lists : KeyedLists) → m ≡ n → tick ≡ now → AreInBuckets n now lists → AreInBuckets m tick lists
same_frame n now m tick lists e f a = rw (e, f) a
