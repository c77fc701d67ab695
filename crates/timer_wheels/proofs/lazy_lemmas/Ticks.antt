-- One tick of a lazy hierarchy of wheels: the invariant and the state after its bucket is emptied.
use Rattle.std.proofs.Common.{◌≡◌, ◌≢◌, ◌<◌, ◌≤◌, ◌+◌, ℕ, zero, suc, ◌==◌, ◌⊎◌, List, [], ◌∷◌, ◌++◌, length, refl, sym, ◌∙◌, ap, subst, inl, inr, arith, length-set, get_or-set_same, get_or-set_other, Bool, true, false, filter, not, map, slice_set}
use Rattle.std.specs.List.{AllByRecursion}
use Rattle.std.specs.List.Sorted.{IsPermutation}
use Rattle.std.proofs.lemmas.Bool.{cases_eq, cases_lt, eq-eqb, ne_eqb, eqb-true}
use Rattle.std.proofs.lemmas.List.Elements.{filter-append, All-from_recursion, recursion_from_All}
use Rattle.std.proofs.lemmas.List.Sorted.{All-permutation}
use Rattle.timer_base.proofs.Basics.{is_not_due, is_due, not_due_before, either}
use Rattle.timer_base.proofs.OneOrder.{ordered_is_in_order, AreDistinct-permuted}
use Rattle.timer_base.specs.Order.{AreRising, IsNotAmong, IsOrdered, in_order}
use Rattle.timer_base.proofs.OrderLaws.{map-in_order, in_order-same, All-filter, All-weaken, filter_same, IsOrdered-in_order}
use Rattle.timer_base.specs.Pending.{timer_of, is_due_at, entries_due, entries_left}
use Rattle.timer_base.specs.WheelState.{IsPending, after_tick}
use Rattle.timer_wheels.specs.Types.{list_at, KeyedLists, Row, Rows}
use Rattle.timer_wheels.specs.Digits.{IsTable, HasDigits, slots, last_of, bucket, emptied, BucketAtTick}
use Rattle.timer_wheels.specs.lazy.Filed.{IsFiled}
use Rattle.timer_wheels.specs.lazy.Filing.{EmptiesBucket}
use Rattle.timer_wheels.specs.hier.Leap.{list_visit}
use Rattle.timer_wheels.specs.lazy.Merges.{AreSorted, serial_of}
use Rattle.timer_wheels.proofs.table_lemmas.DigitLaws.{bucket_at_tick, digits_down, emptied_in_range}
use Rattle.timer_wheels.proofs.bucket_lemmas.AllLemmas.{all-both, all-map, filter_none, filter_rest}
use Rattle.timer_wheels.specs.BucketLaws.{wheel_state-well_formed}
use Rattle.timer_wheels.specs.BucketLists.{row_timer, row_timers, entry_of, entries_of, rows_below, pending_in, ArePending, AreBuckets, EachRow, wheel_state}
use Rattle.timer_wheels.specs.hier.Migration.{target, migrated, due_rows, left_rows, MayMigrate}
use Rattle.timer_wheels.proofs.lazy_lemmas.FiledLemmas.{is_filed, ahead_in_range, ahead_until, visited_later, goes_elsewhere}
use Rattle.timer_wheels.proofs.bucket_lemmas.RowLemmas.{all-append, all-front, all-rest, all-rows_below, all-list_at, IsAround, around, append-nil, rows_below-fewer, rows_below-same}
use Rattle.timer_wheels.proofs.bucket_lemmas.Calls.{filter-pending_in, AreDistinct-part, due_past}
use Rattle.timer_wheels.proofs.hier_lemmas.MigrationLemmas.{target_due, target_left, migrate_rows-length, to_list, list_at-migrate_rows, Distinct, in_order-pulled, distinct-pulled, GoesDown, AreMigrated, migrate_rows_keeps}

-- the invariant of a lazy hierarchy before a tick, of whose n lists the first are its buckets
pub record IsBefore (table : List ℕ) (n last_tick a last_serial : ℕ) (lists : KeyedLists) : Type 0 where
  pub is_table : IsTable table
  pub digits : HasDigits table last_tick
  pub before_last : a < last_tick
  pub more : slots table < n
  pub sound : AreBuckets n last_tick a last_serial lists
  pub filed : EachRow (IsFiled table a) n lists
  pub none_due : list_at n lists ≡ []

-- a lazy hierarchy after the tick
pub record IsNext (table : List ℕ) (n last_tick a last_serial : ℕ) (lists new : KeyedLists) : Type 0 where
  pub sound : AreBuckets n last_tick (a + 1) last_serial new
  pub filed : EachRow (IsFiled table (a + 1)) n new
  pub ticked : wheel_state n last_tick (a + 1) last_serial new ≡ after_tick (wheel_state n last_tick a last_serial lists)

-- the invariant of each row of a bucket before the tick
record KnownRow (table : List ℕ) (last_tick a last_serial s : ℕ) (row : Row) : Type 0 where
  filed : IsFiled table a s row
  pending : IsPending last_tick a last_serial (row_timer row)
  digits : HasDigits table (row_timer row).deadline

-- Where the rows of the emptied list go.

-- a row of the list that is emptied becomes due
record BecomesDue (table : List ℕ) (a : ℕ) (row : Row) : Type 0 where
  deadline : (row_timer row).deadline ≡ a + 1
  due : is_due_at (a + 1) (row_timer row) ≡ true
  to : target table (a + 1) row ≡ slots table

-- or it is filed anew
record IsRefiled (table : List ℕ) (a : ℕ) (row : Row) : Type 0 where
  later : a + 1 < (row_timer row).deadline
  not_due : is_due_at (a + 1) (row_timer row) ≡ false
  to : target table (a + 1) row ≡ bucket table (a + 1) (row_timer row).deadline
  in_range : bucket table (a + 1) (row_timer row).deadline < slots table
  elsewhere : bucket table (a + 1) (row_timer row).deadline ≢ emptied table (a + 1)

abbrev RowLeaves : List ℕ → ℕ → Row → Type 0
RowLeaves table a row = BecomesDue table a row ⊎ IsRefiled table a row

row_leaves : (table : List ℕ) (last_tick a last_serial s : ℕ) (row : Row) → IsTable table → HasDigits table (a + 1)
    → KnownRow table last_tick a last_serial s row → RowLeaves table a row
row_leaves table last_tick a last_serial s row i digits h = elim (cases_eq (row_timer row).deadline (a + 1)) [
  | inl e ↦
      let due = is_due (a + 1) (row_timer row) e in
      inl (record { deadline = e; due = due; to = target_due table (a + 1) row due })
  | inr n ↦
      let first : a < (row_timer row).deadline = h.pending.later in
      let later : a + 1 < (row_timer row).deadline = omega arith in
      let left = is_not_due (a + 1) (row_timer row) n in
      let b : BucketAtTick table (a + 1) (row_timer row).deadline =
      bucket_at_tick table (a + 1) (row_timer row).deadline i h.digits later in
      inr (record {
        later = later;
        not_due = left;
        to = target_left table (a + 1) row left;
        in_range = b.in_range;
        elsewhere = goes_elsewhere table (a + 1) (row_timer row).deadline i digits h.digits (λ e. omega arith) later;
      })
]

-- the due rows are those that move to the last list
last_test : (table : List ℕ) (a : ℕ) (row : Row) → RowLeaves table a row
    → (target table (a + 1) row == slots table) ≡ is_due_at (a + 1) (row_timer row)
last_test table a row (inl d) = eq-eqb (target table (a + 1) row) (slots table) d.to ∙ sym d.due
last_test table a row (inr g) = ne_eqb (target table (a + 1) row) (slots table) (λ e. omega (arith, g.to, g.in_range)) ∙ sym g.not_due

all_due_at : (tick : ℕ) (xs : Rows) → AllByRecursion (λ row. (row_timer row).deadline ≡ tick) (due_rows tick xs)
all_due_at tick [] = tt
all_due_at tick (x ∷ xs) = elim (either (is_due_at tick (row_timer x))) [
  | inl k ↦ rw k (eqb-true (row_timer x).deadline tick k, all_due_at tick xs)
  | inr k ↦ rw k (all_due_at tick xs)
]

pending_in-rows : (rows : Rows) → pending_in rows ≡ entries_of (in_order row_timer rows)
pending_in-rows rows = sym (map-in_order row_timer timer_of entry_of (λ x. refl) rows)

-- rows of one deadline, whose serials rise, are the rows of which they are a permutation, in order
sorted_due : (tick : ℕ) (xs ys : Rows) → AllByRecursion (λ row. (row_timer row).deadline ≡ tick) xs → Distinct xs
    → IsPermutation xs ys → AreRising 0 (row_timers ys) → ys ≡ in_order row_timer xs
sorted_due tick xs ys a d p r =
    let all : AllByRecursion (λ row. (row_timer row).deadline ≡ tick) ys =
    recursion_from_All (λ row. (row_timer row).deadline ≡ tick) ys (All-permutation (λ row. (row_timer row).deadline ≡ tick) xs ys p
    (All-from_recursion (λ row. (row_timer row).deadline ≡ tick) xs a)) in
    let same : in_order row_timer ys ≡ ys = in_order-same row_timer tick 0 ys (all-map row_timer (λ t. t.deadline ≡ tick) ys all) r in
    ordered_is_in_order row_timer xs ys p d (subst (λ (z : Rows). IsOrdered (map row_timer z)) same (IsOrdered-in_order row_timer ys))

-- rows in order of their serials, which are distinct, rise
rising : (low : ℕ) (rows : Rows) → AreSorted low rows → IsNotAmong low (row_timers rows) → Distinct rows → AreRising low (row_timers rows)
rising low [] s n d = tt
rising low (r ∷ rs) s n d = (
  (let x : low ≤ serial_of r = s.0 in let y : serial_of r ≢ low = n.0 in omega arith),
  rising (serial_of r) rs s.1 d.0 d.1,
)

-- there is no row past the last list
none_past_end : (lists : KeyedLists) (s : ℕ) → length lists ≤ s → list_at s lists ≡ []
none_past_end [] s h = refl
none_past_end (x ∷ xs) zero h = absurd (omega arith)
none_past_end (x ∷ xs) (suc s) h = none_past_end xs s (omega arith)

pub no_row : (P : Row → Type 0) (rows : Rows) → ((row : Row) → P row → ⊥) → AllByRecursion P rows → rows ≡ []
no_row P [] f a = refl
no_row P (r ∷ rs) f a = absurd (f r a.0)

-- The tick.

module _ {table : List ℕ} {n last_tick a last_serial : ℕ} {lists : KeyedLists} (b : IsBefore table n last_tick a last_serial lists) where
  -- the list that is emptied, and its rows
  abbrev l : ℕ
  l = emptied table (a + 1)

  abbrev rows_l : Rows
  rows_l = list_at (emptied table (a + 1)) lists

  abbrev base : KeyedLists
  base = slice_set lists (emptied table (a + 1)) []

  abbrev after : KeyedLists
  after = migrated table (a + 1) (emptied table (a + 1)) lists

  -- the rows of the buckets before and after the tick
  abbrev rows : Rows
  rows = rows_below (slots table) lists

  abbrev new_rows : Rows
  new_rows = rows_below (slots table) (migrated table (a + 1) (emptied table (a + 1)) lists)

  abbrev Pending : Row → Type 0
  Pending row = IsPending last_tick a last_serial (row_timer row)

  abbrev Known : ℕ → Row → Type 0
  Known s row = KnownRow table last_tick a last_serial s row

  tick_digits : HasDigits table (a + 1)
  tick_digits = digits_down table (a + 1) last_tick b.is_table (omega (arith, b.before_last)) b.digits

  l_in_range : l < slots table
  l_in_range = emptied_in_range table (a + 1) b.is_table tick_digits (λ e. omega arith)

  l_in_lists : l < length lists
  l_in_lists = omega (arith, l_in_range, b.sound.has_lists, b.more)

  known_row : (s : ℕ) (row : Row) → IsFiled table a s row → Pending row → Known s row
  known_row s row p q = record {
    filed = p;
    pending = q;
    digits = digits_down table (row_timer row).deadline last_tick b.is_table q.in_range b.digits;
  }

  known_rows : (s : ℕ) → s < n → AllByRecursion (Known s) (list_at s lists)
  known_rows s h = all-both (IsFiled table a s) Pending (Known s) (list_at s lists) (known_row s) (b.filed s h)
      (all-list_at Pending n lists b.sound.pending s h)

  in_buckets : (s : ℕ) → s < slots table → s < n
  in_buckets s h = omega (arith, b.more)

  visit_digits : (s : ℕ) (row : Row) → Known s row → HasDigits table (list_visit table s a)
  visit_digits s row k = digits_down table (list_visit table s a) (row_timer row).deadline b.is_table k.filed.in_time k.digits

  -- no timer stands in a list between the buckets and what is due
  spare_none : (s : ℕ) → slots table ≤ s → s < n → list_at s lists ≡ []
  spare_none s h k = no_row (Known s) (list_at s lists)
      (λ row q. (let r : s < slots table = ahead_in_range table a s b.is_table (visit_digits s row q) q.filed.ahead in omega arith))
      (known_rows s k)

  bucket_rows : rows_below n lists ≡ rows_below (slots table) lists
  bucket_rows = rows_below-fewer (slots table) n lists (omega (arith, b.more)) spare_none

  distinct_rows : Distinct (rows_below (slots table) lists)
  distinct_rows = subst Distinct bucket_rows b.sound.distinct

  leaves : (row : Row) → Known l row → RowLeaves table a row
  leaves row h = row_leaves table last_tick a last_serial l row b.is_table tick_digits h

  -- a fact of each row that leaves
  all_leaving : (P : Row → Type 0) → ((row : Row) → RowLeaves table a row → P row) → AllByRecursion P rows_l
  all_leaving P f = All-weaken (Known l) P rows_l (λ row h. f row (leaves row h)) (known_rows l (in_buckets l l_in_range))

  list_at-base : (s : ℕ) → s ≢ l → list_at s base ≡ list_at s lists
  list_at-base s n = get_or-set_other lists l s [] [] n

  list_at-l : list_at l base ≡ []
  list_at-l = get_or-set_same lists l [] [] l_in_lists

  -- what holds of the other lists holds of all once the list is emptied
  each_base : (P : ℕ → Rows → Type 0) → P l [] → ((s : ℕ) → s ≢ l → P s (list_at s lists)) → (s : ℕ) → P s (list_at s base)
  each_base P here others s = elim (cases_eq s l) [
    | inl e ↦ subst (λ (v : ℕ). P v (list_at v base)) (sym e) (subst (P l) (sym list_at-l) here)
    | inr n ↦ subst (P s) (sym (list_at-base s n)) (others s n)
  ]

  base-length : length base ≡ n + 1
  base-length = length-set lists l [] ∙ b.sound.has_lists

  after-length : length after ≡ n + 1
  after-length = migrate_rows-length table (a + 1) rows_l base ∙ base-length

  list_at-after : (s : ℕ) → s < n + 1 → list_at s after ≡ list_at s base ++ to_list table (a + 1) s rows_l
  list_at-after s h = list_at-migrate_rows table (a + 1) s rows_l base (omega (arith, base-length))

  due_list : list_at (slots table) after ≡ due_rows (a + 1) rows_l
  due_list = list_at-after (slots table) (omega (arith, b.more))
      ∙ (ap (λ (r : Rows). r ++ to_list table (a + 1) (slots table) rows_l)
      (list_at-base (slots table) (λ e. omega (arith, l_in_range)) ∙ spare_none (slots table) (omega arith) b.more)
      ∙ filter_same (λ row. target table (a + 1) row == slots table) (λ row. is_due_at (a + 1) (row_timer row)) rows_l
      (all_leaving (λ row. (target table (a + 1) row == slots table) ≡ is_due_at (a + 1) (row_timer row))
      (λ row. last_test table a row)))

  -- Each row stands where it belongs.

  abbrev Fits : ℕ → Row → Type 0
  Fits s row = IsFiled table (a + 1) s row × IsPending last_tick (a + 1) last_serial (row_timer row)

  later : (row : Row) → Pending row → a + 1 < (row_timer row).deadline → IsPending last_tick (a + 1) last_serial (row_timer row)
  later row p n = record { later = n; in_range = p.in_range; serial = p.serial }

  fits_staying : (s : ℕ) → s ≢ l → (row : Row) → Known s row → Fits s row
  fits_staying s n row h =
      let i = visit_digits s row h in
      let not_after : list_visit table s a ≤ (row_timer row).deadline = h.filed.in_time in
      let w : a + 1 < list_visit table s a = visited_later table a s b.is_table i h.filed.ahead n in
      let k = ahead_until table a s b.is_table i h.filed.ahead (a + 1) (omega arith) w in
      let v : list_visit table s (a + 1) ≤ list_visit table s a = k.1 in (
        record { ahead = k.0; in_time = omega arith; no_rounds = h.filed.no_rounds; numbered = h.filed.numbered },
        later row h.pending (omega arith),
      )

  fits_going : (s : ℕ) → s < slots table → (row : Row) → (target table (a + 1) row == s) ≡ true → Known l row → Fits s row
  fits_going s h row e k =
      let f : target table (a + 1) row ≡ s = eqb-true (target table (a + 1) row) s e in
      elim (leaves row k) [
        | inl d ↦ absurd (omega (arith, d.to))
        | inr g ↦ (
          is_filed table (a + 1) s row b.is_table k.digits g.later (sym g.to ∙ f) k.filed.no_rounds k.filed.numbered,
          later row k.pending g.later,
        )
      ]

  base_fits : (s : ℕ) → s < slots table → AllByRecursion (Fits s) (list_at s base)
  base_fits = each_base (λ s rows. s < slots table → AllByRecursion (Fits s) rows) (λ h. tt)
      (λ s n h. All-weaken (Known s) (Fits s) (list_at s lists) (fits_staying s n) (known_rows s (in_buckets s h)))

  after_fits : (s : ℕ) → s < slots table → AllByRecursion (Fits s) (list_at s after)
  after_fits s h =
      subst (AllByRecursion (Fits s)) (sym (list_at-after s (omega (arith, b.more))))
      (all-append (Fits s) (list_at s base) (to_list table (a + 1) s rows_l) (base_fits s h)
      (All-filter (Known l) (Fits s) (λ row. target table (a + 1) row == s) rows_l (fits_going s h) (known_rows l (in_buckets l l_in_range))))

  after-filed : EachRow (IsFiled table (a + 1)) (slots table) after
  after-filed s h = All-weaken (Fits s) (IsFiled table (a + 1) s) (list_at s after) (λ row f. f.0) (after_fits s h)

  after-pending : ArePending last_tick (a + 1) last_serial new_rows
  after-pending = all-rows_below (λ row. IsPending last_tick (a + 1) last_serial (row_timer row)) (slots table) after
      (λ s h. All-weaken (Fits s) (λ row. IsPending last_tick (a + 1) last_serial (row_timer row)) (list_at s after) (λ row f. f.1)
      (after_fits s h))

  -- The pending timers, and the due ones.

  around_l : IsAround (slots table) l lists
  around_l = around (slots table) l lists l_in_range l_in_lists

  base_rows : rows_below (slots table) base ≡ around_l.front ++ around_l.rest
  base_rows = around_l.with_rows []

  -- what holds of each row of the other lists holds before and behind the list
  all_around : (P : Row → Type 0) → ((s : ℕ) → s < slots table → AllByRecursion P (list_at s base))
      → AllByRecursion P around_l.front × AllByRecursion P around_l.rest
  all_around P f =
      let both : AllByRecursion P (around_l.front ++ around_l.rest) =
      subst (AllByRecursion P) base_rows (all-rows_below P (slots table) base f) in
      (all-front P around_l.front around_l.rest both, all-rest P around_l.front around_l.rest both)

  abbrev NotDue : Row → Type 0
  NotDue row = is_due_at (a + 1) (row_timer row) ≡ false

  not_due : AllByRecursion NotDue around_l.front × AllByRecursion NotDue around_l.rest
  not_due = all_around NotDue (λ s h. All-weaken (Fits s) NotDue (list_at s base)
      (λ row f. not_due_before (a + 1) (row_timer row) f.1.later) (base_fits s h))

  distinct_around : Distinct (around_l.front ++ (rows_l ++ around_l.rest))
  distinct_around = subst Distinct around_l.rows distinct_rows

  goes_down : (row : Row) → RowLeaves table a row → GoesDown table (a + 1) row
  goes_down row (inl d) f = absurd (let due = d.due in cc)
  goes_down row (inr g) f = g.in_range

  keeps : AreMigrated table (a + 1) rows_l base
  keeps = migrate_rows_keeps table (a + 1) rows_l base (omega (arith, base-length, b.more)) (all_leaving (GoesDown table (a + 1)) goes_down)
      (subst (λ (rows : Rows). Distinct (rows_l ++ rows)) (sym base_rows)
      (distinct-pulled around_l.front rows_l around_l.rest distinct_around))

  parts : (p : Row → Bool) → filter p rows ≡ filter p around_l.front ++ (filter p rows_l ++ filter p around_l.rest)
  parts p = ap (filter p) around_l.rows ∙ (filter-append p around_l.front (rows_l ++ around_l.rest)
      ∙ ap (λ (r : Rows). filter p around_l.front ++ r) (filter-append p rows_l around_l.rest))

  left_parts : left_rows (a + 1) rows ≡ around_l.front ++ (left_rows (a + 1) rows_l ++ around_l.rest)
  left_parts = rw (
    parts (λ row. not (is_due_at (a + 1) (row_timer row))),
    filter_rest (λ row. is_due_at (a + 1) (row_timer row)) around_l.front not_due.0,
    filter_rest (λ row. is_due_at (a + 1) (row_timer row)) around_l.rest not_due.1,
  ) refl

  due_parts : due_rows (a + 1) rows ≡ due_rows (a + 1) rows_l
  due_parts = rw (
    parts (λ row. is_due_at (a + 1) (row_timer row)),
    filter_none (λ row. is_due_at (a + 1) (row_timer row)) around_l.front not_due.0,
    filter_none (λ row. is_due_at (a + 1) (row_timer row)) around_l.rest not_due.1,
  ) (append-nil (due_rows (a + 1) rows_l))

  left_ordered : in_order row_timer new_rows ≡ in_order row_timer (left_rows (a + 1) rows)
  left_ordered =
      keeps.pending
      ∙ (ap (λ (r : Rows). in_order row_timer (left_rows (a + 1) rows_l ++ r)) base_rows
      ∙ (sym (in_order-pulled around_l.front (left_rows (a + 1) rows_l) around_l.rest
      (subst Distinct left_parts (AreDistinct-part (λ row. not (is_due_at (a + 1) (row_timer row))) rows distinct_rows)))
      ∙ ap (in_order row_timer) (sym left_parts)))

  after-left : pending_in new_rows ≡ entries_left (a + 1) (pending_in rows)
  after-left =
      pending_in-rows new_rows
      ∙ (ap entries_of left_ordered
      ∙ (sym (pending_in-rows (left_rows (a + 1) rows))
      ∙ sym (filter-pending_in (λ entry. not (is_due_at (a + 1) entry.timer)) rows)))

  due_distinct : Distinct (due_rows (a + 1) rows_l)
  due_distinct = subst Distinct due_parts (AreDistinct-part (λ row. is_due_at (a + 1) (row_timer row)) rows distinct_rows)

  abbrev IsNumbered : Row → Type 0
  IsNumbered row = serial_of row ≢ 0

  due_numbered : AllByRecursion IsNumbered (due_rows (a + 1) rows_l)
  due_numbered = All-filter (Known l) IsNumbered (λ row. is_due_at (a + 1) (row_timer row)) rows_l
      (λ row e k. (let z : 0 < serial_of row = k.filed.numbered in omega arith)) (known_rows l (in_buckets l l_in_range))

  goes_to_no_spare : (s : ℕ) → slots table < s → (row : Row) → RowLeaves table a row → (target table (a + 1) row == s) ≡ false
  goes_to_no_spare s h row (inl d) = ne_eqb (target table (a + 1) row) s (λ e. omega (arith, d.to))
  goes_to_no_spare s h row (inr g) = ne_eqb (target table (a + 1) row) s (λ e. omega (arith, g.to, g.in_range))

  after_spare : (s : ℕ) → slots table < s → s < n → list_at s after ≡ []
  after_spare s h k =
      list_at-after s (omega arith)
      ∙ (ap (λ (r : Rows). r ++ to_list table (a + 1) s rows_l)
      (list_at-base s (λ e. omega (arith, l_in_range)) ∙ spare_none s (omega arith) k)
      ∙ filter_none (λ row. target table (a + 1) row == s) rows_l
      (all_leaving (λ row. (target table (a + 1) row == s) ≡ false) (goes_to_no_spare s h)))

  module _ (new : KeyedLists) (e : EmptiesBucket table n (a + 1) (emptied table (a + 1)) lists new) where
    abbrev due : Rows
    due = list_at n new

    new_other : (s : ℕ) → s < slots table → list_at s new ≡ list_at s after
    new_other s h = e.others s (λ q. omega arith) (λ q. omega (arith, b.more))

    new_spare : (s : ℕ) → slots table ≤ s → s < n → list_at s new ≡ []
    new_spare s h k = elim (cases_eq s (slots table)) [
      | inl q ↦ ap (λ (x : ℕ). list_at x new) q ∙ e.none_left
      | inr x ↦ e.others s x (λ q. omega arith) ∙ after_spare s (omega arith) k
    ]

    new_length : length new ≡ n + 1
    new_length = e.same_length ∙ b.sound.has_lists

    new_buckets : rows_below n new ≡ new_rows
    new_buckets = rows_below-fewer (slots table) n new (omega (arith, b.more)) new_spare
        ∙ rows_below-same (slots table) after new (omega (arith, after-length, b.more)) (omega (arith, new_length, b.more)) new_other

    permuted : IsPermutation (due_rows (a + 1) rows_l) due
    permuted = subst (λ (z : Rows). IsPermutation z due) due_list e.gathered

    new_numbered : AllByRecursion IsNumbered due
    new_numbered = recursion_from_All IsNumbered due (All-permutation IsNumbered (due_rows (a + 1) rows_l) due permuted
        (All-from_recursion IsNumbered (due_rows (a + 1) rows_l) due_numbered))

    new_rising : AreRising 0 (row_timers due)
    new_rising = rising 0 due e.sorted (all-map row_timer (λ t. t.serial ≢ 0) due new_numbered)
        (AreDistinct-permuted row_timer (due_rows (a + 1) rows_l) due permuted due_distinct)

    due_is : due ≡ in_order row_timer (due_rows (a + 1) rows_l)
    due_is = sorted_due (a + 1) (due_rows (a + 1) rows_l) due (all_due_at (a + 1) rows_l) due_distinct permuted new_rising

    new-due : entries_of (list_at n new) ≡ entries_due (a + 1) (pending_in rows)
    new-due =
        ap entries_of (due_is ∙ ap (in_order row_timer) (sym due_parts))
        ∙ (sym (pending_in-rows (due_rows (a + 1) rows)) ∙ sym (filter-pending_in (λ entry. is_due_at (a + 1) entry.timer) rows))

    new_filed : EachRow (IsFiled table (a + 1)) n new
    new_filed s h = elim (cases_lt s (slots table)) [
      | inl k ↦ subst (AllByRecursion (IsFiled table (a + 1) s)) (sym (new_other s k)) (after-filed s k)
      | inr k ↦ subst (AllByRecursion (IsFiled table (a + 1) s)) (sym (new_spare s k h)) tt
    ]

    pub next_here : IsNext table n last_tick a last_serial lists new
    next_here = record {
      sound = record {
        last_in_range = b.sound.last_in_range;
        tick_in_range = omega (arith, b.before_last);
        serial_in_range = b.sound.serial_in_range;
        has_lists = new_length;
        pending = rw new_buckets after-pending;
        distinct = rw new_buckets keeps.distinct;
        due = due_past last_tick a (a + 1) last_serial (pending_in (rows_below n lists)) (list_at n new)
            (wheel_state-well_formed n last_tick a last_serial lists b.sound).each
            (new-due ∙ ap (λ (r : Rows). entries_due (a + 1) (pending_in r)) (sym bucket_rows));
        due_in_order = new_rising;
      };
      filed = new_filed;
      ticked = rw (new_buckets, after-left, new-due, bucket_rows) refl;
    }

  -- The preconditions of the emptying.

  elsewhere : (row : Row) → RowLeaves table a row → target table (a + 1) row ≢ l
  elsewhere row (inl d) e = omega (arith, d.to, l_in_range)
  elsewhere row (inr g) e = g.elsewhere (sym g.to ∙ e)

  pub all_may_migrate : last_tick ≤ last_of table → AllByRecursion (MayMigrate table (a + 1) l) rows_l
  all_may_migrate range = All-weaken (Known l) (MayMigrate table (a + 1) l) rows_l
      (λ row h. record {
        elsewhere = elsewhere row (leaves row h);
        not_past = (let k : a < (row_timer row).deadline = h.pending.later in omega arith);
        in_range = (let k : (row_timer row).deadline ≤ last_tick = h.pending.in_range in omega arith);
      })
      (known_rows l (in_buckets l l_in_range))

  pub none_from : (s : ℕ) → slots table ≤ s → list_at s lists ≡ []
  none_from s h = elim (cases_lt s n) [
    | inl k ↦ spare_none s h k
    | inr k ↦ elim (cases_eq s n) [
      | inl q ↦ ap (λ (x : ℕ). list_at x lists) q ∙ b.none_due
      | inr x ↦ none_past_end lists s (omega (arith, b.sound.has_lists))
    ]
  ]
