-- One tick of a hierarchy of wheels: the invariant, the state and the moves after `migrated`.
use Rattle.std.proofs.Common.{◌≡◌, ◌≢◌, ◌<◌, ◌≤◌, ◌+◌, ℕ, ◌==◌, ◌⊎◌, List, [], ◌∷◌, ◌++◌, length, refl, sym, ◌∙◌, ap, subst, inl, inr, arith, length-set, get_or-set_same, get_or-set_other, Bool, true, false, filter, not, if◌then◌else◌, slice_set}
use Rattle.std.specs.List.{AllByRecursion}
use Rattle.std.proofs.lemmas.Bool.{cases_eq, cases_lt, eq-eqb, ne_eqb, eqb-true}
use Rattle.std.proofs.lemmas.Bool.Decides.{nat_tests}
use Rattle.timer_base.proofs.Basics.{is_not_due, is_due, not_due_before, either}
use Rattle.timer_base.specs.Order.{AreRising, in_order, insert_in_order, is_before}
use Rattle.timer_base.proofs.OrderLaws.{map-in_order, in_order-same, AllAt, All-filter, All-weaken, All-in_order, filter_same}
use Rattle.timer_base.specs.Pending.{Entry, timer_of, is_due_at, entries_due, entries_left}
use Rattle.timer_base.specs.WheelState.{IsPending, after_tick}
use Rattle.timer_links.specs.Lists.{list_at, KeyedLists, Row, Rows}
use Rattle.timer_wheels.specs.Digits.{IsTable, HasDigits, level, lowest, slots_below, slots, bucket, emptied, hops, last_of, BucketAtTick}
use Rattle.timer_wheels.proofs.table_lemmas.DigitLaws.{bucket_at_tick, digits_down, emptied_in_range}
use Rattle.timer_wheels.proofs.bucket_lemmas.AllLemmas.{all-both, all-map, filter_none, filter_rest}
use Rattle.timer_wheels.specs.BucketLaws.{wheel_state-well_formed}
use Rattle.timer_wheels.specs.BucketLists.{row_timer, row_timers, entry_of, entries_of, rows_below, pending_in, ArePending, AreInOrder, AreBuckets, EachRow, wheel_state}
use Rattle.timer_wheels.specs.hier.Placement.{IsPlaced, hops_of, levels_of}
use Rattle.timer_wheels.specs.hier.Migration.{target, migrated, due_rows, left_rows, MayMigrate, IsOfTick}
use Rattle.timer_wheels.proofs.bucket_lemmas.RowLemmas.{all-append, all-front, all-rest, all-rows_below, all-list_at, IsAround, around, append-nil}
use Rattle.std.proofs.lemmas.List.Elements.{filter-append}
use Rattle.timer_wheels.proofs.bucket_lemmas.Calls.{filter-pending_in, AreDistinct-part, AreRising-part, no_rows, due_past}
use Rattle.timer_wheels.proofs.hier_lemmas.MigrationLemmas.{target_due, target_left, migrate_rows-length, to_list, list_at-migrate_rows, Distinct, in_order-pulled, distinct-pulled, GoesDown, AreMigrated, migrate_rows_keeps}

-- the invariant of a hierarchical wheel before a tick
pub record IsBefore (table : List ℕ) (last_tick a last_serial : ℕ) (lists : KeyedLists) : Type 0 where
  pub is_table : IsTable table
  pub digits : HasDigits table last_tick
  pub before_last : a < last_tick
  pub sound : AreBuckets (slots table) last_tick a last_serial lists
  pub placed : EachRow (IsPlaced table a) (slots table) lists
  pub in_order : AreInOrder (slots table) lists
  pub none_due : list_at (slots table) lists ≡ []

-- the invariant of each row of a bucket before the tick
record KnownRow (table : List ℕ) (last_tick a last_serial s : ℕ) (row : Row) : Type 0 where
  placed : IsPlaced table a s row
  pending : IsPending last_tick a last_serial (row_timer row)
  bucket_at_tick : BucketAtTick table a (row_timer row).deadline

-- a list that can have no row is empty
none_known : (P : Row → Type 0) (xs : Rows) → AllByRecursion P xs → ((x : Row) → P x → ⊥) → xs ≡ []
none_known P [] a f = refl
none_known P (x ∷ xs) a f = absurd (f x a.0)

-- Where the rows go.

-- a row of the list that is emptied becomes due
record BecomesDue (table : List ℕ) (a : ℕ) (row : Row) : Type 0 where
  deadline : (row_timer row).deadline ≡ a + 1
  due : is_due_at (a + 1) (row_timer row) ≡ true
  to : target table (a + 1) row ≡ slots table

-- or it moves below the wheels that have timers
record GoesLower (table : List ℕ) (a m : ℕ) (row : Row) : Type 0 where
  later : (row_timer row).deadline ≢ a + 1
  not_due : is_due_at (a + 1) (row_timer row) ≡ false
  falls : level table (a + 1) (row_timer row).deadline < level table a (row_timer row).deadline
  to : target table (a + 1) row < m

abbrev RowLeaves : List ℕ → ℕ → ℕ → Row → Type 0
RowLeaves table a m row = BecomesDue table a row ⊎ GoesLower table a m row

-- a row of another list stays
record RowStays (table : List ℕ) (a s : ℕ) (row : Row) : Type 0 where
  later : (row_timer row).deadline ≢ a + 1
  level : level table (a + 1) (row_timer row).deadline ≡ level table a (row_timer row).deadline
  bucket : bucket table (a + 1) (row_timer row).deadline ≡ s

row_leaves : (table : List ℕ) (last_tick a last_serial : ℕ) (row : Row)
    → KnownRow table last_tick a last_serial (emptied table (a + 1)) row → RowLeaves table a (slots_below (lowest table (a + 1)) table) row
row_leaves table last_tick a last_serial row h = elim (cases_eq (row_timer row).deadline (a + 1)) [
  | inl e ↦
      let due = is_due (a + 1) (row_timer row) e in
      inl (record { deadline = e; due = due; to = target_due table (a + 1) row due })
  | inr n ↦ elim h.bucket_at_tick.is [
    | inl y ↦ elim y.1 [
      | inl e ↦ absurd (n e)
      | inr z ↦
          let left = is_not_due (a + 1) (row_timer row) n in
          inr (record { later = n; not_due = left; falls = z.0; to = rw (target_left table (a + 1) row left) z.1 })
    ]
    | inr y ↦ absurd (y.0 h.placed.0)
  ]
]

row_stays : (table : List ℕ) (last_tick a last_serial s : ℕ) (row : Row) → s ≢ emptied table (a + 1)
    → KnownRow table last_tick a last_serial s row → RowStays table a s row
row_stays table last_tick a last_serial s row n h = elim h.bucket_at_tick.is [
  | inl y ↦ absurd (n (sym h.placed.0 ∙ y.0))
  | inr y ↦ record { later = y.1.0; level = y.1.1.0; bucket = y.1.1.1 ∙ h.placed.0 }
]

-- where a row that moves can't go
not_above : (table : List ℕ) (a m s : ℕ) (row : Row) → m ≤ s → s < slots table → RowLeaves table a m row
    → (target table (a + 1) row == s) ≡ false
not_above table a m s row h b (inl d) = ne_eqb (target table (a + 1) row) s (λ e. omega (arith, d.to))
not_above table a m s row h b (inr g) = ne_eqb (target table (a + 1) row) s (λ e. omega (arith, g.to))

-- the due rows are those that move to the last list
last_test : (table : List ℕ) (a m : ℕ) (row : Row) → m ≤ slots table → RowLeaves table a m row
    → (target table (a + 1) row == slots table) ≡ is_due_at (a + 1) (row_timer row)
last_test table a m row h (inl d) = eq-eqb (target table (a + 1) row) (slots table) d.to ∙ sym d.due
last_test table a m row h (inr g) = ne_eqb (target table (a + 1) row) (slots table) (λ e. omega (arith, g.to)) ∙ sym g.not_due

all_due_at : (tick : ℕ) (xs : Rows) → AllAt tick (row_timers (due_rows tick xs))
all_due_at tick [] = tt
all_due_at tick (x ∷ xs) = elim (either (is_due_at tick (row_timer x))) [
  | inl k ↦ rw k (eqb-true (row_timer x).deadline tick k, all_due_at tick xs)
  | inr k ↦ rw k (all_due_at tick xs)
]

pending_in-rows : (rows : Rows) → pending_in rows ≡ entries_of (in_order row_timer rows)
pending_in-rows rows = sym (map-in_order row_timer timer_of entry_of (λ x. refl) rows)

-- Hops.

hop_when : (table : List ℕ) (a d : ℕ) → a + 1 < d → level table (a + 1) d < level table a d → hops table a 1 d ≡ 1
hop_when table a d h k = grind (arith, nat_tests)

no_hop_due : (table : List ℕ) (a d : ℕ) → d ≡ a + 1 → hops table a 1 d ≡ 0
no_hop_due table a d e = grind (arith, nat_tests)

no_hop_same : (table : List ℕ) (a d : ℕ) → level table (a + 1) d ≡ level table a d → hops table a 1 d ≡ 0
no_hop_same table a d e = grind (arith, nat_tests)

-- a level falls with each hop, and by no more than to the timer's last one
hop_pays : (table : List ℕ) (a d : ℕ) → level table (a + 1) d ≤ level table a d → hops table a 1 d + level table (a + 1) d ≤ level table a d
hop_pays table a d h = grind (arith, nat_tests)

-- how many of the rows move
abbrev row_hops : List ℕ → ℕ → Rows → ℕ
row_hops table a rows = hops_of table a 1 (entries_of rows)

hops-append : (table : List ℕ) (a : ℕ) (xs ys : Rows) → row_hops table a (xs ++ ys) ≡ row_hops table a xs + row_hops table a ys
hops-append table a [] ys = omega arith
hops-append table a (x ∷ xs) ys = omega (arith, hops-append table a xs ys)

hops-insert : (table : List ℕ) (a k : ℕ) (x : Entry) (ys : List Entry)
    → hops_of table a k (insert_in_order timer_of x ys) ≡ hops table a k x.timer.deadline + hops_of table a k ys
hops-insert table a k x [] = refl
hops-insert table a k x (y ∷ ys) = elim (either (is_before x.timer y.timer)) [
  | inl h ↦ rw h refl
  | inr h ↦ rw h (omega (arith, hops-insert table a k x ys))
]

-- the sum is that of the rows, in whatever order
hops_of-in_order : (table : List ℕ) (a k : ℕ) (xs : List Entry) → hops_of table a k (in_order timer_of xs) ≡ hops_of table a k xs
hops_of-in_order table a k [] = refl
hops_of-in_order table a k (x ∷ xs) = omega (arith, hops-insert table a k x (in_order timer_of xs), hops_of-in_order table a k xs)

abbrev HasNoHop : List ℕ → ℕ → Row → Type 0
HasNoHop table a row = hops table a 1 (row_timer row).deadline ≡ 0

no_row_hops : (table : List ℕ) (a : ℕ) (xs : Rows) → AllByRecursion (HasNoHop table a) xs → row_hops table a xs ≡ 0
no_row_hops table a [] h = refl
no_row_hops table a (x ∷ xs) h = omega (arith, h.0, no_row_hops table a xs h.1)

-- those that are not due
all_row_hops : (table : List ℕ) (a : ℕ) (xs : Rows) → AllByRecursion (λ row. hops table a 1 (row_timer row).deadline
    ≡ (if is_due_at (a + 1) (row_timer row) then 0 else 1)) xs → row_hops table a xs ≡ length (left_rows (a + 1) xs)
all_row_hops table a [] h = refl
all_row_hops table a (x ∷ xs) h = elim (either (is_due_at (a + 1) (row_timer x))) [
  | inl k ↦ rw (h.0, k) (omega (arith, all_row_hops table a xs h.1))
  | inr k ↦ rw (h.0, k) (omega (arith, all_row_hops table a xs h.1))
]

-- What is left to move.

-- a timer that is pending, as the levels see it
abbrev FallsAt : List ℕ → ℕ → Entry → Type 0
FallsAt table a entry = level table (a + 1) entry.timer.deadline ≤ level table a entry.timer.deadline

levels_pay : (table : List ℕ) (a : ℕ) (es : List Entry) → AllByRecursion (FallsAt table a) es
    → hops_of table a 1 es + levels_of table (a + 1) (entries_left (a + 1) es) ≤ levels_of table a es
levels_pay table a [] h = omega arith
levels_pay table a (e ∷ es) h =
    let p = hop_pays table a e.timer.deadline h.0 in
    let ih = levels_pay table a es h.1 in
    elim (either (is_due_at (a + 1) e.timer)) [
      | inl k ↦ rw k (omega arith)
      | inr k ↦ rw k (omega arith)
    ]

-- The tick.

-- a hierarchical wheel with n buckets after a tick
pub record IsNext (table : List ℕ) (n last_tick a last_serial moves : ℕ) (lists new : KeyedLists) : Type 0 where
  pub sound : AreBuckets n last_tick (a + 1) last_serial new
  pub placed : EachRow (IsPlaced table (a + 1)) n new
  pub in_order : AreInOrder n new
  pub ticked : wheel_state n last_tick (a + 1) last_serial new ≡ after_tick (wheel_state n last_tick a last_serial lists)
  pub moves_are : moves ≡ hops_of table a 1 (pending_in (rows_below n lists))
  pub pays : moves + levels_of table (a + 1) (pending_in (rows_below n new)) ≤ levels_of table a (pending_in (rows_below n lists))

module _ {table : List ℕ} {last_tick a last_serial : ℕ} {lists : KeyedLists} (b : IsBefore table last_tick a last_serial lists) where
  -- the list that is emptied, its rows, and how many slots the wheels below it have
  abbrev l : ℕ
  l = emptied table (a + 1)

  abbrev rows_l : Rows
  rows_l = list_at (emptied table (a + 1)) lists

  abbrev m : ℕ
  m = slots_below (lowest table (a + 1)) table

  abbrev base : KeyedLists
  base = slice_set lists (emptied table (a + 1)) []

  abbrev after : KeyedLists
  after = migrated table (a + 1) (emptied table (a + 1)) lists

  -- the rows of the buckets before and after the tick
  abbrev rows : Rows
  rows = rows_below (slots table) lists

  abbrev new_rows : Rows
  new_rows = rows_below (slots table) (migrated table (a + 1) (emptied table (a + 1)) lists)

  abbrev Pending : Row → Type 0
  Pending row = IsPending last_tick a last_serial (row_timer row)

  abbrev Known : ℕ → Row → Type 0
  Known s row = KnownRow table last_tick a last_serial s row

  tick_digits : HasDigits table (a + 1)
  tick_digits = digits_down table (a + 1) last_tick b.is_table (omega (arith, b.before_last)) b.digits

  l_in_range : l < slots table
  l_in_range = emptied_in_range table (a + 1) b.is_table tick_digits (λ e. omega arith)

  l_in_lists : l < length lists
  l_in_lists = omega (arith, l_in_range, b.sound.has_lists)

  not_below_m : m ≤ l
  not_below_m = omega arith

  known_row : (s : ℕ) (row : Row) → IsPlaced table a s row → Pending row → Known s row
  known_row s row p q = record {
    placed = p;
    pending = q;
    bucket_at_tick = bucket_at_tick table a (row_timer row).deadline b.is_table
        (digits_down table (row_timer row).deadline last_tick b.is_table q.in_range b.digits) q.later;
  }

  known_rows : (s : ℕ) → s < slots table → AllByRecursion (Known s) (list_at s lists)
  known_rows s h = all-both (IsPlaced table a s) Pending (Known s) (list_at s lists) (known_row s) (b.placed s h)
      (all-list_at Pending (slots table) lists b.sound.pending s h)

  -- a fact of each row that leaves
  all_leaving : (P : Row → Type 0) → ((row : Row) → RowLeaves table a m row → P row) → AllByRecursion P rows_l
  all_leaving P f = All-weaken (Known l) P rows_l (λ row h. f row (row_leaves table last_tick a last_serial row h)) (known_rows l l_in_range)

  list_at-base : (s : ℕ) → s ≢ l → list_at s base ≡ list_at s lists
  list_at-base s n = get_or-set_other lists l s [] [] n

  list_at-l : list_at l base ≡ []
  list_at-l = get_or-set_same lists l [] [] l_in_lists

  -- what holds of the other lists holds of all once the list is emptied
  each_base : (P : ℕ → Rows → Type 0) → P l [] → ((s : ℕ) → s ≢ l → P s (list_at s lists)) → (s : ℕ) → P s (list_at s base)
  each_base P here others s = elim (cases_eq s l) [
    | inl e ↦ subst (λ (v : ℕ). P v (list_at v base)) (sym e) (subst (P l) (sym list_at-l) here)
    | inr n ↦ subst (P s) (sym (list_at-base s n)) (others s n)
  ]

  base-length : length base ≡ slots table + 1
  base-length = length-set lists l [] ∙ b.sound.has_lists

  after-length : length after ≡ slots table + 1
  after-length = migrate_rows-length table (a + 1) rows_l base ∙ base-length

  list_at-after : (s : ℕ) → s < slots table + 1 → list_at s after ≡ list_at s base ++ to_list table (a + 1) s rows_l
  list_at-after s h = list_at-migrate_rows table (a + 1) s rows_l base (omega (arith, base-length))

  -- a list below the wheel that is emptied has only what moves there
  below : (s : ℕ) → s < m → list_at s after ≡ to_list table (a + 1) s rows_l
  below s h =
      let k : s < slots table = omega (arith, l_in_range, not_below_m) in
      let z : list_at s lists ≡ [] = none_known (Known s) (list_at s lists) (known_rows s k)
      (λ row w. omega (arith, w.bucket_at_tick.not_below, w.placed.0)) in
      list_at-after s (omega arith) ∙ ap (λ (r : Rows). r ++ to_list table (a + 1) s rows_l)
      (list_at-base s (λ e. omega (arith, not_below_m)) ∙ z)

  -- every other list is unchanged, and the emptied one is empty
  above : (s : ℕ) → m ≤ s → s < slots table → list_at s after ≡ list_at s base
  above s h k = list_at-after s (omega arith) ∙ (ap (λ (r : Rows). list_at s base ++ r)
      (filter_none (λ row. target table (a + 1) row == s) rows_l (all_leaving (λ row. (target table (a + 1) row == s) ≡ false)
      (λ row. not_above table a m s row h k))) ∙ append-nil (list_at s base))

  due_list : list_at (slots table) after ≡ due_rows (a + 1) rows_l
  due_list = list_at-after (slots table) (omega arith)
      ∙ (ap (λ (r : Rows). r ++ to_list table (a + 1) (slots table) rows_l)
      (list_at-base (slots table) (λ e. omega (arith, l_in_range)) ∙ b.none_due)
      ∙ filter_same (λ row. target table (a + 1) row == slots table) (λ row. is_due_at (a + 1) (row_timer row)) rows_l
      (all_leaving (λ row. (target table (a + 1) row == slots table) ≡ is_due_at (a + 1) (row_timer row))
      (λ row. last_test table a m row (omega (arith, l_in_range, not_below_m)))))

  -- Each list is in order of starting.

  abbrev Rising : Rows → Type 0
  Rising rows = AreRising 0 (row_timers rows)

  rising_l : Rising rows_l
  rising_l = b.in_order l l_in_range

  after-in_order : AreInOrder (slots table) after
  after-in_order s h = elim (cases_lt s m) [
    | inl k ↦ subst Rising (sym (below s k)) (AreRising-part (λ row. target table (a + 1) row == s) 0 rows_l rising_l)
    | inr k ↦ subst Rising (sym (above s k h)) (each_base (λ s rows. s < slots table → Rising rows) (λ i. tt)
        (λ s n i. b.in_order s i) s h)
  ]

  due_rising : Rising (list_at (slots table) after)
  due_rising = subst Rising (sym due_list) (AreRising-part (λ row. is_due_at (a + 1) (row_timer row)) 0 rows_l rising_l)

  -- Each row stands where it belongs.

  abbrev Fits : ℕ → Row → Type 0
  Fits s row = IsPlaced table (a + 1) s row × IsPending last_tick (a + 1) last_serial (row_timer row)

  later : (row : Row) → Pending row → (row_timer row).deadline ≢ a + 1 → IsPending last_tick (a + 1) last_serial (row_timer row)
  later row p n = record { later = omega (arith, p.later); in_range = p.in_range; serial = p.serial }

  fits_staying : (s : ℕ) → s ≢ l → (row : Row) → Known s row → Fits s row
  fits_staying s n row h =
      let k = row_stays table last_tick a last_serial s row n h in
      ((k.bucket, h.placed.1), later row h.pending k.later)

  fits_going : (s : ℕ) → s < slots table → (row : Row) → (target table (a + 1) row == s) ≡ true → Known l row → Fits s row
  fits_going s h row e k =
      let f : target table (a + 1) row ≡ s = eqb-true (target table (a + 1) row) s e in
      elim (row_leaves table last_tick a last_serial row k) [
        | inl d ↦ absurd (omega (arith, d.to))
        | inr g ↦ ((sym (target_left table (a + 1) row g.not_due) ∙ f, k.placed.1), later row k.pending g.later)
      ]

  base_fits : (s : ℕ) → s < slots table → AllByRecursion (Fits s) (list_at s base)
  base_fits = each_base (λ s rows. s < slots table → AllByRecursion (Fits s) rows) (λ h. tt)
      (λ s n h. All-weaken (Known s) (Fits s) (list_at s lists) (fits_staying s n) (known_rows s h))

  after_fits : (s : ℕ) → s < slots table → AllByRecursion (Fits s) (list_at s after)
  after_fits s h =
      subst (AllByRecursion (Fits s)) (sym (list_at-after s (omega arith)))
      (all-append (Fits s) (list_at s base) (to_list table (a + 1) s rows_l) (base_fits s h)
      (All-filter (Known l) (Fits s) (λ row. target table (a + 1) row == s) rows_l (fits_going s h) (known_rows l l_in_range)))

  after-placed : EachRow (IsPlaced table (a + 1)) (slots table) after
  after-placed s h = All-weaken (Fits s) (IsPlaced table (a + 1) s) (list_at s after) (λ row f. f.0) (after_fits s h)

  after-pending : ArePending last_tick (a + 1) last_serial new_rows
  after-pending = all-rows_below (λ row. IsPending last_tick (a + 1) last_serial (row_timer row)) (slots table) after
      (λ s h. All-weaken (Fits s) (λ row. IsPending last_tick (a + 1) last_serial (row_timer row)) (list_at s after) (λ row f. f.1)
      (after_fits s h))

  -- The pending timers, and the due ones.

  around_l : IsAround (slots table) l lists
  around_l = around (slots table) l lists l_in_range l_in_lists

  base_rows : rows_below (slots table) base ≡ around_l.front ++ around_l.rest
  base_rows = around_l.with_rows []

  -- what holds of each row of the other lists holds before and behind the list
  all_around : (P : Row → Type 0) → ((s : ℕ) → s < slots table → AllByRecursion P (list_at s base))
      → AllByRecursion P around_l.front × AllByRecursion P around_l.rest
  all_around P f =
      let both : AllByRecursion P (around_l.front ++ around_l.rest) =
      subst (AllByRecursion P) base_rows (all-rows_below P (slots table) base f) in
      (all-front P around_l.front around_l.rest both, all-rest P around_l.front around_l.rest both)

  abbrev NotDue : Row → Type 0
  NotDue row = is_due_at (a + 1) (row_timer row) ≡ false

  not_due : AllByRecursion NotDue around_l.front × AllByRecursion NotDue around_l.rest
  not_due = all_around NotDue (λ s h. All-weaken (Fits s) NotDue (list_at s base)
      (λ row f. not_due_before (a + 1) (row_timer row) f.1.later) (base_fits s h))

  distinct_around : Distinct (around_l.front ++ (rows_l ++ around_l.rest))
  distinct_around = subst Distinct around_l.rows b.sound.distinct

  goes_down : (row : Row) → RowLeaves table a m row → GoesDown table (a + 1) row
  goes_down row (inl d) f = absurd (let due = d.due in cc)
  goes_down row (inr g) f = omega (arith, g.to, target_left table (a + 1) row f, l_in_range, not_below_m)

  keeps : AreMigrated table (a + 1) rows_l base
  keeps = migrate_rows_keeps table (a + 1) rows_l base (omega (arith, base-length)) (all_leaving (GoesDown table (a + 1)) goes_down)
      (subst (λ (rows : Rows). Distinct (rows_l ++ rows)) (sym base_rows)
      (distinct-pulled around_l.front rows_l around_l.rest distinct_around))

  parts : (p : Row → Bool) → filter p rows ≡ filter p around_l.front ++ (filter p rows_l ++ filter p around_l.rest)
  parts p = ap (filter p) around_l.rows ∙ (filter-append p around_l.front (rows_l ++ around_l.rest)
      ∙ ap (λ (r : Rows). filter p around_l.front ++ r) (filter-append p rows_l around_l.rest))

  left_parts : left_rows (a + 1) rows ≡ around_l.front ++ (left_rows (a + 1) rows_l ++ around_l.rest)
  left_parts = rw (
    parts (λ row. not (is_due_at (a + 1) (row_timer row))),
    filter_rest (λ row. is_due_at (a + 1) (row_timer row)) around_l.front not_due.0,
    filter_rest (λ row. is_due_at (a + 1) (row_timer row)) around_l.rest not_due.1,
  ) refl

  due_parts : due_rows (a + 1) rows ≡ due_rows (a + 1) rows_l
  due_parts = rw (
    parts (λ row. is_due_at (a + 1) (row_timer row)),
    filter_none (λ row. is_due_at (a + 1) (row_timer row)) around_l.front not_due.0,
    filter_none (λ row. is_due_at (a + 1) (row_timer row)) around_l.rest not_due.1,
  ) (append-nil (due_rows (a + 1) rows_l))

  left_ordered : in_order row_timer new_rows ≡ in_order row_timer (left_rows (a + 1) rows)
  left_ordered =
      keeps.pending
      ∙ (ap (λ (r : Rows). in_order row_timer (left_rows (a + 1) rows_l ++ r)) base_rows
      ∙ (sym (in_order-pulled around_l.front (left_rows (a + 1) rows_l) around_l.rest
      (subst Distinct left_parts (AreDistinct-part (λ row. not (is_due_at (a + 1) (row_timer row))) rows b.sound.distinct)))
      ∙ ap (in_order row_timer) (sym left_parts)))

  after-left : pending_in new_rows ≡ entries_left (a + 1) (pending_in rows)
  after-left =
      pending_in-rows new_rows
      ∙ (ap entries_of left_ordered
      ∙ (sym (pending_in-rows (left_rows (a + 1) rows))
      ∙ sym (filter-pending_in (λ entry. not (is_due_at (a + 1) entry.timer)) rows)))

  due_ordered : in_order row_timer (due_rows (a + 1) rows_l) ≡ due_rows (a + 1) rows_l
  due_ordered = in_order-same row_timer (a + 1) 0 (due_rows (a + 1) rows_l) (all_due_at (a + 1) rows_l)
      (AreRising-part (λ row. is_due_at (a + 1) (row_timer row)) 0 rows_l rising_l)

  after-due : entries_of (list_at (slots table) after) ≡ entries_due (a + 1) (pending_in rows)
  after-due =
      ap entries_of (due_list ∙ (sym due_ordered ∙ ap (in_order row_timer) (sym due_parts)))
      ∙ (sym (pending_in-rows (due_rows (a + 1) rows)) ∙ sym (filter-pending_in (λ entry. is_due_at (a + 1) entry.timer) rows))

  -- How many timers move, and what is left to move.

  going_hop : (row : Row) → Known l row → hops table a 1 (row_timer row).deadline ≡ (if is_due_at (a + 1) (row_timer row) then 0 else 1)
  going_hop row h = elim (row_leaves table last_tick a last_serial row h) [
    | inl d ↦ rw d.due (no_hop_due table a (row_timer row).deadline d.deadline)
    | inr g ↦ rw g.not_due (hop_when table a (row_timer row).deadline (omega (arith, g.later, h.pending.later)) g.falls)
  ]

  base_hop : (s : ℕ) → s < slots table → AllByRecursion (HasNoHop table a) (list_at s base)
  base_hop = each_base (λ s rows. s < slots table → AllByRecursion (HasNoHop table a) rows) (λ h. tt)
      (λ s n h. All-weaken (Known s) (HasNoHop table a) (list_at s lists)
      (λ row k. no_hop_same table a (row_timer row).deadline (row_stays table last_tick a last_serial s row n k).level) (known_rows s h))

  after-moves : length (left_rows (a + 1) rows_l) ≡ hops_of table a 1 (pending_in rows)
  after-moves =
      let none = all_around (HasNoHop table a) base_hop in
      let moving = All-weaken (Known l) (λ row. hops table a 1 (row_timer row).deadline ≡ (if is_due_at (a + 1) (row_timer row) then 0 else 1))
      rows_l going_hop (known_rows l l_in_range) in
      omega (
        arith,
        hops_of-in_order table a 1 (entries_of rows),
        ap (row_hops table a) around_l.rows,
        hops-append table a around_l.front (rows_l ++ around_l.rest),
        hops-append table a rows_l around_l.rest,
        no_row_hops table a around_l.front none.0,
        no_row_hops table a around_l.rest none.1,
        all_row_hops table a rows_l moving,
      )

  levels_fall : hops_of table a 1 (pending_in rows) + levels_of table (a + 1) (entries_left (a + 1) (pending_in rows))
      ≤ levels_of table a (pending_in rows)
  levels_fall = levels_pay table a (pending_in rows) (All-in_order timer_of (FallsAt table a) (entries_of rows)
      (all-map entry_of (FallsAt table a) rows (All-weaken Pending (λ row. FallsAt table a (entry_of row)) rows
      (λ row p. (bucket_at_tick table a (row_timer row).deadline b.is_table
      (digits_down table (row_timer row).deadline last_tick b.is_table p.in_range b.digits) p.later).falls) b.sound.pending)))

  next_here : IsNext table (slots table) last_tick a last_serial (length (left_rows (a + 1) rows_l)) lists after
  next_here = record {
    sound = record {
      last_in_range = b.sound.last_in_range;
      tick_in_range = omega (arith, b.before_last);
      serial_in_range = b.sound.serial_in_range;
      has_lists = after-length;
      pending = after-pending;
      distinct = keeps.distinct;
      due = due_past last_tick a (a + 1) last_serial (pending_in rows) (list_at (slots table) after)
          (wheel_state-well_formed (slots table) last_tick a last_serial lists b.sound).each after-due;
      due_in_order = due_rising;
    };
    placed = after-placed;
    in_order = after-in_order;
    ticked = rw (after-left, after-due) refl;
    moves_are = after-moves;
    pays = rw after-left (omega (arith, after-moves, levels_fall));
  }

  pub next_of : (n moves : ℕ) (new : KeyedLists) → n ≡ slots table → new ≡ after → moves ≡ length (left_rows (a + 1) rows_l)
      → IsNext table n last_tick a last_serial moves lists new
  next_of n moves new s e g =
      subst (λ (k : ℕ). IsNext table k last_tick a last_serial moves lists new) (sym s)
      (subst (IsNext table (slots table) last_tick a last_serial moves lists) (sym e)
      (subst (λ (k : ℕ). IsNext table (slots table) last_tick a last_serial k lists after) (sym g) next_here))

  -- The preconditions of the emptying.

  pub all_may_migrate : last_tick ≤ last_of table → AllByRecursion (MayMigrate table (a + 1) l) rows_l
  all_may_migrate range = All-weaken (Known l) (MayMigrate table (a + 1) l) rows_l
      (λ row h. record {
        elsewhere = elsewhere row (row_leaves table last_tick a last_serial row h);
        not_past = omega (arith, h.pending.later);
        in_range = omega (arith, h.pending.in_range);
      })
      (known_rows l l_in_range) where
        elsewhere : (row : Row) → RowLeaves table a m row → target table (a + 1) row ≢ l
        elsewhere row (inl d) e = omega (arith, d.to, l_in_range)
        elsewhere row (inr g) e = omega (arith, g.to, not_below_m)

  -- a bucket of the lowest wheel has only timers of this tick
  pub all_of_tick : m ≡ 0 → AllByRecursion (IsOfTick (a + 1)) rows_l
  all_of_tick z = all_leaving (IsOfTick (a + 1)) of_tick where
    of_tick : (row : Row) → RowLeaves table a m row → IsOfTick (a + 1) row
    of_tick row (inl d) = d.deadline
    of_tick row (inr g) = absurd (omega (arith, g.to))

pub before_of : (table : List ℕ) (n last_tick a last_serial : ℕ) (lists : KeyedLists) → n ≡ slots table → IsTable table
    → HasDigits table last_tick → a < last_tick
    → AreBuckets n last_tick a last_serial lists → EachRow (IsPlaced table a) n lists → AreInOrder n lists
    → entries_of (list_at n lists) ≡ []
    → IsBefore table last_tick a last_serial lists
before_of table n last_tick a last_serial lists s i h l b p o z = record {
  is_table = i;
  digits = h;
  before_last = l;
  sound = subst (λ (k : ℕ). AreBuckets k last_tick a last_serial lists) s b;
  placed = subst (λ (k : ℕ). EachRow (IsPlaced table a) k lists) s p;
  in_order = subst (λ (k : ℕ). AreInOrder k lists) s o;
  none_due = subst (λ (k : ℕ). list_at k lists ≡ []) s (no_rows (list_at n lists) z);
}
