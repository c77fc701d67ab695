-- How often the timers of a lazy hierarchy may still be filed anew: what a start, a push back, a stop, ticks and a visit make
-- of it.
use Rattle.std.proofs.Common.{◌≡◌, ◌≢◌, ◌<◌, ◌≤◌, ◌+◌, ◌*◌, ◌/◌, ◌==◌, ◌⊎◌, ℕ, suc, List, [], ◌∷◌, ◌++◌, length, refl, sym, ◌∙◌, ap, subst, inl, inr, arith, true, false, map, not, slice_set, length-set, get_or-set_same, get_or-set_other, Some}
use Rattle.std.specs.List.{AllByRecursion}
use Rattle.std.proofs.lemmas.Bool.{cases_eq, eq-eqb, ne_eqb}
use Rattle.std.proofs.lemmas.Nat.{mul-le}
use Rattle.timer_base.proofs.Basics.{is_not_due, is_due}
use Rattle.timer_base.proofs.OrderLaws.{All-weaken}
use Rattle.timer_base.specs.Pending.{is_due_at}
use Rattle.timer_base.specs.WheelState.{held_at}
use Rattle.timer_links.proofs.Rows.{StandsIn, stands_in}
use Rattle.timer_links.specs.Lists.{with_row, without_key, AreApart, SetsNode}
use Rattle.timer_wheels.specs.Types.{LAST, Handle, Timer, Ghosts, Node, list_at, KeyedLists, Row, Rows, Table}
use Rattle.timer_wheels.specs.BucketLists.{row_timer}
use Rattle.timer_wheels.specs.Buckets.{state_of, IsListOf}
use Rattle.timer_wheels.specs.Digits.{IsTable, HasDigits, level, digit, slots, bucket, list_of_slot, emptied, BucketAtTick}
use Rattle.timer_wheels.specs.lazy.Filed.{filings_of, sum_of, sum_below}
use Rattle.timer_wheels.specs.lazy.Files.{AreFiles, AreVisitedFrom, filings_left, filed_next}
use Rattle.timer_wheels.specs.lazy.Filing.{EmptiesBucket}
use Rattle.timer_wheels.specs.hier.Leap.{list_visit, timer_visit}
use Rattle.timer_wheels.specs.hier.Migration.{target, migrate_rows, migrated, left_rows}
use Rattle.timer_wheels.specs.Tables.{radices}
use Rattle.timer_wheels.specs.declared.buckets.Buckets.{Buckets}
use Rattle.timer_wheels.proofs.bucket_lemmas.AllLemmas.{all-both}
use Rattle.timer_wheels.proofs.table_lemmas.DigitLaws.{level_near, level_far, quotient_mono, bucket_at_tick, digits_down, emptied_in_range, level_in_table}
use Rattle.timer_wheels.proofs.lazy_lemmas.FiledLemmas.{visited_later}
use Rattle.timer_wheels.proofs.lazy_lemmas.FilesLemmas.{IsKnownFile, is_table, last_digits, known_files}
use Rattle.timer_wheels.proofs.bucket_lemmas.Handles.{held_node}
use Rattle.timer_wheels.proofs.hier_lemmas.MigrationLemmas.{target_due, target_left}
use Rattle.timer_wheels.proofs.bucket_lemmas.RowLemmas.{list_at-without_key}
use Rattle.timer_wheels.proofs.lazy_lemmas.RowSums.{sum-filter, sum-mono, sums-mono, sums-none, sums-above, sums-set, sums-put, sums-push}
use Rattle.timer_wheels.proofs.table_lemmas.TableLaws.{of_table}
use Rattle.timer_wheels.proofs.table_lemmas.VisitLaws.{level_stays, list_is}

-- One row.

-- its level doesn't rise
level_mono : (table : List ℕ) (a b d : ℕ) → IsTable table → a ≤ b → b ≤ d → level table b d ≤ level table a d
level_mono [] a b d t h k = omega arith
level_mono (r ∷ rs) a b d t h k =
    let low : a / r ≤ b / r = quotient_mono r a b t.0 h in
    let high : b / r ≤ d / r = quotient_mono r b d t.0 k in
    elim (cases_eq (b / r) (d / r)) [
      | inl q ↦ omega (arith, level_near r rs b d q)
      | inr q ↦ omega (
        arith,
        level_far r rs b d q,
        level_far r rs a d (λ (e : a / r ≡ d / r). q (omega arith)),
        level_mono rs (a / r) (b / r) (d / r) t.1 low high,
      )
    ]

in_own : (table : List ℕ) (now s : ℕ) (row : Row) → bucket table now (row_timer row).deadline ≡ s
    → filings_of table now s row ≡ level table now (row_timer row).deadline
in_own table now s row e = rw (eq-eqb (bucket table now (row_timer row).deadline) s e) (omega arith)

in_other : (table : List ℕ) (now s : ℕ) (row : Row) → bucket table now (row_timer row).deadline ≢ s
    → filings_of table now s row ≡ level table now (row_timer row).deadline + 1
in_other table now s row n = rw (ne_eqb (bucket table now (row_timer row).deadline) s n) refl

in_any : (table : List ℕ) (now s : ℕ) (row : Row) → filings_of table now s row ≤ level table now (row_timer row).deadline + 1
in_any table now s row = elim (cases_eq (bucket table now (row_timer row).deadline) s) [
  | inl e ↦ omega (arith, in_own table now s row e)
  | inr n ↦ omega (arith, in_other table now s row n)
]

module _ (table : List ℕ) (a s : ℕ) (row : Row) (t : IsTable table) (i : HasDigits table (row_timer row).deadline)
    (later : a < (row_timer row).deadline) where
  abbrev d : ℕ
  d = (row_timer row).deadline

  -- once in each wheel
  pub filings_most : filings_of table a s row ≤ length table
  filings_most = omega (arith, in_any table a s row, level_in_table table a d t i later)

  -- ticks before the visit of its list
  pub filings_stay : (b : ℕ) → a ≤ b → b < list_visit table s a → list_visit table s a ≤ (row_timer row).deadline
      → filings_of table b s row ≤ filings_of table a s row
  filings_stay b h k in_time = elim (cases_eq (bucket table a (row_timer row).deadline) s) [
    | inl e ↦
        let visit : list_visit table s a ≡ timer_visit table a d =
        ap (λ (x : ℕ). list_visit table x a) (sym e) ∙ list_is table a d t i later in
        let stays : level table b d ≡ level table a d = level_stays table a b d t i later h (omega arith) in
        let at : bucket table b d ≡ s = ap (λ (x : ℕ). list_of_slot table x (digit table x d)) stays ∙ e in
        omega (arith, in_own table a s row e, in_own table b s row at)
    | inr n ↦ omega (arith, in_other table a s row n, in_any table b s row, level_mono table a b d t h (omega arith))
  ]

  -- the visit, after which it is in its own bucket
  pub filings_fall : a + 1 < (row_timer row).deadline → s ≡ emptied table (a + 1)
      → filings_of table (a + 1) (bucket table (a + 1) (row_timer row).deadline) row + 1 ≤ filings_of table a s row
  filings_fall h e =
      let now : filings_of table (a + 1) (bucket table (a + 1) d) row ≡ level table (a + 1) d =
      in_own table (a + 1) (bucket table (a + 1) d) row refl in
      let at : BucketAtTick table a d = bucket_at_tick table a d t i later in
      elim at.is [
        | inl y ↦ elim y.1 [
          | inl z ↦ absurd (omega arith)
          | inr z ↦ omega (arith, in_own table a s row (y.0 ∙ sym e), z.0)
        ]
        | inr y ↦ omega (arith, in_other table a s row (λ (q : bucket table a d ≡ s). y.0 (q ∙ e)), y.1.1.0)
      ]

-- The rows of a bucket that is emptied.

-- it is due, or is filed anew and paid for
pub record IsRefiled (table : List ℕ) (a l : ℕ) (row : Row) : Type 0 where
  pub left : is_due_at (a + 1) (row_timer row) ≡ false
  pub in_range : bucket table (a + 1) (row_timer row).deadline < slots table
  pub pays : filings_of table (a + 1) (bucket table (a + 1) (row_timer row).deadline) row + 1 ≤ filings_of table a l row

abbrev IsPaidAt : List ℕ → ℕ → ℕ → Row → Type 0
IsPaidAt table a l row = (is_due_at (a + 1) (row_timer row) ≡ true) ⊎ IsRefiled table a l row

emptied_pays : (table : List ℕ) (a l : ℕ) (rows : Rows) (lists : KeyedLists) → slots table < length lists
    → AllByRecursion (IsPaidAt table a l) rows
    → sum_below (filings_of table (a + 1)) (slots table) (migrate_rows table (a + 1) rows lists) + length (left_rows (a + 1) rows)
    ≤ sum_below (filings_of table (a + 1)) (slots table) lists + sum_of (filings_of table a l) rows
emptied_pays table a l [] lists b p = omega arith
emptied_pays table a l (x ∷ xs) lists b p =
    let to : ℕ = target table (a + 1) x in
    let more : KeyedLists = with_row to x lists in
    let rest = emptied_pays table a l xs (with_row (target table (a + 1) x) x lists)
    (omega (arith, length-set lists (target table (a + 1) x) (list_at (target table (a + 1) x) lists ++ x ∷ []))) p.1 in
    elim p.0 [
      | inl due ↦
          let same = sums-above (filings_of table (a + 1)) (slots table) (target table (a + 1) x)
          (list_at (target table (a + 1) x) lists ++ x ∷ []) lists (omega (arith, target_due table (a + 1) x due)) in
          let none : length (left_rows (a + 1) (x ∷ xs)) ≡ length (left_rows (a + 1) xs) = rw due refl in
          omega arith
      | inr r ↦
          let at = target_left table (a + 1) x r.left in
          let push = sums-push (filings_of table (a + 1)) (slots table) (target table (a + 1) x) x lists (omega (arith, at, r.in_range)) in
          let own : filings_of table (a + 1) (target table (a + 1) x) x
          ≡ filings_of table (a + 1) (bucket table (a + 1) (row_timer x).deadline) x =
          ap (λ (y : ℕ). filings_of table (a + 1) y x) at in
          let one : length (left_rows (a + 1) (x ∷ xs)) ≡ suc (length (left_rows (a + 1) xs)) = rw r.left refl in
          omega (arith, r.pays)
    ]

-- What is left is paid for.

paid_more : (l starts filings left left2 : ℕ) → filings + left ≤ l * starts → left2 ≤ left + l → filings + left2 ≤ l * (starts + 1)
paid_more l starts filings left left2 p q = let x : l * (starts + 1) ≡ l * starts + l = omega arith in omega arith

-- The files of a lazy hierarchy.

module _ {N : Type 0} {kept : Ghosts N} {t : Table} {b : Buckets N kept} {words : List ℕ} (h : AreFiles t b words) where
  abbrev f : ℕ → Row → ℕ
  f = filings_of (radices t) b.tick

  row_digits : (s : ℕ) (row : Row) → IsKnownFile (radices t) b.last_tick b.tick b.last_serial s row → HasDigits (radices t) (row_timer row).deadline
  row_digits s row k = digits_down (radices t) (row_timer row).deadline b.last_tick (is_table h) k.pending.in_range (last_digits h)

  in_slots : (s : ℕ) → s < slots (radices t) → s < b.slots
  in_slots s k = omega (arith, h.has_slots)

  left_at : (new : Buckets N kept) (lists : KeyedLists) → new.tick ≡ b.tick → new.links.lists ≡ lists
      → filings_left t new ≡ sum_below f (slots (radices t)) lists
  left_at new lists e q = ap (λ (x : ℕ). sum_below (filings_of (radices t) x) (slots (radices t)) new.links.lists) e
      ∙ ap (sum_below f (slots (radices t))) q

  -- A timer comes to a list, or takes the place of one that stands there.

  module _ (row : Row) (in_range : (row_timer row).deadline ≤ b.last_tick) (later : b.tick < (row_timer row).deadline) where
    most : (s : ℕ) → f s row ≤ length (radices t)
    most s = filings_most (radices t) b.tick s row (is_table h)
        (digits_down (radices t) (row_timer row).deadline b.last_tick (is_table h) in_range (last_digits h)) later

  -- a push back
  pub paid_push_back : (filings starts : ℕ) (handle : Handle) (timer old : Timer) (new : Buckets N kept) → new.tick ≡ b.tick
      → AreApart b.links.lists → held_at handle (state_of b) ≡ Some old → timer.deadline ≤ b.last_tick → b.tick < timer.deadline
      → SetsNode handle.place (record { timer = timer; rounds = 0 }) b.links.lists new.links.lists
      → filings + filings_left t b ≤ length (radices t) * starts → filings + filings_left t new ≤ length (radices t) * (starts + 1)
  paid_push_back filings starts handle timer old new e apart found k later set p =
      let node : Node = record { timer = timer; rounds = 0 } in
      let held = held_node b.sound apart handle old found in
      let there : StandsIn handle.place held.node b.links.lists = stands_in handle.place held.node b.links.lists held.at in
      let is : new.links.lists ≡ slice_set b.links.lists there.l (there.front ++ (handle.place, node) ∷ there.rest) =
      set there.l there.front held.node there.rest there.in_range there.at in
      paid_more (length (radices t)) starts filings (filings_left t b) (filings_left t new) p
      (omega (
        arith,
        left_at new (slice_set b.links.lists there.l (there.front ++ (handle.place, node) ∷ there.rest)) e is,
        sums-put f (slots (radices t)) there.l b.links.lists there.front there.rest (handle.place, node) (handle.place, held.node) there.in_range there.at,
        most (handle.place, node) k later there.l,
      ))

  -- one for now is no file
  come_left : (row : Row) (list : ℕ) (lists : KeyedLists) → (row_timer row).deadline ≤ b.last_tick → length lists ≡ b.slots + 1
      → IsListOf list b.slots b.tick (row_timer row).deadline
      → sum_below f (slots (radices t)) (with_row list row lists) ≤ sum_below f (slots (radices t)) lists + length (radices t)
  come_left row list lists k len (inl p) = omega (
    arith,
    sums-push f (slots (radices t)) list row lists (omega (arith, p.0)),
    most row k p.1 list,
  )
  come_left row list lists k len (inr p) = omega (
    arith,
    sums-above f (slots (radices t)) list (list_at list lists ++ row ∷ []) lists (omega (arith, p.0, h.has_slots)),
  )

  pub paid_come : (filings starts : ℕ) (row : Row) (list : ℕ) (lists : KeyedLists) (new : Buckets N kept) → new.tick ≡ b.tick
      → new.links.lists ≡ with_row list row lists → (row_timer row).deadline ≤ b.last_tick → length lists ≡ b.slots + 1
      → IsListOf list b.slots b.tick (row_timer row).deadline → sum_below f (slots (radices t)) lists ≤ filings_left t b
      → filings + filings_left t b ≤ length (radices t) * starts → filings + filings_left t new ≤ length (radices t) * (starts + 1)
  paid_come filings starts row list lists new e q k len at less p =
      paid_more (length (radices t)) starts filings (filings_left t b) (filings_left t new) p
      (omega (arith, left_at new (with_row list row lists) e q, come_left row list lists k len at, less))

  -- a timer goes
  pub gone_left : (key : ℕ) → sum_below f (slots (radices t)) (map (without_key key) b.links.lists) ≤ filings_left t b
  gone_left key = sums-mono f f (slots (radices t)) b.links.lists (map (without_key key) b.links.lists) (λ s k.
      omega (arith, ap (sum_of (f s)) (list_at-without_key s key b.links.lists), sum-filter (f s) (λ row. not (row.0 == key)) (list_at s b.links.lists)))

  pub gone_from : (key : ℕ) (new : Buckets N kept) → new.tick ≡ b.tick → new.links.lists ≡ map (without_key key) b.links.lists
      → filings_left t new ≤ filings_left t b
  gone_from key new e q = omega (arith, left_at new (map (without_key key) b.links.lists) e q, gone_left key)

  -- the buckets are as they were, or have no timer
  pub same_left : (new : Buckets N kept) → new.tick ≡ b.tick
      → ((s : ℕ) → s < b.slots → list_at s new.links.lists ≡ list_at s b.links.lists) → filings_left t new ≤ filings_left t b
  same_left new e same =
      let now = ap (λ (x : ℕ). sum_below (filings_of (radices t) x) (slots (radices t)) new.links.lists) e in
      let less = sums-mono f f (slots (radices t)) b.links.lists new.links.lists
      (λ s k. omega (arith, ap (sum_of (f s)) (same s (in_slots s k)))) in
      omega arith

  pub none_left : (new : Buckets N kept) → ((s : ℕ) → s < b.slots → list_at s new.links.lists ≡ []) → filings_left t new ≡ 0
  none_left new none = sums-none (filings_of (radices t) new.tick) (slots (radices t)) new.links.lists (λ s k. none s (in_slots s k))

  -- Ticks at which no bucket with a timer is visited.
  pub skipped_left : (tick : ℕ) → b.tick ≤ tick → AreVisitedFrom (radices t) (tick + 1) b.tick b.slots b.links.lists
      → sum_below (filings_of (radices t) tick) (slots (radices t)) b.links.lists ≤ filings_left t b
  skipped_left tick l ahead = sums-mono f (filings_of (radices t) tick) (slots (radices t)) b.links.lists b.links.lists (λ s k.
      sum-mono (f s) (filings_of (radices t) tick s) (list_at s b.links.lists)
      (all-both (IsKnownFile (radices t) b.last_tick b.tick b.last_serial s) (λ row. tick + 1 ≤ list_visit (radices t) s b.tick)
      (λ row. filings_of (radices t) tick s row ≤ f s row) (list_at s b.links.lists)
      (λ row q v. filings_stay (radices t) b.tick s row (is_table h) (row_digits s row q) q.pending.later tick l (omega arith) q.filed.in_time)
      (known_files h s (in_slots s k)) (ahead s (in_slots s k))))

  -- The tick that visits a bucket.

  module _ (before_last : b.tick < b.last_tick) where
    abbrev l : ℕ
    l = emptied (radices t) (b.tick + 1)

    abbrev g : ℕ → Row → ℕ
    g = filings_of (radices t) (b.tick + 1)

    abbrev base : KeyedLists
    base = slice_set b.links.lists (emptied (radices t) (b.tick + 1)) []

    abbrev Known : ℕ → Row → Type 0
    Known s row = IsKnownFile (radices t) b.last_tick b.tick b.last_serial s row

    l_in : l < slots (radices t)
    l_in = emptied_in_range (radices t) (b.tick + 1) (is_table h)
        (digits_down (radices t) (b.tick + 1) b.last_tick (is_table h) (omega arith) (last_digits h)) (λ e. omega arith)

    l_there : l < length b.links.lists
    l_there = omega (arith, l_in, h.has_slots, b.sound.has_lists)

    paid_row : (row : Row) → Known l row → IsPaidAt (radices t) b.tick l row
    paid_row row k = elim (cases_eq (row_timer row).deadline (b.tick + 1)) [
      | inl e ↦ inl (is_due (b.tick + 1) (row_timer row) e)
      | inr n ↦
          let first : b.tick < (row_timer row).deadline = k.pending.later in
          let later : b.tick + 1 < (row_timer row).deadline = omega arith in
          let digits : HasDigits (radices t) (row_timer row).deadline = row_digits l row k in
          inr (record {
            left = is_not_due (b.tick + 1) (row_timer row) n;
            in_range = (bucket_at_tick (radices t) (b.tick + 1) (row_timer row).deadline (is_table h) digits later).in_range;
            pays = filings_fall (radices t) b.tick l row (is_table h) digits first later refl;
          })
    ]

    staying : (s : ℕ) → s ≢ l → (row : Row) → Known s row → g s row ≤ f s row
    staying s n row k = filings_stay (radices t) b.tick s row (is_table h) (row_digits s row k) k.pending.later (b.tick + 1) (omega arith)
        (visited_later (radices t) b.tick s (is_table h) k.digits k.filed.ahead n) k.filed.in_time

    base_at : (s : ℕ) → s < slots (radices t) → sum_of (g s) (list_at s base) ≤ sum_of (f s) (list_at s base)
    base_at s k = elim (cases_eq s l) [
      | inl e ↦
          let none : list_at s base ≡ [] = ap (λ (x : ℕ). list_at x base) e ∙ get_or-set_same b.links.lists l [] [] l_there in
          omega (arith, ap (sum_of (g s)) none)
      | inr n ↦ subst (λ (rows : Rows). sum_of (g s) rows ≤ sum_of (f s) rows) (sym (get_or-set_other b.links.lists l s [] [] n))
          (sum-mono (f s) (g s) (list_at s b.links.lists)
          (All-weaken (Known s) (λ row. g s row ≤ f s row) (list_at s b.links.lists) (staying s n) (known_files h s (in_slots s k))))
    ]

    emptied_here : (new : KeyedLists) → EmptiesBucket (radices t) (slots (radices t) + 35) (b.tick + 1) l b.links.lists new
        → filed_next t b + sum_below g (slots (radices t)) new ≤ filings_left t b
    emptied_here new e =
        let after : sum_below g (slots (radices t)) new ≤ sum_below g (slots (radices t)) (migrated (radices t) (b.tick + 1) l b.links.lists) =
        sums-mono g g (slots (radices t)) (migrated (radices t) (b.tick + 1) l b.links.lists) new
        (λ s k. omega (arith, ap (sum_of (g s)) (e.others s (λ (q : s ≡ slots (radices t)). omega arith) (λ (q : s ≡ slots (radices t) + 35). omega arith)))) in
        omega (
          arith,
          after,
          emptied_pays (radices t) b.tick l (list_at l b.links.lists) base
              (omega (arith, length-set b.links.lists l [], h.has_slots, b.sound.has_lists))
              (All-weaken (Known l) (IsPaidAt (radices t) b.tick l) (list_at l b.links.lists) paid_row (known_files h l (in_slots l l_in))),
          sums-mono f g (slots (radices t)) base base base_at,
          sums-set f (slots (radices t)) l [] b.links.lists l_in l_there,
        )

    module _ (list filed : ℕ) (new : KeyedLists) (at : list ≡ emptied (radices t) (b.tick + 1))
        (n : filed ≡ length (left_rows (b.tick + 1) (list_at list b.links.lists)))
        (e : EmptiesBucket (radices t) (slots (radices t) + 35) (b.tick + 1) list b.links.lists new) where
      pub emptied_left : filed + sum_below g (slots (radices t)) new ≤ filings_left t b
      emptied_left = omega (
        arith,
        n ∙ ap (λ (x : ℕ). length (left_rows (b.tick + 1) (list_at x b.links.lists))) at,
        emptied_here new (subst (λ (x : ℕ). EmptiesBucket (radices t) (slots (radices t) + 35) (b.tick + 1) x b.links.lists new) at e),
      )

      pub filings_fit : (filings starts : ℕ) → starts ≤ b.last_serial → filings + filings_left t b ≤ length (radices t) * starts
          → filings + filed < 18446744073709551616
      filings_fit filings starts s p = omega (
        arith,
        emptied_left,
        b.sound.serial_in_range,
        mul-le (length (radices t)) starts 10 LAST (omega (arith, (of_table t).few_wheels)) (omega (arith, b.sound.serial_in_range)),
      )
