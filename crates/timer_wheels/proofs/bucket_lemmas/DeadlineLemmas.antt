-- Lemmas for `deadlines`: the least deadline of lists, and in which bucket of a hierarchy it is.
use Rattle.std.proofs.Common.{◌≡◌, ◌<◌, ◌≤◌, ◌+◌, ◌*◌, ◌/◌, ℕ, suc, List, [], ◌∷◌, ◌++◌, length, refl, sym, ◌∙◌, ap, inl, inr, arith, Option, Some, None, min}
use Rattle.std.specs.List.{AllByRecursion}
use Rattle.std.proofs.lemmas.Bool.{cases_eq, cases_lt}
use Rattle.timer_base.proofs.Basics.{some_same, least_if_before, least_if_after, either}
use Rattle.timer_base.specs.Order.{insert_in_order, is_before}
use Rattle.timer_base.proofs.OrderLaws.{All-weaken}
use Rattle.timer_base.specs.Pending.{timer_of}
use Rattle.timer_base.specs.PlainState.{earliest}
use Rattle.timer_base.specs.WakeUps.{next_deadline}
use Rattle.timer_wheels.specs.Types.{Timer, Node, Entry, Ghosts, list_at, KeyedLists, Row, Rows, Table}
use Rattle.timer_wheels.specs.BucketLists.{row_timer, row_timers, entry_of, pending_in, rows_below, EachRow}
use Rattle.timer_wheels.specs.Buckets.{state_of}
use Rattle.timer_wheels.specs.declared.buckets.Buckets.{Buckets}
use Rattle.timer_wheels.specs.FirstDeadline.{HasDeadline, IsLeast, IsLeastDeadline}
use Rattle.timer_wheels.specs.declared.table.TheConstants.{MOST_BUCKETS}
use Rattle.timer_wheels.specs.Digits.{IsTable, bucket, lowest_radix}
use Rattle.timer_wheels.specs.hier.Hier.{IsHier}
use Rattle.timer_wheels.specs.hier.Leap.{list_visit, timer_visit}
use Rattle.timer_wheels.specs.Occupied.{IsFirstSet}
use Rattle.timer_wheels.specs.Tables.{radices}
use Rattle.timer_wheels.specs.WakeUps.{next_visit}
use Rattle.timer_wheels.proofs.bucket_lemmas.AllLemmas.{all-map, all-of_map}
use Rattle.timer_wheels.proofs.table_lemmas.DigitLaws.{bucket_near, bucket_far, lowest_bucket, visit_here, quotient_mono, less_quotient}
use Rattle.timer_wheels.proofs.hier_lemmas.Leaps.{IsKnown, known, none_where, none_wakes, first_in, first_some}
use Rattle.timer_wheels.proofs.bucket_lemmas.RowLemmas.{all-append, all-rows_below, append-nil, timers-append, around, rows_below-more}
use Rattle.timer_wheels.proofs.table_lemmas.TableLaws.{of_table}
use Rattle.timer_wheels.proofs.table_lemmas.VisitLaws.{list_is}

-- The least deadline of two lists together.

not_before-less : (c d : ℕ) (ts : List Timer) → c ≤ d → AllByRecursion (λ t. d ≤ t.deadline) ts → AllByRecursion (λ t. c ≤ t.deadline) ts
not_before-less c d ts h a = All-weaken (λ t. d ≤ t.deadline) (λ t. c ≤ t.deadline) ts (λ t k. omega arith) a

pub has-front : (d : ℕ) (xs ys : List Timer) → HasDeadline d xs → HasDeadline d (xs ++ ys)
has-front d [] ys h = absurd h
has-front d (x ∷ xs) ys (inl e) = inl e
has-front d (x ∷ xs) ys (inr h) = inr (has-front d xs ys h)

pub has-rest : (d : ℕ) (xs ys : List Timer) → HasDeadline d ys → HasDeadline d (xs ++ ys)
has-rest d [] ys h = h
has-rest d (x ∷ xs) ys h = inr (has-rest d xs ys h)

least-both : (a b d : ℕ) (xs ys : List Timer) → d ≤ a → d ≤ b → HasDeadline d (xs ++ ys) → IsLeast a xs → IsLeast b ys → IsLeast d (xs ++ ys)
least-both a b d xs ys h k e l m = record {
  has = e;
  none_earlier = all-append (λ t. d ≤ t.deadline) xs ys (not_before-less d a xs h l.none_earlier) (not_before-less d b ys k m.none_earlier);
}

pub least-append : (a b : Option ℕ) (xs ys : List Timer) → IsLeastDeadline a xs → IsLeastDeadline b ys
    → IsLeastDeadline (earliest a b) (xs ++ ys)
least-append None b xs ys l m = rw l m
least-append (Some a) None xs ys l m = rw (m, append-nil xs) l
least-append (Some a) (Some b) xs ys l m = elim (cases_lt a b) [
  | inl k ↦ let e : min a b ≡ a = omega arith in rw e (least-both a b a xs ys (omega arith) (omega arith) (has-front a xs ys l.has) l m)
  | inr k ↦ let e : min a b ≡ b = omega arith in rw e (least-both a b b xs ys k (omega arith) (has-rest b xs ys m.has) l m)
]

least-one : (t : Timer) → IsLeast t.deadline (t ∷ [])
least-one t = record { has = inl refl; none_earlier = (omega arith, tt) }

-- The walk along one list.

-- the least deadline of the rows that are behind
abbrev pub IsSought : Option ℕ → Rows → Type 0
IsSought least past = IsLeastDeadline least (row_timers past)

pub sought_one : (least more : Option ℕ) (key : ℕ) (node same : Node) (found : Option Node) (past : Rows) → Some same ≡ found
    → more ≡ earliest least (Some same.timer.deadline) → found ≡ Some node → IsSought least past
    → IsSought more (past ++ (key, node) ∷ [])
sought_one least more key node same found past f m e h =
    rw (m, some_same same node (f ∙ e), timers-append past ((key, node) ∷ []))
    (least-append least (Some node.timer.deadline) (row_timers past) (node.timer ∷ []) h (least-one node.timer))

-- Several lists.

pub least-more : (n : ℕ) (lists : KeyedLists) (least one more : Option ℕ) → n < length lists
    → IsLeastDeadline least (row_timers (rows_below n lists)) → IsLeastDeadline one (row_timers (list_at n lists)) → more ≡ earliest least one
    → IsLeastDeadline more (row_timers (rows_below (n + 1) lists))
least-more n lists least one more b l m e =
    let s : n + 1 ≡ suc n = omega arith in
    rw (e, s, rows_below-more n lists b, timers-append (rows_below n lists) (list_at n lists))
    (least-append least one (row_timers (rows_below n lists)) (row_timers (list_at n lists)) l m)

-- The least deadline is that of the first pending timer.

next-insert : (e : Entry) (es : List Entry) → next_deadline (insert_in_order timer_of e es)
    ≡ earliest (Some e.timer.deadline) (next_deadline es)
next-insert e [] = refl
next-insert e (f ∷ es) = elim (either (is_before e.timer f.timer)) [
  | inl h ↦ rw h (ap Some (least_if_before e.timer f.timer h))
  | inr h ↦ rw h (ap Some (least_if_after e.timer f.timer h))
]

pub next_is_least : (rows : Rows) → IsLeastDeadline (next_deadline (pending_in rows)) (row_timers rows)
next_is_least [] = refl
next_is_least (r ∷ rs) = rw (next-insert (entry_of r) (pending_in rs)) (least-append (Some (row_timer r).deadline)
    (next_deadline (pending_in rs)) (row_timer r ∷ []) (row_timers rs) (least-one (row_timer r)) (next_is_least rs))

-- There is but one.

at_most : (c d : ℕ) (ts : List Timer) → AllByRecursion (λ t. c ≤ t.deadline) ts → HasDeadline d ts → c ≤ d
at_most c d [] a h = absurd h
at_most c d (t ∷ ts) a (inl e) = let x : c ≤ t.deadline = a.0 in omega arith
at_most c d (t ∷ ts) a (inr h) = at_most c d ts a.1 h

one_least : (a b : Option ℕ) (ts : List Timer) → IsLeastDeadline a ts → IsLeastDeadline b ts → a ≡ b
one_least None None ts l m = refl
one_least None (Some b) ts l m = absurd (rw l at m.has)
one_least (Some a) None ts l m = absurd (rw m at l.has)
one_least (Some a) (Some b) ts l m =
    let e : a ≡ b = omega (arith, at_most a b ts l.none_earlier m.has, at_most b a ts m.none_earlier l.has) in
    ap Some e

pub least_is_next : (o : Option ℕ) (rows : Rows) → IsLeastDeadline o (row_timers rows) → o ≡ next_deadline (pending_in rows)
least_is_next o rows l = one_least o (next_deadline (pending_in rows)) (row_timers rows) l (next_is_least rows)

-- Deadlines of buckets, for every table.

quotient_less : (r x y : ℕ) → 0 < r → x / r < y / r → x < y
quotient_less r x y z h = elim (cases_lt x y) [ inl k ↦ k | inr k ↦ absurd (omega (arith, quotient_mono r y x z k)) ]

-- a bucket's deadlines are before those of the buckets after it
bucket_before : (table : List ℕ) (a d e : ℕ) → IsTable table → a < d → a < e → bucket table a d < bucket table a e → d < e
bucket_before [] a d e t h k b = absurd (omega arith)
bucket_before (r ∷ rs) a d e t h k b = elim (cases_eq (a / r) (d / r)) [
  | inl p ↦ elim (cases_eq (a / r) (e / r)) [
    | inl q ↦ omega (arith, t.0, bucket_near r rs a d p, bucket_near r rs a e q, ap (λ (x : ℕ). r * x) (sym p ∙ q))
    | inr q ↦ quotient_less r d e t.0 (omega (arith, less_quotient r a e k t.0 q))
  ]
  | inr p ↦ elim (cases_eq (a / r) (e / r)) [
    | inl q ↦ absurd (omega (arith, t.0, bucket_far r rs a d p, bucket_near r rs a e q))
    | inr q ↦ quotient_less r d e t.0 (bucket_before rs (a / r) (d / r) (e / r) t.1 (less_quotient r a d h t.0 p) (less_quotient r a e k t.0 q)
        (omega (arith, bucket_far r rs a d p, bucket_far r rs a e q)))
  ]
]

-- a slot of the lowest wheel is the tick of its visit
lowest_visit : (table : List ℕ) (a d l : ℕ) → IsTable table → 0 < length table → a < d → bucket table a d ≡ l → l < lowest_radix table
    → list_visit table l a ≡ d
lowest_visit [] a d l t n h e b = absurd (omega arith)
lowest_visit (r ∷ rs) a d l t n h e b =
    let w = lowest_bucket r rs a d (omega arith) in
    omega (arith, t.0, visit_here r rs l a b, w.1, ap (λ (x : ℕ). r * x) w.0)

-- The first bucket with a timer.

-- a row with the deadline
row_with : (d : ℕ) (P : Row → Type 0) (rows : Rows) → AllByRecursion P rows → HasDeadline d (row_timers rows)
    → (row : Row) × P row × ((row_timer row).deadline ≡ d)
row_with d P [] a h = absurd h
row_with d P (r ∷ rs) a (inl e) = (r, a.0, e)
row_with d P (r ∷ rs) a (inr h) = row_with d P rs a.1 h

-- what one list has, all have together
has_below : (d n l : ℕ) (lists : KeyedLists) → l < n → l < length lists → HasDeadline d (row_timers (list_at l lists))
    → HasDeadline d (row_timers (rows_below n lists))
has_below d n l lists k m h =
    let w = around n l lists k m in
    rw (w.rows, timers-append w.front (list_at l lists ++ w.rest), timers-append (list_at l lists) w.rest)
    (has-rest d (row_timers w.front) (row_timers (list_at l lists) ++ row_timers w.rest)
    (has-front d (row_timers (list_at l lists)) (row_timers w.rest) h))

pub some_rows : (rows : Rows) → 0 < length rows → row_timers rows ≡ [] → ⊥
some_rows [] k e = absurd (omega arith)
some_rows (r ∷ rs) k e = absurd (cc)

-- a row with the least deadline of rows that satisfy a fact
record HasLeast (P : Row → Type 0) (rows : Rows) : Type 0 where
  row : Row
  is : P row
  least : IsLeast (row_timer row).deadline (row_timers rows)

has_least : (P : Row → Type 0) (rows : Rows) (o : Option ℕ) → 0 < length rows → AllByRecursion P rows → IsLeastDeadline o (row_timers rows)
    → HasLeast P rows
has_least P rows None k a m = absurd (some_rows rows k m)
has_least P rows (Some d) k a m = let u = row_with d P rows a m.has in record { row = u.0; is = u.1; least = rw u.2 m }

-- nothing is pending if no bit is set
pub none_is_next : {N : Type 0} {kept : Ghosts N} {t : Table} {b : Buckets N kept} {words : List ℕ} → IsHier t b words → IsFirstSet MOST_BUCKETS words None
    → None ≡ next_deadline (state_of b).pending
none_is_next h f = ap next_deadline (sym (none_wakes h f))

module _ {N : Type 0} {kept : Ghosts N} {t : Table} {b : Buckets N kept} {words : List ℕ} (h : IsHier t b words) (l : ℕ) (f : IsFirstSet MOST_BUCKETS words (Some l)) where
  pub first_below : l < b.slots
  first_below = first_in h l f.0 f.1

  first_least : HasLeast (IsKnown (radices t) b.tick l) (list_at l b.links.lists)
  first_least = has_least (IsKnown (radices t) b.tick l) (list_at l b.links.lists) (next_deadline (pending_in (list_at l b.links.lists)))
      (first_some h l f) (known h l first_below) (next_is_least (list_at l b.links.lists))

  abbrev first_deadline : ℕ
  first_deadline = (row_timer first_least.row).deadline

  -- a deadline of the first bucket with a timer is before those of the later buckets
  not_later : (s : ℕ) (row : Row) → l < s → IsKnown (radices t) b.tick s row → first_deadline ≤ (row_timer row).deadline
  not_later s row c w =
      let x = bucket_before (radices t) b.tick first_deadline (row_timer row).deadline (of_table t).is_table
      first_least.is.later w.later (omega (arith, first_least.is.placed, w.placed)) in
      omega arith

  not_sooner : EachRow (λ s row. first_deadline ≤ (row_timer row).deadline) b.slots b.links.lists
  not_sooner s k = elim (cases_lt s l) [
    | inl c ↦ rw (none_where h s k (f.2 s c)) tt
    | inr c ↦ elim (cases_eq s l) [
      | inl e ↦ rw e (all-of_map row_timer (λ t. first_deadline ≤ t.deadline) (list_at l b.links.lists)
          first_least.least.none_earlier)
      | inr n ↦ All-weaken (IsKnown (radices t) b.tick s) (λ row. first_deadline ≤ (row_timer row).deadline)
          (list_at s b.links.lists) (λ row w. not_later s row (omega arith) w) (known h s k)
    ]
  ]

  least_of_all : Some first_deadline ≡ next_deadline (state_of b).pending
  least_of_all = least_is_next (Some first_deadline) (rows_below b.slots b.links.lists) (record {
    has = has_below first_deadline b.slots l b.links.lists first_below (omega (arith, first_below, b.sound.has_lists))
        first_least.least.has;
    none_earlier = all-map row_timer (λ t. first_deadline ≤ t.deadline) (rows_below b.slots b.links.lists)
        (all-rows_below (λ row. first_deadline ≤ (row_timer row).deadline) b.slots b.links.lists not_sooner);
  })

  -- its least deadline is the first one of all
  pub first_is_next : (o : Option ℕ) → IsLeastDeadline o (row_timers (list_at l b.links.lists)) → o ≡ next_deadline (state_of b).pending
  first_is_next o m =
      one_least o (Some first_deadline) (row_timers (list_at l b.links.lists)) m first_least.least ∙ least_of_all

  -- and on the lowest wheel that is the tick of its visit
  pub visit_is_next : (visit : ℕ) → visit ≡ list_visit (radices t) l b.tick → l < lowest_radix (radices t)
      → Some visit ≡ next_deadline (state_of b).pending
  visit_is_next visit e k =
      ap Some (e ∙ lowest_visit (radices t) b.tick first_deadline l (of_table t).is_table (of_table t).more_wheels
      first_least.is.later first_least.is.placed k)
      ∙ least_of_all

  -- The visit of the first bucket with a timer is that of the first pending timer.

  first_deadline_is : (d : ℕ) (es : List Entry) → Some d ≡ next_deadline es
      → Some (timer_visit (radices t) b.tick d) ≡ next_visit (radices t) b.tick es
  first_deadline_is d [] e = absurd (cc)
  first_deadline_is d (x ∷ xs) e = ap (λ (k : ℕ). Some (timer_visit (radices t) b.tick k)) (some_same d x.timer.deadline e)

  pub visit_is_first : (visit : ℕ) → visit ≡ list_visit (radices t) l b.tick
      → Some visit ≡ next_visit (radices t) b.tick (state_of b).pending
  visit_is_first visit e =
      ap Some (e ∙ (ap (λ (k : ℕ). list_visit (radices t) k b.tick) (sym first_least.is.placed)
      ∙ list_is (radices t) b.tick first_deadline (of_table t).is_table first_least.is.digits first_least.is.later))
      ∙ first_deadline_is first_deadline (state_of b).pending least_of_all

-- and none is visited if no bit is set
pub none_visited : {N : Type 0} {kept : Ghosts N} {t : Table} {b : Buckets N kept} {words : List ℕ} → IsHier t b words → IsFirstSet MOST_BUCKETS words None
    → None ≡ next_visit (radices t) b.tick (state_of b).pending
none_visited {t} {b} h f = ap (next_visit (radices t) b.tick) (sym (none_wakes h f))
