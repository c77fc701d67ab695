-- Lemmas for the first deadline and the first visit of a smooth wheel, found wheel by wheel.
use Rattle.std.proofs.Common.{◌≡◌, ◌≢◌, ◌<◌, ◌≤◌, ◌⊎◌, ◌+◌, ◌*◌, ℕ, suc, List, [], ◌∷◌, ◌++◌, length, refl, sym, ◌∙◌, ap, inl, inr, subst, arith, min, Option, Some, None, IfSome}
use Rattle.std.specs.List.{AllByRecursion}
use Rattle.std.proofs.Math.Nat.{div-mul-le_self, mul-le-mul_right}
use Rattle.std.proofs.lemmas.Bool.{cases_eq, cases_lt}
use Rattle.timer_base.proofs.Basics.{some_same, some_none}
use Rattle.timer_base.proofs.OrderLaws.{All-in_order}
use Rattle.timer_base.specs.Pending.{timer_of}
use Rattle.timer_base.specs.PlainState.{earliest}
use Rattle.timer_base.specs.WakeUps.{IsWakeUp, next_deadline}
use Rattle.timer_wheels.specs.Types.{Timer, Entry, Ghosts, list_at, KeyedLists, Row, Rows, Table}
use Rattle.timer_wheels.specs.smooth.Wheels.{AreWheels}
use Rattle.timer_wheels.specs.BucketLists.{row_timer, row_timers, entry_of, entries_of, pending_in, rows_below, EachRow}
use Rattle.timer_wheels.specs.Buckets.{state_of}
use Rattle.timer_wheels.specs.FirstDeadline.{HasDeadline, IsLeast, IsLeastDeadline}
use Rattle.timer_wheels.specs.Digits.{IsTable, HasDigits, weight, radix, level}
use Rattle.timer_wheels.specs.hier.Leap.{timer_visit}
use Rattle.timer_wheels.specs.smooth.Smooth.{slot_in, smooth_list, mark, IsSmooth}
use Rattle.timer_wheels.specs.smooth.WakeUps.{IsFirstFilledSlot, IsNotBefore, IsInPresent, IsFoundBelow, IsPendingDeadline, IsBegin}
use Rattle.timer_wheels.specs.Tables.{radices}
use Rattle.timer_wheels.specs.WakeUps.{next_visit}
use Rattle.timer_wheels.specs.declared.buckets.Buckets.{Buckets}
use Rattle.timer_wheels.proofs.bucket_lemmas.AllLemmas.{all-both, all-map, all-of_map}
use Rattle.timer_wheels.proofs.smooth_lemmas.Wheels.{lists_in_range}
use Rattle.timer_wheels.proofs.bucket_lemmas.DeadlineLemmas.{has-front, has-rest, next_is_least, least_is_next}
use Rattle.timer_wheels.proofs.table_lemmas.DigitLaws.{digits_down}
use Rattle.timer_wheels.proofs.bucket_lemmas.RowLemmas.{around, all-rows_below, rows_below-none, timers-append}
use Rattle.timer_wheels.proofs.smooth_lemmas.WakeUps.{placed, on_wheel, in_slot, not_before, each_with_rows, none_in}
use Rattle.timer_wheels.proofs.smooth_lemmas.Places.{weaker}
use Rattle.timer_wheels.proofs.smooth_lemmas.Skips.{tick_ahead, slots_later}
use Rattle.timer_wheels.proofs.smooth_lemmas.Slots.{slot_low, slots_mono}
use Rattle.timer_wheels.proofs.smooth_lemmas.Visits.{visit_by_slot, visit_mono, slot_begins_later, visit_of_begin}
use Rattle.timer_wheels.proofs.table_lemmas.TableLaws.{of_table}
use Rattle.timer_wheels.proofs.table_lemmas.VisitLaws.{visit_later, visit_in_time}

-- The earlier of two.

earlier_bound : (first : Option ℕ) (v d : ℕ) → IsNotBefore first d ⊎ (v ≤ d) → IsNotBefore (earliest first (Some v)) d
earlier_bound None v d (inl n) = absurd n
earlier_bound None v d (inr l) = l
earlier_bound (Some a) v d (inl n) = (let x : a ≤ d = n in omega arith)
earlier_bound (Some a) v d (inr l) = omega arith

earlier_has : (fact : ℕ → Type 0) (first : Option ℕ) (v : ℕ) → IfSome first fact → fact v → IfSome (earliest first (Some v)) fact
earlier_has fact None v h f = f
earlier_has fact (Some a) v h f = elim (cases_lt a v) [
  | inl l ↦ let e : min a v ≡ a = omega arith in subst fact (sym e) h
  | inr l ↦ let e : min a v ≡ v = omega arith in subst fact (sym e) f
]

-- a deadline of one list is one of all
pub has_in_list : (n s d : ℕ) (lists : KeyedLists) → s < n → s < length lists → HasDeadline d (row_timers (list_at s lists))
    → HasDeadline d (row_timers (rows_below n lists))
has_in_list n s d lists l b h =
    let a = around n s lists l b in
    let all : row_timers (rows_below n lists) ≡ row_timers a.front ++ (row_timers (list_at s lists) ++ row_timers a.rest) =
    ap row_timers a.rows ∙ (timers-append a.front (list_at s lists ++ a.rest)
    ∙ ap (λ (x : List Timer). row_timers a.front ++ x) (timers-append (list_at s lists) a.rest)) in
    subst (HasDeadline d) (sym all) (has-rest d (row_timers a.front) (row_timers (list_at s lists) ++ row_timers a.rest)
    (has-front d (row_timers (list_at s lists)) (row_timers a.rest) h))

-- what holds of each timer holds of one with a given deadline
pub deadline_of : (P : ℕ → Type 0) (rows : Rows) (d : ℕ) → AllByRecursion (λ row. P (row_timer row).deadline) rows → HasDeadline d (row_timers rows) → P d
deadline_of P [] d a h = absurd h
deadline_of P (x ∷ xs) d a (inl e) = subst P e a.0
deadline_of P (x ∷ xs) d a (inr h) = deadline_of P xs d a.1 h

module _ {N : Type 0} {kept : Ghosts N} (t : Table) (b : Buckets N kept) (words : List ℕ) (h : AreWheels t b words) where
  table : IsTable (radices t)
  table = (of_table t).is_table

  digits : HasDigits (radices t) b.last_tick
  digits = rw h.clock (of_table t).digits

  ranges : (j s : ℕ) → j < length (radices t) → smooth_list (radices t) j s < b.slots
  ranges j s l = rw h.has_slots (lists_in_range t j s l)

  -- what is known of the timers of one wheel
  abbrev pub OnWheel : ℕ → (ℕ → Type 0) → Type 0
  OnWheel w P = EachRow (λ s row. s ≡ smooth_list (radices t) w (slot_in (radices t) w (row_timer row).deadline)
      → P (row_timer row).deadline) b.slots b.links.lists

  on_rows : (w : ℕ) (P : ℕ → Type 0) → ((s : ℕ) → s < b.slots → 0 < length (list_at s b.links.lists) → (row : Row)
      → IsSmooth (radices t) b.tick (mark (radices t) b.tick b.links.lists) s row
      → s ≡ smooth_list (radices t) w (slot_in (radices t) w (row_timer row).deadline) → P (row_timer row).deadline) → OnWheel w P
  on_rows w P f s l = each_with_rows (IsSmooth (radices t) b.tick (mark (radices t) b.tick b.links.lists) s)
      (λ row. s ≡ smooth_list (radices t) w (slot_in (radices t) w (row_timer row).deadline) → P (row_timer row).deadline)
      (list_at s b.links.lists) (f s l) (placed t b words h s l)

  weaker_on : (w : ℕ) (P Q : ℕ → Type 0) → ((d : ℕ) → P d → Q d) → OnWheel w P → OnWheel w Q
  weaker_on w P Q f o s l = weaker
      (λ row. s ≡ smooth_list (radices t) w (slot_in (radices t) w (row_timer row).deadline) → P (row_timer row).deadline)
      (λ row. s ≡ smooth_list (radices t) w (slot_in (radices t) w (row_timer row).deadline) → Q (row_timer row).deadline)
      (list_at s b.links.lists) (λ row g e. f (row_timer row).deadline (g e)) (o s l)

  not_before_up : (first : Option ℕ) (v d : ℕ) → IsNotBefore first v → v ≤ d → IsNotBefore first d
  not_before_up None v d n l = absurd n
  not_before_up (Some a) v d n l = (let x : a ≤ v = n in omega arith)

  -- the timers of a wheel are not before its first slot
  slot_bound : (w slot : ℕ) → w < length (radices t) → IsFirstFilledSlot (radices t) b.tick w b.links.lists slot
      → OnWheel w (λ d. slot * weight w (radices t) ≤ d)
  slot_bound w slot l f = on_rows w (λ d. slot * weight w (radices t) ≤ d) (λ s m z row p e.
      let le : slot ≤ slot_in (radices t) w (row_timer row).deadline = not_before t b words h w slot s row f l e z p in
      let g : slot_in (radices t) w (row_timer row).deadline * weight w (radices t) ≤ (row_timer row).deadline =
      div-mul-le_self (row_timer row).deadline (weight w (radices t)) in
      let mono : slot * weight w (radices t) ≤ slot_in (radices t) w (row_timer row).deadline * weight w (radices t) =
      mul-le-mul_right (weight w (radices t)) le in
      omega arith)

  -- a tick in the present slot is before a deadline in a later one
  in_slots_before : (k first d : ℕ) → slot_in (radices t) k first ≤ slot_in (radices t) k b.tick → slot_in (radices t) k b.tick < slot_in (radices t) k d
      → first ≤ d
  in_slots_before k first d l a = elim (cases_lt d first) [
    | inl e ↦
        let m : slot_in (radices t) k d ≤ slot_in (radices t) k first = slots_later (radices t) k d first table (omega arith) in
        absurd (omega arith)
    | inr e ↦ e
  ]

  module _ (fact : ℕ → Type 0) where
    pub found_none : IsFoundBelow fact t b 0 None
    found_none = record {
      has = tt;
      least = λ s l. weaker (IsSmooth (radices t) b.tick (mark (radices t) b.tick b.links.lists) s)
          (λ row. (k : ℕ) → k < 0 → k < length (radices t)
          → s ≡ smooth_list (radices t) k (slot_in (radices t) k (row_timer row).deadline) → IsNotBefore None (row_timer row).deadline)
          (list_at s b.links.lists) (λ row p k a. absurd (omega arith)) (placed t b words h s l);
    }

    -- one wheel more
    more : (w : ℕ) (first second : Option ℕ) → IsFoundBelow fact t b w first → IfSome second fact
        → ((d : ℕ) → IsNotBefore first d → IsNotBefore second d) → OnWheel w (IsNotBefore second) → IsFoundBelow fact t b (w + 1) second
    more w first second f has low on = record {
      has = has;
      least = λ s m. all-both
          (λ row. (k : ℕ) → k < w → k < length (radices t)
          → s ≡ smooth_list (radices t) k (slot_in (radices t) k (row_timer row).deadline) → IsNotBefore first (row_timer row).deadline)
          (λ row. s ≡ smooth_list (radices t) w (slot_in (radices t) w (row_timer row).deadline) → IsNotBefore second (row_timer row).deadline)
          (λ row. (k : ℕ) → k < w + 1 → k < length (radices t)
          → s ≡ smooth_list (radices t) k (slot_in (radices t) k (row_timer row).deadline) → IsNotBefore second (row_timer row).deadline)
          (list_at s b.links.lists) (λ row p q k a n e. elim (cases_eq k w) [
            | inl y ↦ q (e ∙ ap (λ (x : ℕ). smooth_list (radices t) x (slot_in (radices t) x (row_timer row).deadline)) y)
            | inr x ↦ low (row_timer row).deadline (p k (omega arith) n e)
          ]) (f.least s m) (on s m);
    }

    pub found_with : (w v : ℕ) (first : Option ℕ) → IsFoundBelow fact t b w first → fact v → OnWheel w (λ d. v ≤ d)
        → IsFoundBelow fact t b (w + 1) (earliest first (Some v))
    found_with w v first f has on = more w first (earliest first (Some v)) f (earlier_has fact first v f.has has)
        (λ d n. earlier_bound first v d (inl n)) (weaker_on w (λ d. v ≤ d) (IsNotBefore (earliest first (Some v)))
        (λ d k. earlier_bound first v d (inr k)) on)

    pub found_without : (w : ℕ) (first : Option ℕ) → w < length (radices t) → IsFoundBelow fact t b w first
        → ((i : ℕ) → slot_in (radices t) w b.tick < i → i < slot_in (radices t) w b.tick + 2 * radix w (radices t)
        → list_at (smooth_list (radices t) w i) b.links.lists ≡ []) → IsFoundBelow fact t b (w + 1) first
    found_without w first l f none = more w first first f f.has (λ d n. n) (on_rows w (IsNotBefore first) (λ s m z row p e.
        let o = on_wheel t b words h s w (slot_in (radices t) w (row_timer row).deadline) row l e p in
        absurd (none_in (list_at s b.links.lists) z (ap (λ (x : ℕ). list_at x b.links.lists) e
        ∙ none (slot_in (radices t) w (row_timer row).deadline) o.ahead o.within))))

    -- a first deadline at or before the begin of a wheel's first slot stays the first
    pub found_skip : (w slot : ℕ) (first : Option ℕ) → w < length (radices t) → IsFoundBelow fact t b w first
        → IsFirstFilledSlot (radices t) b.tick w b.links.lists slot → IsNotBefore first (slot * weight w (radices t)) → IsFoundBelow fact t b (w + 1) first
    found_skip w slot first l f g n = more w first first f f.has (λ d k. k) (weaker_on w (λ d. slot * weight w (radices t) ≤ d) (IsNotBefore first)
        (λ d k. not_before_up first (slot * weight w (radices t)) d n k) (slot_bound w slot l g))

    -- a first tick in a wheel's present slot is before all timers of that wheel and of those above
    found_before : (w first : ℕ) → IsFoundBelow fact t b w (Some first) → slot_in (radices t) w first ≤ slot_in (radices t) w b.tick
        → IsFoundBelow fact t b (length (radices t)) (Some first)
    found_before w first f c = record {
      has = f.has;
      least = λ s m. all-both
          (λ row. (k : ℕ) → k < w → k < length (radices t)
          → s ≡ smooth_list (radices t) k (slot_in (radices t) k (row_timer row).deadline) → IsNotBefore (Some first) (row_timer row).deadline)
          (IsSmooth (radices t) b.tick (mark (radices t) b.tick b.links.lists) s)
          (λ row. (k : ℕ) → k < length (radices t) → k < length (radices t)
          → s ≡ smooth_list (radices t) k (slot_in (radices t) k (row_timer row).deadline) → IsNotBefore (Some first) (row_timer row).deadline)
          (list_at s b.links.lists) (λ row p q k a n e. elim (cases_lt k w) [
            | inl y ↦ p k y n e
            | inr y ↦ in_slots_before k first (row_timer row).deadline (slots_mono (radices t) w k b.tick first table y c)
                (on_wheel t b words h s k (slot_in (radices t) k (row_timer row).deadline) row n e q).ahead
          ]) (f.least s m) (placed t b words h s m);
    }

    pub found_rest : (w : ℕ) (first : Option ℕ) → IsFoundBelow fact t b w first → IsInPresent (radices t) w b.tick first
        → IsFoundBelow fact t b (length (radices t)) first
    found_rest w None f c = absurd c
    found_rest w (Some first) f c = found_before w first f c

  -- the timers of the first slot's list are in that slot
  in_first : (w slot : ℕ) → w < length (radices t) → IsFirstFilledSlot (radices t) b.tick w b.links.lists slot
      → AllByRecursion (λ row. slot_in (radices t) w (row_timer row).deadline ≡ slot) (list_at (smooth_list (radices t) w slot) b.links.lists)
  in_first w slot l f = weaker (IsSmooth (radices t) b.tick (mark (radices t) b.tick b.links.lists) (smooth_list (radices t) w slot))
      (λ row. slot_in (radices t) w (row_timer row).deadline ≡ slot) (list_at (smooth_list (radices t) w slot) b.links.lists)
      (λ row p. in_slot t b words h (smooth_list (radices t) w slot) w slot row l refl f.later f.near p)
      (placed t b words h (smooth_list (radices t) w slot) (ranges w slot l))

  -- some timer of that list
  record SomeIn (w slot : ℕ) : Type 0 where
    deadline : ℕ
    has : HasDeadline deadline (row_timers (list_at (smooth_list (radices t) w slot) b.links.lists))

  some_in : (w slot : ℕ) (rows : Rows) → list_at (smooth_list (radices t) w slot) b.links.lists ≡ rows → 0 < length rows → SomeIn w slot
  some_in w slot [] e z = absurd (omega arith)
  some_in w slot (x ∷ xs) e z = record {
    deadline = (row_timer x).deadline;
    has = subst (λ (r : Rows). HasDeadline (row_timer x).deadline (row_timers r)) (sym e) (inl refl);
  }

  pending_in_list : (w slot d : ℕ) → w < length (radices t) → HasDeadline d (row_timers (list_at (smooth_list (radices t) w slot) b.links.lists))
      → IsPendingDeadline b d
  pending_in_list w slot d l e = has_in_list b.slots (smooth_list (radices t) w slot) d b.links.lists (ranges w slot l)
      (let r = ranges w slot l in omega (arith, b.sound.has_lists)) e

  -- First deadlines.

  -- of the lowest wheel it is the slot
  pub found_low : (slot : ℕ) (first : Option ℕ) → IsFoundBelow (IsPendingDeadline b) t b 0 first
      → IsFirstFilledSlot (radices t) b.tick 0 b.links.lists slot → IsFoundBelow (IsPendingDeadline b) t b 1 (earliest first (Some slot))
  found_low slot first f g =
      let l : 0 < length (radices t) = (of_table t).more_wheels in
      let some = some_in 0 slot (list_at (smooth_list (radices t) 0 slot) b.links.lists) refl g.some in
      let e : slot_in (radices t) 0 some.deadline ≡ slot = deadline_of (λ d. slot_in (radices t) 0 d ≡ slot)
      (list_at (smooth_list (radices t) 0 slot) b.links.lists) some.deadline (in_first 0 slot l g) some.has in
      let q : some.deadline ≡ slot = sym (slot_low (radices t) some.deadline) ∙ e in
      found_with (IsPendingDeadline b) 0 slot first f (subst (IsPendingDeadline b) q (pending_in_list 0 slot some.deadline l some.has))
      (on_rows 0 (λ d. slot ≤ d) (λ s m z row p i.
      let le : slot ≤ slot_in (radices t) 0 (row_timer row).deadline = not_before t b words h 0 slot s row g l i z p in
      omega (arith, slot_low (radices t) (row_timer row).deadline)))

  -- of a higher one it is the least of the first slot's list
  least_on_wheel : (w slot v : ℕ) → w < length (radices t) → IsFirstFilledSlot (radices t) b.tick w b.links.lists slot
      → IsLeast v (row_timers (list_at (smooth_list (radices t) w slot) b.links.lists)) → OnWheel w (λ d. v ≤ d)
  least_on_wheel w slot v l f least s m = elim (cases_eq s (smooth_list (radices t) w slot)) [
    | inl q ↦ weaker (λ row. v ≤ (row_timer row).deadline)
        (λ row. s ≡ smooth_list (radices t) w (slot_in (radices t) w (row_timer row).deadline) → v ≤ (row_timer row).deadline)
        (list_at s b.links.lists) (λ row a e. a)
        (subst (λ (x : ℕ). AllByRecursion (λ row. v ≤ (row_timer row).deadline) (list_at x b.links.lists)) (sym q)
        (all-of_map row_timer (λ x. v ≤ x.deadline) (list_at (smooth_list (radices t) w slot) b.links.lists) least.none_earlier))
    | inr n ↦ each_with_rows (IsSmooth (radices t) b.tick (mark (radices t) b.tick b.links.lists) s)
        (λ row. s ≡ smooth_list (radices t) w (slot_in (radices t) w (row_timer row).deadline) → v ≤ (row_timer row).deadline)
        (list_at s b.links.lists) (λ z row p e.
        let le : slot ≤ slot_in (radices t) w (row_timer row).deadline = not_before t b words h w slot s row f l e z p in
        let apart : slot_in (radices t) w (row_timer row).deadline ≢ slot =
        λ (y : slot_in (radices t) w (row_timer row).deadline ≡ slot). n (e ∙ ap (smooth_list (radices t) w) y) in
        let v_in : slot_in (radices t) w v ≡ slot = deadline_of (λ d. slot_in (radices t) w d ≡ slot)
        (list_at (smooth_list (radices t) w slot) b.links.lists) v (in_first w slot l f) least.has in
        let later : v < (row_timer row).deadline = tick_ahead (radices t) w v (row_timer row).deadline table (omega arith) in
        omega arith) (placed t b words h s m)
  ]

  pub found_high : (w slot : ℕ) (first one : Option ℕ) → w < length (radices t) → IsFoundBelow (IsPendingDeadline b) t b w first
      → IsFirstFilledSlot (radices t) b.tick w b.links.lists slot
      → IsLeastDeadline one (row_timers (list_at (smooth_list (radices t) w slot) b.links.lists))
      → IsFoundBelow (IsPendingDeadline b) t b (w + 1) (earliest first one)
  found_high w slot first None l f g e = absurd (no_timers (list_at (smooth_list (radices t) w slot) b.links.lists) g.some e) where
    no_timers : (rows : Rows) → 0 < length rows → row_timers rows ≡ [] → ⊥
    no_timers [] z q = omega arith
    no_timers (x ∷ xs) z q = let y : suc (length (row_timers xs)) ≡ 0 = ap (λ (r : List Timer). length r) q in omega arith
  found_high w slot first (Some v) l f g e = found_with (IsPendingDeadline b) w v first f
      (pending_in_list w slot v l e.has) (least_on_wheel w slot v l g e)

  -- of all wheels
  each_row : (fact : ℕ → Type 0) (first : Option ℕ) → IsFoundBelow fact t b (length (radices t)) first
      → EachRow (λ s row. IsNotBefore first (row_timer row).deadline) b.slots b.links.lists
  each_row fact first f s l = all-both (IsSmooth (radices t) b.tick (mark (radices t) b.tick b.links.lists) s)
      (λ row. (k : ℕ) → k < length (radices t) → k < length (radices t)
      → s ≡ smooth_list (radices t) k (slot_in (radices t) k (row_timer row).deadline) → IsNotBefore first (row_timer row).deadline)
      (λ row. IsNotBefore first (row_timer row).deadline) (list_at s b.links.lists)
      (λ row p q. q p.on p.stands.wheel p.stands.wheel p.stands.at_list) (placed t b words h s l) (f.least s l)

  no_rows_of : (rows : Rows) → AllByRecursion (λ row. ⊥) rows → rows ≡ []
  no_rows_of [] a = refl
  no_rows_of (x ∷ xs) a = absurd a.0

  none_at_all : (fact : ℕ → Type 0) → IsFoundBelow fact t b (length (radices t)) None → rows_below b.slots b.links.lists ≡ []
  none_at_all fact f = rows_below-none b.slots b.links.lists (λ s l. no_rows_of (list_at s b.links.lists) (each_row fact None f s l))

  all_least : (v : ℕ) (fact : ℕ → Type 0) → IsFoundBelow fact t b (length (radices t)) (Some v)
      → AllByRecursion (λ row. v ≤ (row_timer row).deadline) (rows_below b.slots b.links.lists)
  all_least v fact f = all-rows_below (λ row. v ≤ (row_timer row).deadline) b.slots b.links.lists (each_row fact (Some v) f)

  least_found : (first : Option ℕ) → IsFoundBelow (IsPendingDeadline b) t b (length (radices t)) first
      → IsLeastDeadline first (row_timers (rows_below b.slots b.links.lists))
  least_found None f = ap row_timers (none_at_all (IsPendingDeadline b) f)
  least_found (Some v) f = record {
    has = f.has;
    none_earlier = all-map row_timer (λ x. v ≤ x.deadline) (rows_below b.slots b.links.lists) (all_least v (IsPendingDeadline b) f);
  }

  pub first_found : (first : Option ℕ) → IsFoundBelow (IsPendingDeadline b) t b (length (radices t)) first
      → first ≡ next_deadline (state_of b).pending
  first_found first f = least_is_next first (rows_below b.slots b.links.lists) (least_found first f)

  -- The next visit.

  pub found_begin : (w slot : ℕ) (first : Option ℕ) → w < length (radices t) → IsFoundBelow (IsBegin t b) t b w first
      → IsFirstFilledSlot (radices t) b.tick w b.links.lists slot → slot * weight w (radices t) ≤ b.last_tick
      → IsFoundBelow (IsBegin t b) t b (w + 1) (earliest first (Some (slot * weight w (radices t))))
  found_begin w slot first l f g r =
      let some = some_in w slot (list_at (smooth_list (radices t) w slot) b.links.lists) refl g.some in
      let e : slot_in (radices t) w some.deadline ≡ slot = deadline_of (λ d. slot_in (radices t) w d ≡ slot)
      (list_at (smooth_list (radices t) w slot) b.links.lists) some.deadline (in_first w slot l g) some.has in
      let a = g.later in
      let begins : timer_visit (radices t) b.tick (slot_in (radices t) w some.deadline * weight w (radices t))
      ≡ timer_visit (radices t) b.tick some.deadline = visit_of_begin (radices t) w b.tick some.deadline table (omega arith) in
      found_with (IsBegin t b) w (slot * weight w (radices t)) first f (record {
        later = slot_begins_later (radices t) w b.tick slot table g.later;
        in_range = r;
        deadline = some.deadline;
        has = pending_in_list w slot some.deadline l some.has;
        visit = ap (λ (x : ℕ). timer_visit (radices t) b.tick (x * weight w (radices t))) (sym e) ∙ begins;
      }) (slot_bound w slot l g)

  pub none_visited : IsFoundBelow (IsBegin t b) t b (length (radices t)) None → (state_of b).pending ≡ []
  none_visited f = ap pending_in (none_at_all (IsBegin t b) f)

  visit_of_first : (es : List Entry) (d : ℕ) → next_deadline es ≡ Some d → next_visit (radices t) b.tick es ≡ Some (timer_visit (radices t) b.tick d)
  visit_of_first [] d e = absurd (some_none d (sym e))
  visit_of_first (x ∷ xs) d e = ap (λ (k : ℕ). Some (timer_visit (radices t) b.tick k)) (some_same x.timer.deadline d e)

  some_of : (es : List Entry) (d : ℕ) → next_deadline es ≡ Some d → 0 < length es
  some_of [] d e = absurd (some_none d (sym e))
  some_of (x ∷ xs) d e = omega arith

  no_deadline : (d : ℕ) (ts : List Timer) → HasDeadline d ts → ts ≡ [] → ⊥
  no_deadline d [] i e = i
  no_deadline d (x ∷ xs) i e = let y : suc (length xs) ≡ 0 = ap (λ (r : List Timer). length r) e in omega arith

  pending_deadline_of : (P : ℕ → Type 0) (d : ℕ) → AllByRecursion (λ row. P (row_timer row).deadline) (rows_below b.slots b.links.lists)
      → IsPendingDeadline b d → P d
  pending_deadline_of P d a i = deadline_of P (rows_below b.slots b.links.lists) d a i

  module _ (begin : ℕ) (f : IsFoundBelow (IsBegin t b) t b (length (radices t)) (Some begin)) where
    -- the first deadline
    record HasFirst : Type 0 where
      deadline : ℕ
      is : next_deadline (state_of b).pending ≡ Some deadline
      least : IsLeast deadline (row_timers (rows_below b.slots b.links.lists))

    has_first : (o : Option ℕ) → next_deadline (state_of b).pending ≡ o → IsLeastDeadline o (row_timers (rows_below b.slots b.links.lists)) → HasFirst
    has_first None e l = absurd (no_deadline f.has.deadline (row_timers (rows_below b.slots b.links.lists)) f.has.has l)
    has_first (Some d) e l = record { deadline = d; is = e; least = l }

    first : HasFirst
    first = has_first (next_deadline (state_of b).pending) refl (next_is_least (rows_below b.slots b.links.lists))

    begins_first : begin ≤ first.deadline
    begins_first = pending_deadline_of (λ d. begin ≤ d) first.deadline (all_least begin (IsBegin t b) f) first.least.has

    is_first : first.deadline ≤ f.has.deadline
    is_first = pending_deadline_of (λ d. first.deadline ≤ d) f.has.deadline
        (all-of_map row_timer (λ x. first.deadline ≤ x.deadline) (rows_below b.slots b.links.lists) first.least.none_earlier) f.has.has

    visit_same : timer_visit (radices t) b.tick begin ≡ timer_visit (radices t) b.tick first.deadline
    visit_same =
        let l = f.has.later in
        let low : timer_visit (radices t) b.tick begin ≤ timer_visit (radices t) b.tick first.deadline =
        visit_mono (radices t) b.tick begin first.deadline table l begins_first in
        let high : timer_visit (radices t) b.tick first.deadline ≤ timer_visit (radices t) b.tick f.has.deadline =
        visit_mono (radices t) b.tick first.deadline f.has.deadline table (omega (arith, begins_first)) is_first in
        omega (arith, f.has.visit)

    begin_digits : HasDigits (radices t) begin
    begin_digits = digits_down (radices t) begin b.last_tick table f.has.in_range digits

    pub visit_is : (visit : ℕ) → visit ≡ slot_in (radices t) (level (radices t) b.tick begin) begin * weight (level (radices t) b.tick begin) (radices t)
        → Some visit ≡ next_visit (radices t) b.tick (state_of b).pending
    visit_is visit e = ap Some (e ∙ (visit_by_slot (radices t) b.tick begin table begin_digits f.has.later ∙ visit_same))
        ∙ sym (visit_of_first (state_of b).pending first.deadline first.is)

    pub visit_wakes : (visit : ℕ) → visit ≡ slot_in (radices t) (level (radices t) b.tick begin) begin * weight (level (radices t) b.tick begin) (radices t)
        → IsWakeUp visit b.tick (state_of b).pending
    visit_wakes visit e =
        let v : visit ≡ timer_visit (radices t) b.tick begin = e ∙ visit_by_slot (radices t) b.tick begin table begin_digits f.has.later in
        let early : visit ≤ begin = omega (arith, visit_in_time (radices t) b.tick begin table) in
        record {
          some = some_of (state_of b).pending first.deadline first.is;
          later = omega (arith, visit_later (radices t) b.tick begin table f.has.later);
          in_time = All-in_order timer_of (λ entry. visit ≤ entry.timer.deadline) (entries_of (rows_below b.slots b.links.lists))
              (all-map entry_of (λ entry. visit ≤ entry.timer.deadline) (rows_below b.slots b.links.lists)
              (weaker (λ row. begin ≤ (row_timer row).deadline) (λ row. visit ≤ (row_timer row).deadline) (rows_below b.slots b.links.lists)
              (λ row g. omega arith) (all_least begin (IsBegin t b) f)));
        }
