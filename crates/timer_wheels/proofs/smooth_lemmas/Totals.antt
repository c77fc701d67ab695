-- Lemmas for `SmoothWheel`: its next buckets stay in time over a tick, and the sums of its paces and of its moves.
use Rattle.std.proofs.Common.{◌≡◌, ◌≢◌, ◌<◌, ◌≤◌, ◌+◌, ◌-◌, ◌*◌, ◌%◌, ℕ, zero, suc, List, [], ◌∷◌, length, refl, sym, ◌∙◌, ap, inl, inr, subst, arith}
use Rattle.std.proofs.Math.Nat.{div-mul-le_self, mul-le-mul_left, mul-le-mul_right, mul-mod_left}
use Rattle.std.proofs.lemmas.Bool.{cases_eq}
use Rattle.timer_base.specs.WheelState.{held_count}
use Rattle.timer_links.specs.Lists.{row_count}
use Rattle.timer_wheels.specs.Types.{LAST, Ghosts, list_at, KeyedLists, Rows, Table}
use Rattle.timer_wheels.specs.smooth.Wheels.{next_len}
use Rattle.timer_wheels.specs.BucketLists.{entry_of, rows_below}
use Rattle.timer_wheels.specs.Buckets.{state_of}
use Rattle.timer_wheels.specs.Digits.{IsTable, weight, lowest_radix}
use Rattle.timer_wheels.specs.smooth.Paces.{pace_at, FitPaces, AreInTime, HasMoved}
use Rattle.timer_wheels.specs.hier.Placement.{most_moves}
use Rattle.timer_wheels.specs.smooth.Smooth.{slot_in, next_list, heights, height, ticks_to_half}
use Rattle.timer_wheels.specs.Tables.{radices}
use Rattle.timer_wheels.specs.declared.buckets.Buckets.{Buckets}
use Rattle.timer_wheels.proofs.bucket_lemmas.Calls.{row_count-parts, length-pending_in}
use Rattle.timer_wheels.proofs.smooth_lemmas.Pace.{pace_tick, none_left}
use Rattle.timer_wheels.proofs.smooth_lemmas.Slots.{slots_step}
use Rattle.timer_wheels.proofs.smooth_lemmas.Weights.{weight_some, halves}
use Rattle.timer_wheels.proofs.table_lemmas.TableLaws.{of_table}
use Rattle.std.proofs.lemmas.List.{length-map}

-- A tick.

no_length : (rows : Rows) → length rows ≡ 0 → rows ≡ []
no_length [] e = refl
no_length (x ∷ xs) e = absurd (omega arith)

two_ticks : (t : Table) (k : ℕ) → 0 < k → 2 ≤ weight k (radices t)
two_ticks t k z = let h = halves t k (of_table t).is_table z in omega (arith, h.some, h.is)

-- a next bucket is empty before its slot begins
pub ticks_empty : {N : Type 0} {kept : Ghosts N} (t : Table) (old new : Buckets N kept) (paces paces2 : List ℕ) (k : ℕ) → AreInTime t old paces → new.tick ≡ old.tick
    → HasMoved t old new paces paces2 k → 0 < k → k < length (radices t)
    → slot_in (radices t) k (new.tick + 1) ≡ slot_in (radices t) k new.tick + 1
    → list_at (next_list (radices t) new.tick k) new.links.lists ≡ []
ticks_empty t old new paces paces2 k h e m z l s =
    let none : ticks_to_half (radices t) old.tick k ≡ 0 =
    ap (λ (x : ℕ). ticks_to_half (radices t) x k) (sym e) ∙ none_left (radices t) k new.tick (two_ticks t k z) s in
    let zero_product : pace_at paces k * ticks_to_half (radices t) old.tick k ≡ pace_at paces k * 0 = ap (λ (x : ℕ). pace_at paces k * x) none in
    no_length (list_at (next_list (radices t) new.tick k) new.links.lists) (omega (arith, h k z l, m.fewer))

-- a slot that is another one after a tick begins at it
begins : (table : List ℕ) (k a : ℕ) → IsTable table → slot_in table k (a + 1) ≡ slot_in table k a + 1
    → slot_in table k (a + 1) * weight k table ≡ a + 1
begins table k a i e =
    let w : 0 < weight k table = weight_some table k i in
    let from : slot_in table k (a + 1) * weight k table ≤ a + 1 = div-mul-le_self (a + 1) (weight k table) in
    let rest : a % weight k table < weight k table = omega arith in
    let parts : a ≡ weight k table * slot_in table k a + a % weight k table = omega arith in
    let next : slot_in table k (a + 1) * weight k table ≡ weight k table * slot_in table k a + weight k table =
    ap (λ (x : ℕ). x * weight k table) e ∙ (let q : (slot_in table k a + 1) * weight k table ≡ weight k table * slot_in table k a + weight k table = omega arith in q) in
    omega arith

pub in_time_ticked : {N : Type 0} {kept : Ghosts N} (t : Table) (old mid new : Buckets N kept) (paces paces2 paces3 : List ℕ) → AreInTime t old paces → mid.tick ≡ old.tick
    → ((k : ℕ) → 0 < k → k < length (radices t) → HasMoved t old mid paces paces2 k) → new.tick ≡ mid.tick + 1
    → ((k : ℕ) → 0 < k → k < length (radices t) → slot_in (radices t) k (mid.tick + 1) ≡ slot_in (radices t) k mid.tick
    → next_len t new k ≡ next_len t mid k)
    → ((k : ℕ) → 0 < k → k < length (radices t) → slot_in (radices t) k new.tick * weight k (radices t) ≡ new.tick
    → next_len t new k ≤ pace_at paces3 k * ticks_to_half (radices t) new.tick k)
    → ((k : ℕ) → slot_in (radices t) k new.tick * weight k (radices t) ≢ new.tick → pace_at paces3 k ≡ pace_at paces2 k)
    → AreInTime t new paces3
in_time_ticked t old mid new paces paces2 paces3 h e moved f kept begun others k z l =
    elim (cases_eq (slot_in (radices t) k new.tick * weight k (radices t)) new.tick) [
      | inl q ↦ begun k z l q
      | inr n ↦ elim (slots_step (radices t) k mid.tick (of_table t).is_table) [
        | inl same ↦ stays n same
        | inr next ↦ absurd (n (subst (λ (x : ℕ). slot_in (radices t) k x * weight k (radices t) ≡ x) (sym f)
            (begins (radices t) k mid.tick (of_table t).is_table next)))
      ]
    ]
  where
    stays : slot_in (radices t) k new.tick * weight k (radices t) ≢ new.tick
        → slot_in (radices t) k (mid.tick + 1) ≡ slot_in (radices t) k mid.tick
        → next_len t new k ≤ pace_at paces3 k * ticks_to_half (radices t) new.tick k
    stays n same =
        let m = moved k z l in
        let p : pace_at paces3 k ≡ pace_at paces2 k = others k n in
        let was : next_len t old k ≤ pace_at paces k * ticks_to_half (radices t) mid.tick k =
        subst (λ (x : ℕ). next_len t old k ≤ pace_at paces k * ticks_to_half (radices t) x k) (sym e) (h k z l) in
        let less : next_len t old k - pace_at paces k ≤ pace_at paces k * ticks_to_half (radices t) (mid.tick + 1) k =
        pace_tick (radices t) k mid.tick (next_len t old k) (pace_at paces k) same was in
        let c : next_len t new k ≡ next_len t mid k = kept k z l same in
        elim m.pace [
          | inl q ↦ subst (λ (x : ℕ). next_len t new k ≤ x * ticks_to_half (radices t) new.tick k) (sym (p ∙ q))
              (subst (λ (x : ℕ). next_len t new k ≤ pace_at paces k * ticks_to_half (radices t) x k) (sym f) (omega (arith, m.fewer)))
          | inr q ↦ (let none : next_len t mid k ≡ 0 = q.1 in omega arith)
        ]

-- a slot above the lowest wheel begins only at a rollover
pub begins_at_rollover : (table : List ℕ) (k tick : ℕ) → 0 < k → slot_in table k tick * weight k table ≡ tick → 0 < lowest_radix table
    → tick % lowest_radix table ≡ 0
begins_at_rollover [] k tick z e s = omega arith
begins_at_rollover (r ∷ rs) zero tick z e s = absurd (omega arith)
begins_at_rollover (r ∷ rs) (suc k) tick z e s =
    let p : tick ≡ slot_in (r ∷ rs) (suc k) tick * weight k rs * r =
    sym e ∙ (let q : slot_in (r ∷ rs) (suc k) tick * (r * weight k rs) ≡ slot_in (r ∷ rs) (suc k) tick * weight k rs * r = omega arith in q) in
    multiple (slot_in (r ∷ rs) (suc k) tick * weight k rs) r tick s p
  where
    multiple : (x r tick : ℕ) → 0 < r → tick ≡ x * r → tick % r ≡ 0
    multiple x r tick z p = rw p (mul-mod_left x r)

-- Timers that are held.

pub held_rows : {N : Type 0} {kept : Ghosts N} (b : Buckets N kept) → row_count b.links.lists ≡ held_count (state_of b)
held_rows b = omega (
  arith,
  row_count-parts b.slots b.links.lists b.sound.has_lists,
  length-pending_in (rows_below b.slots b.links.lists),
  length-map (list_at b.slots b.links.lists) entry_of,
)

-- Sums of moves.

product_mono : (a b c d : ℕ) → a ≤ c → b ≤ d → a * b ≤ c * d
product_mono a b c d h k =
    let e : a * b ≤ a * d = mul-le-mul_left a k in
    let f : a * d ≤ c * d = mul-le-mul_right d h in
    omega arith

pub paid_most : (t : Table) (starts last moves potential : ℕ) → starts ≤ last → last ≤ LAST
    → moves + potential ≤ most_moves (radices t) * starts → moves + potential ≤ 9 * LAST
paid_most t starts last moves potential a b c =
    omega (arith, product_mono (most_moves (radices t)) starts 9 LAST (of_table t).few_wheels (omega arith))

pub heights_none : (table : List ℕ) (n : ℕ) (lists : KeyedLists) → ((s : ℕ) → s < n → list_at s lists ≡ []) → heights table n lists ≡ 0
heights_none table zero lists f = refl
heights_none table (suc n) lists f =
    let e : height table n * length (list_at n lists) ≡ height table n * 0 = ap (λ (r : Rows). height table n * length r) (f n (omega arith)) in
    omega (arith, heights_none table n lists (λ s h. f s (omega arith)))

pub fit_lower : (table : List ℕ) (n : ℕ) (paces paces2 : List ℕ) → FitPaces table n paces → ((k : ℕ) → pace_at paces2 k ≤ pace_at paces k)
    → FitPaces table n paces2
fit_lower table n paces paces2 f l k = omega (arith, f k, l k)
