-- Lemmas about digits, levels and buckets, for every table of radices.
use Rattle.std.proofs.Common.{sym, ◌∙◌, ap, inl, inr, arith, ◌≡◌, ◌≢◌, ◌⊎◌, ℕ, ◌+◌, ◌-◌, ◌*◌, ◌/◌, ◌%◌, ◌<◌, ◌≤◌, zero, suc, List, [], ◌∷◌, length, refl, nat_lt, ◌==◌, if◌then◌else◌}
use Rattle.std.proofs.lemmas.Bool.{cases_eq, cases_lt, eq-eqb, ne_eqb}
use Rattle.std.proofs.lemmas.Bool.Decides.{nat_tests}
use Rattle.std.proofs.lemmas.Nat.{le-div}
use Rattle.std.proofs.Math.Nat.{mul-add-div, mul-add-mod_self_left, div-eq_of_lt, mod-eq_of_lt}
use Rattle.timer_base.proofs.Basics.{either}
use Rattle.timer_base.specs.declared.limits.TheConstants.{LAST}
use Rattle.timer_wheels.specs.declared.table.TheConstants.{MOST_BUCKETS}
use Rattle.timer_wheels.specs.Digits.{IsTable, HasDigits, digit, radix, level, lowest, slots_below, slots, list_of_slot, bucket, emptied, IsHighest, IsLowest, BucketAtTick, last_of, lowest_radix}
use Rattle.timer_wheels.specs.hier.Leap.{list_visit}
use Rattle.timer_wheels.specs.hier.Placement.{most_moves}
use Rattle.timer_wheels.specs.smooth.Smooth.{smooth_slots, HasTurns}
use Rattle.timer_wheels.specs.declared.smooth.slot_lists.TheConstants.{MOST_LISTS}

-- Quotients by a radix.

pub quotient_is : (r q m x : ℕ) → m < r → x ≡ r * q + m → x / r ≡ q
quotient_is r q m x h e = rw (e, mul-add-div (let z : 0 < r = omega arith in z) q m, div-eq_of_lt h) (omega arith)

pub rest_is : (r q m x : ℕ) → m < r → x ≡ r * q + m → x % r ≡ m
rest_is r q m x h e = rw (e, mul-add-mod_self_left r q m, mod-eq_of_lt h) refl

same_parts : (r x y : ℕ) → 0 < r → x / r ≡ y / r → x % r ≡ y % r → x ≡ y
same_parts r x y z e h = let p : r * (x / r) ≡ r * (y / r) = ap (λ (v : ℕ). r * v) e in omega arith

-- the next number has the same quotient, or it is a multiple and has the next one
next : (r a : ℕ) → 0 < r → (((a + 1) % r ≢ 0) × ((a + 1) / r ≡ a / r)) ⊎ (((a + 1) % r ≡ 0) × ((a + 1) / r ≡ a / r + 1))
next r a z = elim (cases_lt (a % r + 1) r) [
  | inl l ↦
      let n : (a + 1) % r ≡ a % r + 1 = rest_is r (a / r) (a % r + 1) (a + 1) l (omega arith) in
      inl (omega arith, quotient_is r (a / r) (a % r + 1) (a + 1) l (omega arith))
  | inr l ↦ inr (rest_is r (a / r + 1) 0 (a + 1) z (omega arith), quotient_is r (a / r + 1) 0 (a + 1) z (omega arith))
]

same_quotient : (r a : ℕ) → 0 < r → (a + 1) % r ≢ 0 → (a + 1) / r ≡ a / r
same_quotient r a z h = elim (next r a z) [ inl y ↦ y.1 | inr y ↦ absurd (h y.0) ]

next_quotient : (r a : ℕ) → 0 < r → (a + 1) % r ≡ 0 → (a + 1) / r ≡ a / r + 1
next_quotient r a z h = elim (next r a z) [ inl y ↦ absurd (y.0 h) | inr y ↦ y.1 ]

pub quotient_mono : (r a d : ℕ) → 0 < r → a ≤ d → a / r ≤ d / r
quotient_mono r a d z h = le-div (a / r) d r z (omega arith)

pub less_quotient : (r a d : ℕ) → a < d → 0 < r → a / r ≢ d / r → a / r < d / r
less_quotient r a d h z n = omega (arith, quotient_mono r a d z (omega arith))

below_multiple : (r a d : ℕ) → 0 < r → a < d → (a + 1) % r ≡ 0 → a / r < d / r
below_multiple r a d z h m = omega (arith, next_quotient r a z m, quotient_mono r (a + 1) d z (omega arith))

pub quotient_not_zero : (r t : ℕ) → 0 < r → t ≢ 0 → t % r ≡ 0 → t / r ≢ 0
quotient_not_zero r t z n e = λ (x : t / r ≡ 0). let p : r * (t / r) ≡ r * 0 = ap (λ (v : ℕ). r * v) x in n (omega arith)

-- A table with one more wheel. If the quotients are equal, the level is the lowest, else it is a level above.

pub level_near : (r : ℕ) (rs : List ℕ) (a b : ℕ) → a / r ≡ b / r → level (r ∷ rs) a b ≡ 0
level_near r rs a b e = rw (eq-eqb (a / r) (b / r) e) refl

pub level_far : (r : ℕ) (rs : List ℕ) (a b : ℕ) → a / r ≢ b / r → level (r ∷ rs) a b ≡ suc (level rs (a / r) (b / r))
level_far r rs a b e = rw (ne_eqb (a / r) (b / r) e) refl

pub lowest_here : (r : ℕ) (rs : List ℕ) (t : ℕ) → t % r ≢ 0 → lowest (r ∷ rs) t ≡ 0
lowest_here r rs t e = rw (ne_eqb (t % r) 0 e) refl

pub lowest_above : (r : ℕ) (rs : List ℕ) (t : ℕ) → t % r ≡ 0 → lowest (r ∷ rs) t ≡ suc (lowest rs (t / r))
lowest_above r rs t e = rw (eq-eqb (t % r) 0 e) refl

-- the bucket follows from the level
pub bucket_by_level : (table : List ℕ) (a d k : ℕ) → level table a d ≡ k → bucket table a d ≡ list_of_slot table k (digit table k d)
bucket_by_level table a d k e = ap (λ (v : ℕ). list_of_slot table v (digit table v d)) e

pub bucket_near : (r : ℕ) (rs : List ℕ) (a d : ℕ) → a / r ≡ d / r → bucket (r ∷ rs) a d ≡ d % r
bucket_near r rs a d e = bucket_by_level (r ∷ rs) a d 0 (level_near r rs a d e) ∙ omega arith

pub bucket_far : (r : ℕ) (rs : List ℕ) (a d : ℕ) → a / r ≢ d / r → bucket (r ∷ rs) a d ≡ r + bucket rs (a / r) (d / r)
bucket_far r rs a d e = bucket_by_level (r ∷ rs) a d (suc (level rs (a / r) (d / r))) (level_far r rs a d e) ∙ omega arith

-- a bucket below the lowest radix is a slot of the lowest wheel
pub lowest_bucket : (r : ℕ) (rs : List ℕ) (a d : ℕ) → bucket (r ∷ rs) a d < r → (a / r ≡ d / r) × (bucket (r ∷ rs) a d ≡ d % r)
lowest_bucket r rs a d h = elim (cases_eq (a / r) (d / r)) [
  | inl e ↦ (e, bucket_near r rs a d e)
  | inr e ↦ absurd (omega (arith, bucket_far r rs a d e))
]

pub emptied_here : (r : ℕ) (rs : List ℕ) (t : ℕ) → t % r ≢ 0 → emptied (r ∷ rs) t ≡ t % r
emptied_here r rs t e = ap (λ (v : ℕ). list_of_slot (r ∷ rs) v (digit (r ∷ rs) v t)) (lowest_here r rs t e) ∙ omega arith

pub emptied_above : (r : ℕ) (rs : List ℕ) (t : ℕ) → t % r ≡ 0 → emptied (r ∷ rs) t ≡ r + emptied rs (t / r)
emptied_above r rs t e = ap (λ (v : ℕ). list_of_slot (r ∷ rs) v (digit (r ∷ rs) v t)) (lowest_above r rs t e) ∙ omega arith

pub visit_here : (r : ℕ) (rs : List ℕ) (l now : ℕ) → l < r → list_visit (r ∷ rs) l now ≡ r * (now / r) + l
visit_here r rs l now h = elim (either (nat_lt l r)) [ inl k ↦ rw k refl | inr k ↦ absurd (grind (arith, nat_tests)) ]

pub visit_above : (r : ℕ) (rs : List ℕ) (l now : ℕ) → r ≤ l → list_visit (r ∷ rs) l now ≡ r * list_visit rs (l - r) (now / r)
visit_above r rs l now h = elim (either (nat_lt l r)) [ inl k ↦ absurd (grind (arith, nat_tests)) | inr k ↦ rw k refl ]

-- What is in range.

-- a lower number has digits too
pub digits_down : (table : List ℕ) (a d : ℕ) → IsTable table → a ≤ d → HasDigits table d → HasDigits table a
digits_down [] a d t h hd = let e : d ≡ 0 = hd in omega arith
digits_down (r ∷ rs) a d t h hd = digits_down rs (a / r) (d / r) t.1 (quotient_mono r a d t.0 h) hd

nothing_above : (a d : ℕ) → a < d → HasDigits [] d → ⊥
nothing_above a d h e = let z : d ≡ 0 = e in omega arith

-- the level is the number of a digit
pub level_in_table : (table : List ℕ) (a d : ℕ) → IsTable table → HasDigits table d → a < d → level table a d < length table
level_in_table [] a d i h l = absurd (nothing_above a d l h)
level_in_table (r ∷ rs) a d i h l = elim (cases_eq (a / r) (d / r)) [
  | inl e ↦ omega (arith, level_near r rs a d e)
  | inr e ↦ omega (arith, level_far r rs a d e, level_in_table rs (a / r) (d / r) i.1 h (less_quotient r a d l i.0 e))
]

bucket_in_range : (table : List ℕ) (a d : ℕ) → IsTable table → HasDigits table d → a < d → bucket table a d < slots table
bucket_in_range [] a d i h l = absurd (nothing_above a d l h)
bucket_in_range (r ∷ rs) a d i h l = elim (cases_eq (a / r) (d / r)) [
  | inl e ↦ omega (arith, i.0, bucket_near r rs a d e)
  | inr e ↦ omega (arith, bucket_far r rs a d e, bucket_in_range rs (a / r) (d / r) i.1 h (less_quotient r a d l i.0 e))
]

pub lowest-bound : (table : List ℕ) (t : ℕ) → IsTable table → HasDigits table t → t ≢ 0 → lowest table t < length table
lowest-bound [] t i h n = absurd (n h)
lowest-bound (r ∷ rs) t i h n = elim (cases_eq (t % r) 0) [
  | inl e ↦ omega (arith, lowest_above r rs t e, lowest-bound rs (t / r) i.1 h (quotient_not_zero r t i.0 n e))
  | inr e ↦ omega (arith, lowest_here r rs t e)
]

pub emptied_in_range : (table : List ℕ) (t : ℕ) → IsTable table → HasDigits table t → t ≢ 0 → emptied table t < slots table
emptied_in_range [] t i h n = absurd (n h)
emptied_in_range (r ∷ rs) t i h n = elim (cases_eq (t % r) 0) [
  | inl e ↦ omega (arith, emptied_above r rs t e, emptied_in_range rs (t / r) i.1 h (quotient_not_zero r t i.0 n e))
  | inr e ↦ omega (arith, i.0, emptied_here r rs t e)
]

-- The bucket of a pending timer at one tick: a is the tick before, d the deadline.

module _ (r : ℕ) (rs : List ℕ) (a d : ℕ) (z : 0 < r) (l : a < d) (b : bucket (r ∷ rs) a d < slots (r ∷ rs)) where
  -- the tick is no multiple of the lowest radix: a slot of the lowest wheel is emptied, and what is in it is due
  inner : (a + 1) % r ≢ 0 → BucketAtTick (r ∷ rs) a d
  inner m =
      let q : (a + 1) / r ≡ a / r = same_quotient r a z m in
      let out : emptied (r ∷ rs) (a + 1) ≡ (a + 1) % r = emptied_here r rs (a + 1) m in
      let same : level (r ∷ rs) (a + 1) d ≡ level (r ∷ rs) a d =
      ap (λ (x : ℕ). if x == (d / r) then 0 else suc (level rs x (d / r))) q in
      record {
        in_range = b;
        not_below = rw (lowest_here r rs (a + 1) m) (omega arith);
        falls = omega arith;
        is = elim (cases_eq d (a + 1)) [
          | inl e ↦
              let near : a / r ≡ d / r = sym (ap (λ (x : ℕ). x / r) e ∙ q) in
              inl (bucket_near r rs a d near ∙ (ap (λ (x : ℕ). x % r) e ∙ sym out), inl e)
          | inr e ↦ inr (
            (λ (g : bucket (r ∷ rs) a d ≡ emptied (r ∷ rs) (a + 1)).
                let w = lowest_bucket r rs a d (omega arith) in
                e (same_parts r d (a + 1) z (sym (q ∙ w.0)) (sym w.1 ∙ (g ∙ out)))),
            (e, (same, bucket_by_level (r ∷ rs) (a + 1) d (level (r ∷ rs) a d) same)),
          )
        ];
      }

  -- the tick is a multiple of it: one of the wheels above is emptied
  outer : (a + 1) % r ≡ 0 → BucketAtTick rs (a / r) (d / r) → BucketAtTick (r ∷ rs) a d
  outer m ih =
      let q : (a + 1) / r ≡ a / r + 1 = next_quotient r a z m in
      let apart : a / r ≢ d / r = omega (arith, below_multiple r a d z l m) in
      let low : lowest (r ∷ rs) (a + 1) ≡ suc (lowest rs (a / r + 1)) =
      lowest_above r rs (a + 1) m ∙ ap (λ (x : ℕ). suc (lowest rs x)) q in
      let out : emptied (r ∷ rs) (a + 1) ≡ r + emptied rs (a / r + 1) =
      emptied_above r rs (a + 1) m ∙ ap (λ (x : ℕ). r + emptied rs x) q in
      let b1 : bucket (r ∷ rs) a d ≡ r + bucket rs (a / r) (d / r) = bucket_far r rs a d apart in
      let l1 : level (r ∷ rs) a d ≡ suc (level rs (a / r) (d / r)) = level_far r rs a d apart in
      let above : slots_below (lowest (r ∷ rs) (a + 1)) (r ∷ rs) ≤ bucket (r ∷ rs) a d = rw low (omega (arith, ih.not_below)) in
      elim (cases_eq ((a + 1) / r) (d / r)) [
        | inl e ↦
            let b2 : bucket (r ∷ rs) (a + 1) d ≡ d % r = bucket_near r rs (a + 1) d e in
            let l2 : level (r ∷ rs) (a + 1) d ≡ 0 = level_near r rs (a + 1) d e in
            let here : bucket rs (a / r) (d / r) ≡ emptied rs (a / r + 1) =
            elim ih.is [ inl y ↦ y.0 | inr y ↦ absurd (y.1.0 (sym e ∙ q)) ] in
            record {
              in_range = b;
              not_below = above;
              falls = omega arith;
              is = inl (omega arith, inr (omega arith, rw low (omega arith)));
            }
        | inr e ↦
            let b2 : bucket (r ∷ rs) (a + 1) d ≡ r + bucket rs (a / r + 1) (d / r) =
            bucket_far r rs (a + 1) d e ∙ ap (λ (x : ℕ). r + bucket rs x (d / r)) q in
            let l2 : level (r ∷ rs) (a + 1) d ≡ suc (level rs (a / r + 1) (d / r)) =
            level_far r rs (a + 1) d e ∙ ap (λ (x : ℕ). suc (level rs x (d / r))) q in
            record {
              in_range = b;
              not_below = above;
              falls = omega (arith, ih.falls);
              is = elim ih.is [
                | inl y ↦ inl (
                  omega (arith, y.0),
                  inr (elim y.1 [
                    | inl f ↦ absurd (e (q ∙ sym f))
                    | inr f ↦ (omega (arith, f.0), rw low (omega (arith, f.1)))
                  ]),
                )
                | inr y ↦ inr (
                  (λ (g : bucket (r ∷ rs) a d ≡ emptied (r ∷ rs) (a + 1)). y.0 (omega arith)),
                  ((λ (g : d ≡ a + 1). e (ap (λ (x : ℕ). x / r) (sym g))), (omega (arith, y.1.1.0), omega (arith, y.1.1.1))),
                )
              ];
            }
      ]

pub bucket_at_tick : (table : List ℕ) (a d : ℕ) → IsTable table → HasDigits table d → a < d → BucketAtTick table a d
bucket_at_tick [] a d i h l = absurd (nothing_above a d l h)
bucket_at_tick (r ∷ rs) a d i h l =
    let b : bucket (r ∷ rs) a d < slots (r ∷ rs) = bucket_in_range (r ∷ rs) a d i h l in
    elim (cases_eq ((a + 1) % r) 0) [
      | inl e ↦ outer r rs a d i.0 l b e (bucket_at_tick rs (a / r) (d / r) i.1 h (below_multiple r a d i.0 l e))
      | inr e ↦ inner r rs a d i.0 l b e
    ]

-- The level is the highest digit that differs.

highest_near : (r : ℕ) (rs : List ℕ) (a b : ℕ) → 0 < r → a ≢ b → a / r ≡ b / r → IsHighest (r ∷ rs) a b 0
highest_near r rs a b z n e = record {
  differs = λ (x : a % r ≡ b % r). n (same_parts r a b z e x);
  above = above;
} where
  above : (j : ℕ) → 0 < j → digit (r ∷ rs) j a ≡ digit (r ∷ rs) j b
  above zero h = absurd (omega arith)
  above (suc j) h = ap (digit rs j) e

highest_far : (r : ℕ) (rs : List ℕ) (a b k : ℕ) → IsHighest rs (a / r) (b / r) k → IsHighest (r ∷ rs) a b (suc k)
highest_far r rs a b k ih = record { differs = ih.differs; above = above } where
  above : (j : ℕ) → suc k < j → digit (r ∷ rs) j a ≡ digit (r ∷ rs) j b
  above zero h = absurd (omega arith)
  above (suc j) h = ih.above j (omega arith)

pub level_is_highest : (table : List ℕ) (a b : ℕ) → IsTable table → HasDigits table a → HasDigits table b → a ≢ b
    → IsHighest table a b (level table a b)
level_is_highest [] a b t ha hb n = absurd (n (ha ∙ sym hb))
level_is_highest (r ∷ rs) a b t ha hb n = elim (cases_eq (a / r) (b / r)) [
  | inl e ↦ rw (level_near r rs a b e) (highest_near r rs a b t.0 n e)
  | inr e ↦ rw (level_far r rs a b e) (highest_far r rs a b (level rs (a / r) (b / r)) (level_is_highest rs (a / r) (b / r) t.1 ha hb e))
]

-- The lowest digit that is not zero.

lowest_at_suc : (r : ℕ) (rs : List ℕ) (t k : ℕ) → t % r ≡ 0 → IsLowest rs (t / r) k → IsLowest (r ∷ rs) t (suc k)
lowest_at_suc r rs t k e ih = record { not_zero = ih.not_zero; below = below } where
  below : (j : ℕ) → j < suc k → digit (r ∷ rs) j t ≡ 0
  below zero h = e
  below (suc j) h = ih.below j (omega arith)

pub lowest_is : (table : List ℕ) (t : ℕ) → IsTable table → HasDigits table t → t ≢ 0 → IsLowest table t (lowest table t)
lowest_is [] t i h n = absurd (n h)
lowest_is (r ∷ rs) t i h n = elim (cases_eq (t % r) 0) [
  | inl e ↦ rw (lowest_above r rs t e) (lowest_at_suc r rs t (lowest rs (t / r)) e
      (lowest_is rs (t / r) i.1 h (quotient_not_zero r t i.0 n e)))
  | inr e ↦ rw (lowest_here r rs t e) (record { not_zero = e; below = λ j h. absurd (omega arith) })
]

-- What a hierarchy of wheels requires of its table.

pub record IsHierTable (table : List ℕ) : Type 0 where
  pub is_table : IsTable table
  pub digits : HasDigits table (last_of table)
  pub few_slots : slots table ≤ MOST_BUCKETS
  pub in_range : last_of table ≤ LAST
  pub some_slots : 0 < lowest_radix table
  pub few_wheels : most_moves table ≤ 9
  pub more_wheels : 0 < length table
  -- and a smooth one
  pub turns : HasTurns table
  pub two : (k : ℕ) → k < length table → 2 ≤ radix k table
  pub few_lists : smooth_slots table ≤ MOST_LISTS
  pub many : 16 ≤ lowest_radix table
  pub even : lowest_radix table % 2 ≡ 0
