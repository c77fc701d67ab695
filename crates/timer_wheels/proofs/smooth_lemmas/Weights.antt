-- The weights of tables: how many ticks the slots of their wheels are.
use Rattle.std.proofs.Common.{◌≡◌, ◌<◌, ◌≤◌, ◌*◌, ◌/◌, ◌%◌, ℕ, zero, suc, List, [], ◌∷◌, length, refl, sym, ◌∙◌, ap, inl, inr, arith}
use Rattle.std.proofs.Math.Nat.{mul-le-mul_right, mul-le-mul_left, mul-div_cancel}
use Rattle.std.proofs.lemmas.Bool.{cases_eq}
use Rattle.timer_wheels.specs.Digits.{IsTable, weight, radix, lowest_radix}
use Rattle.timer_wheels.specs.smooth.Smooth.{slot_in}
use Rattle.timer_wheels.specs.Tables.{radices}
use Rattle.timer_wheels.specs.declared.table.Table.{Table}
use Rattle.timer_wheels.proofs.table_lemmas.TableLaws.{of_table}

pub weight_up : (table : List ℕ) (k : ℕ) → k < length table → weight (suc k) table ≡ radix k table * weight k table
weight_up [] k h = absurd (omega arith)
weight_up (r ∷ []) zero h = refl
weight_up (r ∷ s ∷ rs) zero h = refl
weight_up (r ∷ rs) (suc k) h =
    let e : weight (suc (suc k)) (r ∷ rs) ≡ r * (radix k rs * weight k rs) = ap (λ (x : ℕ). r * x) (weight_up rs k (omega arith)) in
    e ∙ (let f : r * (radix k rs * weight k rs) ≡ radix k rs * (r * weight k rs) = omega arith in f)

pub weight_some : (table : List ℕ) (k : ℕ) → IsTable table → 0 < weight k table
weight_some [] k i = omega arith
weight_some (r ∷ rs) zero i = omega arith
weight_some (r ∷ rs) (suc k) i = omega (arith, i.0, weight_some rs k i.1, mul-le-mul_left r (weight_some rs k i.1))

-- a slot of a wheel is at least two of a lower one
pub record IsMultiple (more less : ℕ) : Type 0 where
  pub by : ℕ
  pub two : 2 ≤ by
  pub is : more ≡ by * less

pub multiples : (t : Table) (j k : ℕ) → j < k → k < length (radices t) → IsMultiple (weight k (radices t)) (weight j (radices t))
multiples t j zero l h = absurd (omega arith)
multiples t j (suc k) l h =
    let r : 2 ≤ radix k (radices t) = (of_table t).two k (omega arith) in
    let up : weight (suc k) (radices t) ≡ radix k (radices t) * weight k (radices t) = weight_up (radices t) k (omega arith) in
    elim (cases_eq j k) [
      | inl e ↦ record {
        by = radix k (radices t);
        two = r;
        is = up ∙ ap (λ (x : ℕ). radix k (radices t) * weight x (radices t)) (sym e);
      }
      | inr n ↦
          let m = multiples t j k (omega arith) (omega arith) in
          record {
            by = radix k (radices t) * m.by;
            two = (let q : 2 * m.by ≤ radix k (radices t) * m.by = mul-le-mul_right m.by r in omega (arith, m.two));
            is = up ∙ (ap (λ (x : ℕ). radix k (radices t) * x) m.is
                ∙ (let q : radix k (radices t) * (m.by * weight j (radices t)) ≡ radix k (radices t) * m.by * weight j (radices t) = omega arith in q));
          }
    ]

-- where a slot of a wheel begins, one of each lower wheel does
pub begins_below : (t : Table) (j k tick : ℕ) → IsTable (radices t) → j ≤ k → k < length (radices t)
    → slot_in (radices t) k tick * weight k (radices t) ≡ tick → slot_in (radices t) j tick * weight j (radices t) ≡ tick
begins_below t j k tick i l h e = elim (cases_eq j k) [
  | inl same ↦ rw same e
  | inr other ↦
      let m = multiples t j k (omega arith) h in
      let p : slot_in (radices t) k tick * m.by * weight j (radices t) ≡ tick =
      (let q : slot_in (radices t) k tick * m.by * weight j (radices t) ≡ slot_in (radices t) k tick * (m.by * weight j (radices t)) = omega arith in q)
      ∙ (ap (λ (x : ℕ). slot_in (radices t) k tick * x) (sym m.is) ∙ e) in
      multiple (slot_in (radices t) k tick * m.by) (weight j (radices t)) tick (weight_some (radices t) j i) p
]
  where
    multiple : (x w tick : ℕ) → 0 < w → x * w ≡ tick → tick / w * w ≡ tick
    multiple x w tick z p = ap (λ (n : ℕ). n / w * w) (sym p) ∙ (ap (λ (n : ℕ). n * w) (mul-div_cancel x z) ∙ p)

-- a slot above the lowest wheel has two halves
pub record HasHalf (n : ℕ) : Type 0 where
  pub half : ℕ
  pub some : 0 < half
  pub is : n ≡ 2 * half

half_of : (r half : ℕ) (rs : List ℕ) (k : ℕ) → IsTable rs → r ≡ 2 * half → 0 < half → HasHalf (r * weight k rs)
half_of r half rs k i e z = record {
  half = half * weight k rs;
  some = omega (arith, z, weight_some rs k i, mul-le-mul_left half (weight_some rs k i));
  is = ap (λ (x : ℕ). x * weight k rs) e ∙ (let q : 2 * half * weight k rs ≡ 2 * (half * weight k rs) = omega arith in q);
}

halves_of : (table : List ℕ) (k : ℕ) → IsTable table → lowest_radix table % 2 ≡ 0 → 16 ≤ lowest_radix table → 0 < k → HasHalf (weight k table)
halves_of [] k i e m z = absurd (omega arith)
halves_of (r ∷ rs) zero i e m z = absurd (omega arith)
halves_of (r ∷ rs) (suc k) i e m z = half_of r (r / 2) rs k i.1 (omega arith) (omega arith)

pub halves : (t : Table) (k : ℕ) → IsTable (radices t) → 0 < k → HasHalf (weight k (radices t))
halves t k i z = halves_of (radices t) k i (of_table t).even (of_table t).many z
