-- Lemmas about the next visit of a bucket, for every table of radices, and how many visits many ticks count.
use Rattle.std.proofs.Common.{◌≡◌, ◌≢◌, ℕ, ◌+◌, ◌-◌, ◌*◌, ◌/◌, ◌%◌, ◌<◌, ◌≤◌, suc, List, [], ◌∷◌, refl, sym, ◌∙◌, ap, inl, inr, arith}
use Rattle.std.proofs.lemmas.Bool.{cases_eq, cases_lt, eq-eqb, ne_eqb}
use Rattle.std.proofs.Math.Nat.{mul-le-mul_left, le-mul_of_pos_right, div-lt_iff_lt-mul}
use Rattle.timer_wheels.specs.Digits.{IsTable, HasDigits, level, lowest, slots_below, bucket, emptied, lowest_radix}
use Rattle.timer_wheels.proofs.table_lemmas.DigitLaws.{bucket_near, bucket_far, emptied_above, visit_here, visit_above, level_near, level_far, lowest_here, quotient_mono, less_quotient}
use Rattle.timer_wheels.specs.hier.Leap.{list_visit, timer_visit}

pub visit_near : (r : ℕ) (rs : List ℕ) (a d : ℕ) → a / r ≡ d / r → timer_visit (r ∷ rs) a d ≡ d
visit_near r rs a d e = rw (eq-eqb (a / r) (d / r) e) refl

pub visit_far : (r : ℕ) (rs : List ℕ) (a d : ℕ) → a / r ≢ d / r → timer_visit (r ∷ rs) a d ≡ r * timer_visit rs (a / r) (d / r)
visit_far r rs a d e = rw (ne_eqb (a / r) (d / r) e) refl

-- it is after now
pub visit_later : (table : List ℕ) (a d : ℕ) → IsTable table → a < d → a < timer_visit table a d
visit_later [] a d t h = h
visit_later (r ∷ rs) a d t h = elim (cases_eq (a / r) (d / r)) [
  | inl e ↦ rw (visit_near r rs a d e) h
  | inr e ↦
      let above : a < timer_visit rs (a / r) (d / r) * r =
      (div-lt_iff_lt-mul t.0).0 (visit_later rs (a / r) (d / r) t.1 (less_quotient r a d h t.0 e)) in
      rw (visit_far r rs a d e) (omega arith)
]

-- and not after the deadline
pub visit_in_time : (table : List ℕ) (a d : ℕ) → IsTable table → timer_visit table a d ≤ d
visit_in_time [] a d t = omega arith
visit_in_time (r ∷ rs) a d t = elim (cases_eq (a / r) (d / r)) [
  | inl e ↦ omega (arith, visit_near r rs a d e)
  | inr e ↦ omega (arith, t.0, visit_far r rs a d e, mul-le-mul_left r (visit_in_time rs (a / r) (d / r) t.1))
]

-- until then the timer keeps its level
pub level_stays : (table : List ℕ) (a b d : ℕ) → IsTable table → HasDigits table d → a < d → a ≤ b → b < timer_visit table a d
    → level table b d ≡ level table a d
level_stays [] a b d t i h k s = refl
level_stays (r ∷ rs) a b d t i h k s = elim (cases_eq (a / r) (d / r)) [
  | inl e ↦
      let s2 : b < d = rw (visit_near r rs a d e) at s in
      let same : b / r ≡ d / r = omega (arith, quotient_mono r a b t.0 k, quotient_mono r b d t.0 (omega arith)) in
      level_near r rs b d same ∙ sym (level_near r rs a d e)
  | inr e ↦
      let s2 : b < r * timer_visit rs (a / r) (d / r) = rw (visit_far r rs a d e) at s in
      let s3 : b / r < timer_visit rs (a / r) (d / r) = (div-lt_iff_lt-mul t.0).1 (omega arith) in
      let ih : level rs (b / r) (d / r) ≡ level rs (a / r) (d / r) =
      level_stays rs (a / r) (b / r) (d / r) t.1 i (less_quotient r a d h t.0 e) (quotient_mono r a b t.0 k) s3 in
      let apart : b / r ≢ d / r = omega (arith, visit_in_time rs (a / r) (d / r) t.1) in
      level_far r rs b d apart ∙ (ap (λ (x : ℕ). suc x) ih ∙ sym (level_far r rs a d e))
]

-- Lists.

-- a list that does not come after the timer's is not emptied later
pub list_first : (table : List ℕ) (l a d : ℕ) → IsTable table → HasDigits table d → a < d → l ≤ bucket table a d
    → list_visit table l a ≤ timer_visit table a d
list_first [] l a d t i h b = omega arith
list_first (r ∷ rs) l a d t i h b = elim (cases_eq (a / r) (d / r)) [
  | inl e ↦
      let z : 0 < r = t.0 in
      let c : bucket (r ∷ rs) a d ≡ d % r = bucket_near r rs a d e in
      rw (visit_near r rs a d e, visit_here r rs l a (omega arith)) (omega (arith, ap (λ (x : ℕ). r * x) e))
  | inr e ↦
      let c : bucket (r ∷ rs) a d ≡ r + bucket rs (a / r) (d / r) = bucket_far r rs a d e in
      let less : a / r < d / r = less_quotient r a d h t.0 e in
      elim (cases_lt l r) [
        | inl k ↦ rw (visit_far r rs a d e, visit_here r rs l a k)
            (omega (arith, mul-le-mul_left r (visit_later rs (a / r) (d / r) t.1 less)))
        | inr k ↦ rw (visit_far r rs a d e, visit_above r rs l a k)
            (mul-le-mul_left r (list_first rs (l - r) (a / r) (d / r) t.1 i less (omega arith)))
      ]
]

-- a list's tick is that of its timers
pub list_is : (table : List ℕ) (a d : ℕ) → IsTable table → HasDigits table d → a < d
    → list_visit table (bucket table a d) a ≡ timer_visit table a d
list_is [] a d t i h = absurd (let z : d ≡ 0 = i in omega arith)
list_is (r ∷ rs) a d t i h = elim (cases_eq (a / r) (d / r)) [
  | inl e ↦
      let z : 0 < r = t.0 in
      rw (bucket_near r rs a d e, visit_here r rs (d % r) a (omega arith), visit_near r rs a d e) (omega (arith, ap (λ (x : ℕ). r * x) e))
  | inr e ↦
      let ih : list_visit rs (bucket rs (a / r) (d / r)) (a / r) ≡ timer_visit rs (a / r) (d / r) =
      list_is rs (a / r) (d / r) t.1 i (less_quotient r a d h t.0 e) in
      let f : r + bucket rs (a / r) (d / r) - r ≡ bucket rs (a / r) (d / r) = omega arith in
      rw (bucket_far r rs a d e, visit_above r rs (r + bucket rs (a / r) (d / r)) a (omega arith), f, ih, visit_far r rs a d e) refl
]

-- a bucket below the lowest radix is of the lowest wheel
pub none_below : (table : List ℕ) (t : ℕ) → emptied table t < lowest_radix table → slots_below (lowest table t) table ≡ 0
none_below [] t h = refl
none_below (r ∷ rs) t h = elim (cases_eq (t % r) 0) [
  | inl e ↦ absurd (omega (arith, emptied_above r rs t e))
  | inr e ↦ rw (lowest_here r rs t e) refl
]

-- How many multiples of a radix lie after one tick and up to another.

-- between two multiples are at least the ticks between their quotients
spread : (r x y : ℕ) → 0 < r → x < y → r * x + r + (y - x - 1) ≤ r * y
spread r x y z h =
    let e : y ≡ x + 1 + (y - x - 1) = omega arith in
    let p : r * y ≡ r * (x + 1 + (y - x - 1)) = ap (λ (v : ℕ). r * v) e in
    omega (arith, le-mul_of_pos_right (y - x - 1) z)

pub few_multiples : (r a b : ℕ) → 0 < r → a < b → b / r - a / r ≤ b - a
few_multiples r a b z h = elim (cases_lt (a / r) (b / r)) [
  | inl k ↦ omega (arith, spread r (a / r) (b / r) z k)
  | inr k ↦ omega arith
]

-- and one more, if the last tick is not one of them
pub fewer_multiples : (r a b : ℕ) → 0 < r → a < b → b % r ≢ 0 → b / r - a / r + 1 ≤ b - a
fewer_multiples r a b z h n = elim (cases_lt (a / r) (b / r)) [
  | inl k ↦ omega (arith, spread r (a / r) (b / r) z k)
  | inr k ↦ omega arith
]
