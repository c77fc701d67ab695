-- The number of a list determines its wheel and, among the slots that a wheel can have timers in, its slot.
use Rattle.std.proofs.Common.{◌≡◌, ◌<◌, ◌≤◌, ◌+◌, ◌*◌, ◌/◌, ◌%◌, ℕ, zero, suc, List, [], ◌∷◌, length, sym, ◌∙◌, ap, inl, inr, arith}
use Rattle.std.proofs.lemmas.Bool.{cases_eq, cases_lt}
use Rattle.timer_wheels.specs.Digits.{IsTable, radix}
use Rattle.timer_wheels.specs.smooth.Smooth.{slot_in, smooth_list, HasTurns}
use Rattle.std.proofs.Math.Nat.{mul-le-mul_left}
use Rattle.timer_wheels.proofs.table_lemmas.DigitLaws.{quotient_mono}
use Rattle.timer_wheels.proofs.smooth_lemmas.Slots.{slot_low, slot_up}

-- the slot on the wheel above
pub slot_above : (table : List ℕ) (k t : ℕ) → k < length table → slot_in table (suc k) t ≡ slot_in table k t / radix k table
slot_above [] k t h = absurd (omega arith)
slot_above (r ∷ rs) zero t h = slot_up r rs zero t ∙ (slot_low rs (t / r) ∙ ap (λ (x : ℕ). x / r) (sym (slot_low (r ∷ rs) t)))
slot_above (r ∷ rs) (suc k) t h = slot_up r rs (suc k) t ∙ (slot_above rs k (t / r) (omega arith)
    ∙ ap (λ (x : ℕ). x / radix k rs) (sym (slot_up r rs k t)))

pub radix_above : (table : List ℕ) (k : ℕ) → IsTable table → 0 < radix k table
radix_above [] k i = omega arith
radix_above (r ∷ rs) zero i = i.0
radix_above (r ∷ rs) (suc k) i = radix_above rs k i.1

-- a slot is less than two revolutions ahead, if on the wheel above it is in the present slot or the next one
within : (r a d : ℕ) → 0 < r → d / r ≤ a / r + 1 → d < a + 2 * r
within r a d z h =
    let m : d % r < r = omega arith in
    let n : d ≡ r * (d / r) + d % r = omega arith in
    let o : a ≡ r * (a / r) + a % r = omega arith in
    elim (cases_lt (a / r) (d / r)) [
      | inl l ↦
          let e : d / r ≡ a / r + 1 = omega arith in
          let p : r * (d / r) ≡ r * (a / r) + r = ap (λ (x : ℕ). r * x) e ∙ (let q : r * (a / r + 1) ≡ r * (a / r) + r = omega arith in q) in
          omega arith
      | inr l ↦ elim (cases_eq (d / r) (a / r)) [
        | inl e ↦ let p : r * (d / r) ≡ r * (a / r) = ap (λ (x : ℕ). r * x) e in omega arith
        | inr e ↦ elim (cases_lt d (a + 2 * r)) [
          | inl q ↦ q
          | inr q ↦ absurd (omega (arith, earlier r a d z (omega arith)))
        ]
      ]
    ] where
      earlier : (r a d : ℕ) → 0 < r → a ≤ d → a / r ≤ d / r
      earlier r a d z h = quotient_mono r a d z h

-- equal rests of numbers that are less than n apart
same_rest : (n a x y : ℕ) → 0 < n → a < x → a < y → x < a + n → y < a + n → x % n ≡ y % n → x ≡ y
same_rest n a x y z h1 h2 h3 h4 e = elim (cases_lt x y) [
  | inl l ↦ absurd (apart n x y z l (omega arith) e)
  | inr l ↦ elim (cases_lt y x) [
    | inl m ↦ absurd (apart n y x z m (omega arith) (sym e))
    | inr m ↦ omega arith
  ]
] where
  apart : (n x y : ℕ) → 0 < n → x < y → y < x + n → x % n ≡ y % n → ⊥
  apart n x y z l m e =
      let o : x ≡ n * (x / n) + x % n = omega arith in
      let p : y ≡ n * (y / n) + y % n = omega arith in
      elim (cases_lt (x / n) (y / n)) [
        | inl q ↦
            let w : n * suc (x / n) ≤ n * (y / n) = mul-le-mul_left n q in
            let v : n * suc (x / n) ≡ n * (x / n) + n = omega arith in
            omega arith
        | inr q ↦
            let w : n * (y / n) ≤ n * (x / n) = mul-le-mul_left n q in
            omega arith
      ]

pub same_rest_of : (n a x y : ℕ) → 0 < n → a < x → a < y → x < a + n → y < a + n → x % n ≡ y % n → x ≡ y
same_rest_of = same_rest

-- the list of a slot is one of its wheel's
in_wheel : (table : List ℕ) (k s : ℕ) → IsTable table → HasTurns table → k + 1 < length table → smooth_list table k s < 128 * (k + 1)
in_wheel table k s i h b =
    let r : 0 < radix k table = radix_above table k i in
    let m : s % (2 * radix k table) < 2 * radix k table = omega arith in
    omega (arith, h k b)

wheel_below : (table : List ℕ) (j k s u : ℕ) → IsTable table → HasTurns table → j < k → k < length table
    → smooth_list table j s ≡ smooth_list table k u → ⊥
wheel_below table j k s u i h l b e =
    let w = in_wheel table j s i h (omega arith) in
    omega arith

pub one_wheel : (table : List ℕ) (j k s u : ℕ) → IsTable table → HasTurns table → j < length table → k < length table
    → smooth_list table j s ≡ smooth_list table k u → j ≡ k
one_wheel table j k s u i h a b e = elim (cases_eq j k) [
  | inl q ↦ q
  | inr n ↦ elim (cases_lt j k) [
    | inl l ↦ absurd (wheel_below table j k s u i h l b e)
    | inr l ↦ absurd (wheel_below table k j u s i h (omega arith) a (sym e))
  ]
]

-- where a timer may stand on a wheel
pub record IsAhead (table : List ℕ) (now k d : ℕ) : Type 0 where
  pub wheel : k < length table
  pub ahead : slot_in table k now < slot_in table k d
  pub near : slot_in table (suc k) d ≤ slot_in table (suc k) now + 1

pub ahead_within : (table : List ℕ) (now k d : ℕ) → IsTable table → IsAhead table now k d
    → slot_in table k d < slot_in table k now + 2 * radix k table
ahead_within table now k d i a = within (radix k table) (slot_in table k now) (slot_in table k d) (radix_above table k i)
    (omega (arith, a.near, slot_above table k d a.wheel, slot_above table k now a.wheel))

pub one_slot : (table : List ℕ) (now k d e : ℕ) → IsTable table → IsAhead table now k d → IsAhead table now k e
    → smooth_list table k (slot_in table k d) ≡ smooth_list table k (slot_in table k e) → slot_in table k d ≡ slot_in table k e
one_slot table now k d e i a b q = same_rest (2 * radix k table) (slot_in table k now) (slot_in table k d) (slot_in table k e)
    (omega (arith, radix_above table k i)) a.ahead b.ahead (ahead_within table now k d i a) (ahead_within table now k e i b) (omega arith)
