-- The pace of a smooth wheel: the next bucket of each wheel is empty before it begins to be the present one.
use Rattle.std.proofs.Common.{◌≡◌, ◌<◌, ◌≤◌, ◌+◌, ◌-◌, ◌*◌, ◌/◌, ◌%◌, ℕ, suc, List, sym, ◌∙◌, ap, inl, inr, arith}
use Rattle.std.proofs.Math.Nat.{mul-le-mul_right, div-mul-le_self}
use Rattle.std.proofs.lemmas.Nat.{le-div}
use Rattle.std.proofs.lemmas.Bool.{cases_eq}
use Rattle.timer_wheels.specs.Digits.{weight}
use Rattle.timer_wheels.specs.smooth.Smooth.{slot_in, ticks_to_half}

-- one more time
times_more : (p x y : ℕ) → x ≡ suc y → p * x ≡ p * y + p
times_more p x y e = ap (λ (z : ℕ). p * z) e ∙ (let m : p * suc y ≡ p * y + p = omega arith in m)

-- a tick within a slot moves as many as the pace, or all
pub pace_tick : (table : List ℕ) (k a c p : ℕ) → slot_in table k (a + 1) ≡ slot_in table k a → c ≤ p * ticks_to_half table a k
    → c - p ≤ p * ticks_to_half table (a + 1) k
pace_tick table k a c p e h =
    let q : (slot_in table k (a + 1) + 1) * weight k table ≡ (slot_in table k a + 1) * weight k table =
    ap (λ (x : ℕ). (x + 1) * weight k table) e in
    elim (cases_eq (ticks_to_half table a k) 0) [
      | inl z ↦
          let none : p * ticks_to_half table a k ≡ p * 0 = ap (λ (x : ℕ). p * x) z in
          let c0 : c ≡ 0 = omega arith in
          omega arith
      | inr n ↦
          let s : ticks_to_half table a k ≡ suc (ticks_to_half table (a + 1) k) = omega arith in
          omega (arith, times_more p (ticks_to_half table a k) (ticks_to_half table (a + 1) k) s)
    ]

-- before a tick that begins a slot no tick is left
pub none_left : (table : List ℕ) (k a : ℕ) → 2 ≤ weight k table → slot_in table k (a + 1) ≡ slot_in table k a + 1
    → ticks_to_half table a k ≡ 0
none_left table k a w e =
    let q : slot_in table k (a + 1) * weight k table ≡ (slot_in table k a + 1) * weight k table =
    ap (λ (x : ℕ). x * weight k table) e in
    let b : slot_in table k (a + 1) * weight k table ≤ a + 1 = div-mul-le_self (a + 1) (weight k table) in
    omega arith

-- the pace that is fixed as a bucket begins to be the next one is enough for all timers
pub pace_begun : (table : List ℕ) (k now n half : ℕ) → weight k table ≡ 2 * half → 0 < half → slot_in table k now * weight k table ≡ now
    → n ≤ 2 * (n / weight k table + 1) * ticks_to_half table now k
pace_begun table k now n half w z e =
    let wk : ℕ = weight k table in
    let q : (slot_in table k now + 1) * weight k table ≡ slot_in table k now * weight k table + weight k table = omega arith in
    let left : ticks_to_half table now k ≡ half = omega arith in
    let f : 2 * (n / weight k table + 1) * ticks_to_half table now k ≡ 2 * (n / weight k table + 1) * half =
    ap (λ (x : ℕ). 2 * (n / weight k table + 1) * x) left in
    let g : 2 * (n / weight k table + 1) * half ≡ (n / weight k table + 1) * (2 * half) = omega arith in
    let h : (n / weight k table + 1) * (2 * half) ≡ (n / weight k table + 1) * weight k table =
    ap (λ (x : ℕ). (n / weight k table + 1) * x) (sym w) in
    let i : (n / weight k table + 1) * weight k table ≡ weight k table * (n / weight k table) + weight k table = omega arith in
    let r : n % weight k table < weight k table = omega arith in
    omega arith

-- a next bucket gets no timers from a next bucket above it: that one's time is past its half
pub past_half : (table : List ℕ) (j k a d m : ℕ) → weight k table ≡ m * weight j table → 2 ≤ m → 0 < weight j table
    → slot_in table k d ≡ slot_in table k a + 1 → slot_in table j d ≡ slot_in table j a + 1 → ticks_to_half table a k ≡ 0
past_half table j k a d m w two z ek ej =
    let wj : ℕ = weight j table in
    let b : ℕ = (slot_in table k a + 1) * m in
    let begins : (slot_in table k a + 1) * weight k table ≡ b * weight j table =
    ap (λ (x : ℕ). (slot_in table k a + 1) * x) w ∙ (let t : (slot_in table k a + 1) * (m * weight j table) ≡ (slot_in table k a + 1) * m * weight j table = omega arith in t) in
    let there : slot_in table k d * weight k table ≡ (slot_in table k a + 1) * weight k table = ap (λ (x : ℕ). x * weight k table) ek in
    let from : slot_in table k d * weight k table ≤ d = div-mul-le_self d (weight k table) in
    let least : b ≤ slot_in table j d = le-div b d (weight j table) z (omega arith) in
    let most : b * weight j table ≤ (slot_in table j a + 1) * weight j table = mul-le-mul_right (weight j table) (omega arith) in
    let past : slot_in table j a * weight j table ≤ a = div-mul-le_self a (weight j table) in
    let more : (slot_in table j a + 1) * weight j table ≡ slot_in table j a * weight j table + weight j table = omega arith in
    let double : 2 * weight j table ≤ m * weight j table = mul-le-mul_right (weight j table) two in
    omega arith
