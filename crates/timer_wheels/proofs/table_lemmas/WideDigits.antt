-- The digits, levels and visits of `Table::Wide`, by shifts and bit positions.
use Rattle.std.proofs.Common.{◌≡◌, ◌≢◌, ◌<◌, ◌≤◌, ◌+◌, ◌-◌, ◌*◌, ◌/◌, ◌%◌, ◌^◌, ℕ, zero, suc, Bool, true, ◌==◌, ◌&&◌, List, length, refl, sym, ◌∙◌, ap, inl, inr, arith, ◌↔◌}
use Rattle.std.proofs.lemmas.Bool.{cases_eq, cases_lt, and_parts, eqb-true}
use Rattle.std.proofs.lemmas.Nat.{xor_shr, xor_lt, pow-add, and_mask, leading_top, mod-pow-add, pow_pos, shr-shr, shr_le}
use Rattle.std.proofs.lemmas.Nat.Bits.{bit_at-trailing_zeros}
use Rattle.std.specs.Int.Bits.{bit_xor, bit_and, xor_self, xor_assoc, xor_zero_l, xor_zero_r}
use Rattle.std.proofs.Math.Nat.{div-div-eq-div-mul, pow-le-pow_right, pow-suc}
use Rattle.std.specs.Int.{w64, trailing_zeros, bit_at}
use Rattle.std.specs.Int.Count.{count_leading_zeros}
use Rattle.timer_wheels.specs.Digits.{copies, equals, AreFew, IsTable, HasDigits, digit, radix, weight, level, lowest, slots_below, list_of_slot, bucket, emptied}
use Rattle.timer_wheels.specs.hier.Leap.{list_visit}
use Rattle.timer_wheels.specs.smooth.Smooth.{slot_in, smooth_list}
use Rattle.timer_wheels.specs.Tables.{wide}
use Rattle.timer_wheels.proofs.table_lemmas.DigitLaws.{level_near, level_far, lowest_here, lowest_above, emptied_here, level_in_table, lowest-bound}
use Rattle.timer_wheels.proofs.table_lemmas.EqualDigits.{are_table, slots_below_is, radix_is, has_digits, slots_of_equals, last_by_bits, wheels_are, weight_by_bits, slot_by_bits, turns_are, turn_is, visit_by_bits}
use Rattle.timer_wheels.proofs.table_lemmas.SlotLaws.{list_by_slot}

-- a table of n digits in base 64
abbrev wides : ℕ → List ℕ
wides n = copies 64 n

wide_is : wide ≡ wides 10
unfolding wide
wide_is = refl

wide_is_equal : wide ≡ equals 6 10
unfolding wide equals
wide_is_equal = refl

ten_digits : AreFew 6 10
ten_digits = ((let h : 0 < 6 = omega arith in h), (let h : 6 ≤ 6 = omega arith in h), (let h : 0 < 10 = omega arith in h), (let h : 10 ≤ 10 = omega arith in h))

wide_is_table : IsTable wide
wide_is_table = rw wide_is (are_table 64 10 (let h : 0 < 64 = omega arith in h))

pub wide_length : length wide ≡ 10
unfolding wide
wide_length = refl

-- Six bits are a digit.

six_more : (n : ℕ) → 2 ^ (6 * suc n) ≡ 2 ^ (6 * n) * 64
six_more n = let e : 6 * suc n ≡ 6 * n + 6 = omega arith in ap (λ (k : ℕ). 2 ^ k) e ∙ pow-add 2 (6 * n) 6

split_pow : (j : ℕ) → 6 ≤ j → 2 ^ j ≡ 2 ^ (j - 6) * 64
split_pow j h = let e : j ≡ (j - 6) + 6 = omega arith in ap (λ (k : ℕ). 2 ^ k) e ∙ pow-add 2 (j - 6) 6

pow_mono : (i j : ℕ) → i ≤ j → 2 ^ i ≤ 2 ^ j
pow_mono i j h = pow-le-pow_right (let z : 0 < 2 = omega arith in z) h

-- the highest bit of a number is one of the lowest digit exactly if the number is below 64
small_top : (j x : ℕ) → 2 ^ j ≤ x → x < 64 → j < 6
small_top j x h b = elim (cases_lt j 6) [ inl k ↦ k | inr k ↦ absurd (omega (arith, pow_mono 6 j k)) ]

large_top : (j x : ℕ) → x < 2 ^ suc j → 64 ≤ x → 6 ≤ j
large_top j x h b = elim (cases_lt j 6) [ inl k ↦ absurd (omega (arith, pow_mono (suc j) 6 k)) | inr k ↦ k ]

-- The level by the highest bit.

equal_when : (a b : ℕ) → bit_xor a b ≡ 0 → a ≡ b
equal_when a b h = sym (xor_zero_r a) ∙ (ap (bit_xor a) (sym (xor_self b))
    ∙ (sym (xor_assoc a b b) ∙ (ap (λ (x : ℕ). bit_xor x b) h ∙ xor_zero_l b)))

differs : (a b : ℕ) → a / 64 ≢ b / 64 → 64 ≤ bit_xor a b
differs a b n = elim (cases_lt (bit_xor a b) 64) [
  | inl h ↦ absurd (n (equal_when (a / 64) (b / 64) (let e : bit_xor a b / 64 ≡ 0 = omega arith in sym (xor_shr a b 6) ∙ e)))
  | inr h ↦ h
]

-- of equal numbers no bit differs
none_differs : (a b : ℕ) → a ≡ b → bit_xor a b ≡ 0
none_differs a b e = ap (λ (x : ℕ). bit_xor x b) e ∙ xor_self b

top_level : (n a b j : ℕ) → HasDigits (wides n) a → HasDigits (wides n) b → 2 ^ j ≤ bit_xor a b → bit_xor a b < 2 ^ suc j
    → level (wides n) a b ≡ j / 6
top_level zero a b j ha hb lo hi = absurd (omega (arith, none_differs a b (ha ∙ sym hb), pow_pos j))
top_level (suc n) a b j ha hb lo hi =
    let shr : bit_xor a b / 64 ≡ bit_xor (a / 64) (b / 64) = xor_shr a b 6 in
    elim (cases_eq (a / 64) (b / 64)) [
      | inl e ↦
          let z : bit_xor (a / 64) (b / 64) ≡ 0 = none_differs (a / 64) (b / 64) e in
          let k : j < 6 = small_top j (bit_xor a b) lo (omega arith) in
          level_near 64 (wides n) a b e ∙ omega arith
      | inr e ↦
          let k : 6 ≤ j = large_top j (bit_xor a b) hi (differs a b e) in
          let p : 2 ^ j ≡ 2 ^ (j - 6) * 64 = split_pow j k in
          let r : suc j - 6 ≡ suc (j - 6) = omega arith in
          let q : 2 ^ suc j ≡ 2 ^ suc (j - 6) * 64 = split_pow (suc j) (omega arith) ∙ ap (λ (y : ℕ). 2 ^ y * 64) r in
          let ih : level (wides n) (a / 64) (b / 64) ≡ (j - 6) / 6 =
          top_level n (a / 64) (b / 64) (j - 6) ha hb (omega arith) (omega arith) in
          level_far 64 (wides n) a b e ∙ omega arith
    ]

in_wide : (t : ℕ) → t ≤ 1152921504606846975 → HasDigits wide t
in_wide t h = rw wide_is (has_digits 6 10 t (omega arith))

-- the highest bit in which two ticks differ
has_top : (a b : ℕ) → a < b → b ≤ 1152921504606846975
    → (j : ℕ) × (count_leading_zeros 64 (bit_xor a b) + suc j ≡ 64) × (2 ^ j ≤ bit_xor a b) × (bit_xor a b < 2 ^ suc j)
has_top a b h r =
    let x : bit_xor a b < 2 ^ 60 = xor_lt 60 a b (omega arith) (omega arith) in
    let nz : bit_xor a b ≢ 0 = λ (e : bit_xor a b ≡ 0). let q : a ≡ b = equal_when a b e in omega arith in
    leading_top 64 (bit_xor a b) (omega arith) (omega arith)

-- a bit of a number of 64 bits, divided by 6
sixth : (j : ℕ) → j ≤ 63 → j / 6 ≡ j * 43 / 256
sixth j h = omega arith

-- whether that bit is told by the zeros above it, for each number of these below n
abbrev are_turned : ℕ → Bool
are_turned zero = true
are_turned (suc n) = (bit_xor 63 n == 63 - n) && are_turned n

turned_below : (n z : ℕ) → are_turned n ≡ true → z < n → bit_xor 63 z ≡ 63 - z
turned_below zero z h b = absurd (omega arith)
turned_below (suc n) z h b = elim (cases_eq z n) [
  | inl e ↦ rw e (eqb-true (bit_xor 63 n) (63 - n) (and_parts (bit_xor 63 n == 63 - n) (are_turned n) h).0)
  | inr k ↦ turned_below n z (and_parts (bit_xor 63 n == 63 - n) (are_turned n) h).1 (omega arith)
]

turned : (z : ℕ) → z < 64 → bit_xor 63 z ≡ 63 - z
turned z b = turned_below 64 z refl b

-- the result of `leading_zeros`
pub level_by_top : (a b : ℕ) → a < b → b ≤ 1152921504606846975
    → level wide a b ≡ bit_xor 63 (count_leading_zeros 64 (bit_xor a b)) * 43 / 256
level_by_top a b h r =
    let t = has_top a b h r in
    let z : count_leading_zeros 64 (bit_xor a b) + suc t.0 ≡ 64 = t.1 in
    let e : level (wides 10) a b ≡ t.0 / 6 = top_level 10 a b t.0 (has_digits 6 10 a (omega arith)) (has_digits 6 10 b (omega arith)) t.2 t.3 in
    let top : t.0 ≡ bit_xor 63 (count_leading_zeros 64 (bit_xor a b)) =
    omega (arith, turned (count_leading_zeros 64 (bit_xor a b)) (omega arith)) in
    rw wide_is (e ∙ (sixth t.0 (omega arith) ∙ ap (λ (y : ℕ). y * 43 / 256) top))

pub top_bound : (a b : ℕ) → a < b → b ≤ 1152921504606846975 → bit_xor 63 (count_leading_zeros 64 (bit_xor a b)) ≤ 63
top_bound a b h r =
    let z : count_leading_zeros 64 (bit_xor a b) < 64 = omega (arith, (has_top a b h r).1) in
    omega (arith, turned (count_leading_zeros 64 (bit_xor a b)) z)

pub level_below_ten : (a b : ℕ) → a < b → b ≤ 1152921504606846975 → bit_xor 63 (count_leading_zeros 64 (bit_xor a b)) * 43 / 256 < 10
level_below_ten a b h r = omega (arith, level_in_table wide a b wide_is_table (in_wide b r) h, level_by_top a b h r, wide_length)

-- Digits and slots.

digit_step : (n k t : ℕ) → k < n → t / 2 ^ (6 * k) % 64 ≡ digit (wides n) k t
digit_step zero k t h = absurd (omega arith)
digit_step (suc n) zero t h = omega arith
digit_step (suc n) (suc k) t h =
    let p : 2 ^ (6 * suc k) ≡ 64 * 2 ^ (6 * k) = omega (arith, six_more k) in
    ap (λ (x : ℕ). t / x % 64) p ∙ (ap (λ (x : ℕ). x % 64) (sym (div-div-eq-div-mul t 64 (2 ^ (6 * k))))
    ∙ digit_step n k (t / 64) (omega arith))

pub digit_by_shift : (k t : ℕ) → k < 10 → bit_and (t / 2 ^ (6 * k)) 63 ≡ digit wide k t
digit_by_shift k t h = rw wide_is (and_mask (t / 2 ^ (6 * k)) 6 ∙ digit_step 10 k t h)

powers : (k : ℕ) → 64 ^ k ≡ 2 ^ (6 * k)
powers zero = refl
powers (suc k) = pow-suc 64 k ∙ (ap (λ (x : ℕ). x * 64) (powers k) ∙ sym (six_more k))

pub digit_by_quotient : (k t : ℕ) → k < 10 → digit wide k t ≡ t / 64 ^ k % 64
digit_by_quotient k t h = rw (wide_is, powers k) (sym (digit_step 10 k t h))

slots_by_product : (k : ℕ) → k < 10 → slots_below k wide ≡ 64 * k
slots_by_product k h = rw wide_is (slots_below_is 64 10 k (omega arith))

-- the list of a slot
pub slot_by_product : (k s : ℕ) → k < 10 → 64 * k + s ≡ list_of_slot wide k s
slot_by_product k s h = omega (arith, slots_by_product k h)

-- and a list is a slot of its wheel
pub list_is_slot : (now deadline k s : ℕ) → now < deadline → deadline ≤ 1152921504606846975 → k < 10 → s < 64
    → (bucket wide now deadline ≡ 64 * k + s) ↔ ((level wide now deadline ≡ k) × (digit wide k deadline ≡ s))
list_is_slot now deadline k s h r b c =
    let e : radix k wide ≡ 64 = rw wide_is (radix_is 64 10 k b) in
    rw (← slots_by_product k b) (list_by_slot wide now deadline k s wide_is_table (in_wide deadline r) h (rw wide_length b) (rw e c))

-- The lowest digit by the lowest bit.

low_zeros : (j t : ℕ) → ((i : ℕ) → i < j → bit_at t i ≡ 0) → t % 2 ^ j ≡ 0
low_zeros zero t h = omega arith
low_zeros (suc j) t h =
    let b : t / 2 ^ j % 2 ≡ 0 = h j (omega arith) in
    let s : suc j ≡ 1 + j = omega arith in
    rw (s, mod-pow-add t 1 j, low_zeros j t (λ i l. h i (omega arith)), b) (omega arith)

not_low : (j t : ℕ) → j < 6 → t / 2 ^ j % 2 ≡ 1 → t % 64 ≢ 0
not_low zero t h e = omega arith
not_low (suc zero) t h e = omega arith
not_low (suc (suc zero)) t h e = omega arith
not_low (suc (suc (suc zero))) t h e = omega arith
not_low (suc (suc (suc (suc zero)))) t h e = omega arith
not_low (suc (suc (suc (suc (suc zero))))) t h e = omega arith
not_low (suc (suc (suc (suc (suc (suc j)))))) t h e = absurd (omega arith)

record IsShifted (t j : ℕ) : Type 0 where
  low : t % 64 ≡ 0
  rest : t / 64 % 2 ^ (j - 6) ≡ 0
  bit : t / 64 / 2 ^ (j - 6) ≡ t / 2 ^ j

shifted : (t j : ℕ) → 6 ≤ j → t % 2 ^ j ≡ 0 → IsShifted t j
shifted t j h z =
    let e : (j - 6) + 6 ≡ j = omega arith in
    let f : 6 + (j - 6) ≡ j = omega arith in
    let parts : (t / 64 % 2 ^ (j - 6)) * 64 + t % 64 ≡ 0 = sym (mod-pow-add t (j - 6) 6) ∙ (ap (λ (x : ℕ). t % 2 ^ x) e ∙ z) in
    record { low = omega arith; rest = omega arith; bit = shr-shr t 6 (j - 6) ∙ ap (λ (x : ℕ). t / 2 ^ x) f }

no_bit : (t j : ℕ) → t ≡ 0 → t / 2 ^ j % 2 ≡ 1 → ⊥
no_bit t j z e = let b : t / 2 ^ j ≡ 0 = omega (arith, shr_le t j) in omega arith

lowest_by_bit : (n t j : ℕ) → HasDigits (wides n) t → t % 2 ^ j ≡ 0 → t / 2 ^ j % 2 ≡ 1 → lowest (wides n) t ≡ j / 6
lowest_by_bit zero t j h z e = absurd (no_bit t j h e)
lowest_by_bit (suc n) t j h z e = elim (cases_lt j 6) [
  | inl l ↦ lowest_here 64 (wides n) t (not_low j t l e) ∙ omega arith
  | inr l ↦
      let s = shifted t j l z in
      let ih : lowest (wides n) (t / 64) ≡ (j - 6) / 6 = lowest_by_bit n (t / 64) (j - 6) h s.rest (ap (λ (v : ℕ). v % 2) s.bit ∙ e) in
      lowest_above 64 (wides n) t s.low ∙ omega arith
]

-- the result of `trailing_zeros`
pub lowest_by_zeros : (t : ℕ) → 0 < t → t ≤ 1152921504606846975 → lowest wide t ≡ trailing_zeros w64 t / 6
lowest_by_zeros t h r =
    let b = bit_at-trailing_zeros w64 t h (omega arith) in
    rw wide_is (lowest_by_bit 10 t (trailing_zeros w64 t) (has_digits 6 10 t (omega arith)) (low_zeros (trailing_zeros w64 t) t b.2) b.1)

-- a tick whose lowest digit isn't zero
pub emptied_low : (t : ℕ) → t % 64 ≢ 0 → t % 64 ≡ emptied wide t
emptied_low t n = rw wide_is (sym (emptied_here 64 (wides 9) t n))

pub lowest_below_ten : (t : ℕ) → 0 < t → t ≤ 1152921504606846975 → trailing_zeros w64 t / 6 < 10
lowest_below_ten t h r =
    omega (arith, lowest-bound wide t wide_is_table (in_wide t r) (omega arith), lowest_by_zeros t h r, wide_length)

-- The next visit of a list.

-- a multiple of 64 and a slot
abbrev pub above : ℕ → ℕ → ℕ
above q s = q - q % 64 + s

pub visit_by_shift : (l a : ℕ) → l < 640 → a ≤ 1152921504606846975
    → above (a / 2 ^ (6 * (l / 64))) (l % 64) * 2 ^ (6 * (l / 64)) % 18446744073709551616 ≡ list_visit wide l a
visit_by_shift l a h r = rw wide_is_equal (visit_by_bits 6 10 ten_digits 64 (6 * (l / 64)) l a refl refl
    (omega (arith, slots_of_equals 6 10 ten_digits)) (omega (arith, last_by_bits 6 10 ten_digits)))

-- Two revolutions of slots.

wide_wheel : (k : ℕ) → k < 10 → k < length (equals 6 10)
wide_wheel k h = omega (arith, wheels_are 6 10 ten_digits)

pub wide_slot : (k t : ℕ) → k < 10 → t / 2 ^ (6 * k) ≡ slot_in wide k t
wide_slot k t h = rw wide_is_equal (slot_by_bits 6 10 ten_digits k (6 * k) t (wide_wheel k h) refl)

pub wide_turns : (k : ℕ) → k < 10 → 128 ≡ 2 * radix k wide
wide_turns k h = rw wide_is_equal (turns_are 6 10 ten_digits 64 refl k (wide_wheel k h))

pub wide_list : (k s : ℕ) → k < 10 → 128 * k + s % 128 ≡ smooth_list wide k s
wide_list k s h = rw wide_is_equal (turn_is 6 10 ten_digits 64 refl k s (wide_wheel k h))

pub wide_shift : (k : ℕ) → k < 10 → 1 * 2 ^ (6 * k) % 18446744073709551616 ≡ weight k wide
wide_shift k h = rw wide_is_equal (weight_by_bits 6 10 ten_digits k (6 * k) (wide_wheel k h) refl)

-- what the functions of the table return
pub ruleset wide_levels = (level_by_top, top_bound, level_below_ten)

pub ruleset wide_lowest = (lowest_by_zeros, lowest_below_ten)

pub ruleset wide_emptied = (slot_by_product, emptied_low)
