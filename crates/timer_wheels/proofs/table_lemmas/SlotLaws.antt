-- Lemmas for `laws`: a digit is a quotient, and a list is a slot of its wheel, for every table of radices.
use Rattle.std.proofs.Common.{◌≡◌, ◌<◌, ◌+◌, ◌/◌, ◌%◌, ℕ, zero, suc, List, [], ◌∷◌, length, refl, sym, ◌∙◌, ap, arith}
use Rattle.std.proofs.Math.Nat.{div-div-eq-div-mul}
use Rattle.timer_wheels.specs.Digits.{IsTable, HasDigits, digit, radix, weight, level, bucket, list_of_slot, slots_below}
use Rattle.timer_wheels.proofs.table_lemmas.DigitLaws.{level_in_table}

pub digit_by_weight : (table : List ℕ) (k t : ℕ) → digit table k t ≡ t / weight k table % radix k table
digit_by_weight [] k t = omega arith
digit_by_weight (r ∷ rs) zero t = let e : t / 1 ≡ t = omega arith in ap (λ (x : ℕ). x % r) (sym e)
digit_by_weight (r ∷ rs) (suc k) t = digit_by_weight rs k (t / r) ∙ ap (λ (x : ℕ). x % radix k rs) (div-div-eq-div-mul t r (weight k rs))

-- the number of a list determines its wheel and its slot
one_slot : (table : List ℕ) (j k x s : ℕ) → IsTable table → j < length table → k < length table → s < radix k table
    → list_of_slot table j (digit table j x) ≡ slots_below k table + s → (j ≡ k) × (digit table j x ≡ s)
one_slot [] j k x s i a b h e = absurd (omega arith)
one_slot (r ∷ rs) zero zero x s i a b h e = (refl, omega arith)
one_slot (r ∷ rs) zero (suc k) x s i a b h e = absurd (let z : 0 < r = i.0 in let d : x % r < r = omega arith in omega arith)
one_slot (r ∷ rs) (suc j) zero x s i a b h e = absurd (omega arith)
one_slot (r ∷ rs) (suc j) (suc k) x s i a b h e =
    let f : list_of_slot rs j (digit rs j (x / r)) ≡ slots_below k rs + s = omega arith in
    let q = one_slot rs j k (x / r) s i.1 (omega arith) (omega arith) h f in
    (ap suc q.0, q.1)

same_list : (table : List ℕ) (now deadline k s : ℕ) → level table now deadline ≡ k → digit table k deadline ≡ s
    → bucket table now deadline ≡ slots_below k table + s
same_list table now deadline k s e f = ap (λ (x : ℕ). list_of_slot table x (digit table x deadline)) e
    ∙ ap (λ (x : ℕ). slots_below k table + x) f

its_slot : (table : List ℕ) (now deadline k s : ℕ) → (level table now deadline ≡ k) × (digit table (level table now deadline) deadline ≡ s)
    → (level table now deadline ≡ k) × (digit table k deadline ≡ s)
its_slot table now deadline k s q = (q.0, ap (λ (x : ℕ). digit table x deadline) (sym q.0) ∙ q.1)

pub list_by_slot : (table : List ℕ) (now deadline k s : ℕ) → IsTable table → HasDigits table deadline → now < deadline → k < length table
    → s < radix k table
    → ((bucket table now deadline ≡ slots_below k table + s) → ((level table now deadline ≡ k) × (digit table k deadline ≡ s)))
    × (((level table now deadline ≡ k) × (digit table k deadline ≡ s)) → (bucket table now deadline ≡ slots_below k table + s))
list_by_slot table now deadline k s i h l b r = (
  (λ e. its_slot table now deadline k s (one_slot table (level table now deadline) k deadline s i
      (level_in_table table now deadline i h l) b r e)),
  (λ q. same_list table now deadline k s q.0 q.1),
)
