-- Slots of a tick on each wheel: how those of two ticks compare from wheel to wheel, for every table of radices.
use Rattle.std.proofs.Common.{◌≡◌, ◌<◌, ◌≤◌, ◌⊎◌, ◌+◌, ◌/◌, ◌%◌, ℕ, zero, suc, List, [], ◌∷◌, sym, ◌∙◌, ap, inl, inr, arith}
use Rattle.std.proofs.Math.Nat.{div-div-eq-div-mul}
use Rattle.std.proofs.lemmas.Bool.{cases_eq}
use Rattle.timer_wheels.specs.Digits.{IsTable, HasDigits, weight, level}
use Rattle.timer_wheels.specs.smooth.Smooth.{slot_in}
use Rattle.timer_wheels.proofs.table_lemmas.DigitLaws.{quotient_mono, quotient_is, level_near, level_far, less_quotient}

-- on the lowest wheel the slot is the tick
pub slot_low : (table : List ℕ) (t : ℕ) → slot_in table zero t ≡ t
slot_low [] t = let e : t / 1 ≡ t = omega arith in e
slot_low (r ∷ rs) t = let e : t / 1 ≡ t = omega arith in e

-- and above it a slot of the quotient
pub slot_up : (r : ℕ) (rs : List ℕ) (k t : ℕ) → slot_in (r ∷ rs) (suc k) t ≡ slot_in rs k (t / r)
slot_up r rs k t = sym (div-div-eq-div-mul t r (weight k rs))

-- a quotient is at most one more, if the number is
quotient_near : (r a d : ℕ) → 0 < r → d ≤ a + 1 → d / r ≤ a / r + 1
quotient_near r a d z h =
    let q = quotient_mono r d (a + r) z (omega arith) in
    let m : a % r < r = omega arith in
    let e : (a + r) / r ≡ a / r + 1 = quotient_is r (a / r + 1) (a % r) (a + r) m (omega arith) in
    omega arith

-- no slot is later on a higher wheel, if it is not on a lower one
pub slots_mono : (table : List ℕ) (k j a d : ℕ) → IsTable table → k ≤ j → slot_in table k d ≤ slot_in table k a
    → slot_in table j d ≤ slot_in table j a
slots_mono [] k j a d i h l =
    let e : d / 1 ≡ d = omega arith in
    let f : a / 1 ≡ a = omega arith in
    omega arith
slots_mono (r ∷ rs) zero zero a d i h l = l
slots_mono (r ∷ rs) zero (suc j) a d i h l =
    let e : slot_in (r ∷ rs) zero d ≡ d = slot_low (r ∷ rs) d in
    let f : slot_in (r ∷ rs) zero a ≡ a = slot_low (r ∷ rs) a in
    let q : d / r ≤ a / r = quotient_mono r d a i.0 (omega arith) in
    let low : slot_in rs zero (d / r) ≤ slot_in rs zero (a / r) = omega (arith, slot_low rs (d / r), slot_low rs (a / r)) in
    omega (arith, slots_mono rs zero j (a / r) (d / r) i.1 (omega arith) low, slot_up r rs j d, slot_up r rs j a)
slots_mono (r ∷ rs) (suc k) zero a d i h l = absurd (omega arith)
slots_mono (r ∷ rs) (suc k) (suc j) a d i h l =
    let low : slot_in rs k (d / r) ≤ slot_in rs k (a / r) = omega (arith, slot_up r rs k d, slot_up r rs k a) in
    omega (arith, slots_mono rs k j (a / r) (d / r) i.1 (omega arith) low, slot_up r rs j d, slot_up r rs j a)

-- a slot is at most the next one on a higher wheel, if it is on a lower one
pub slots_near : (table : List ℕ) (k j a d : ℕ) → IsTable table → k ≤ j → slot_in table k d ≤ slot_in table k a + 1
    → slot_in table j d ≤ slot_in table j a + 1
slots_near [] k j a d i h l =
    let e : d / 1 ≡ d = omega arith in
    let f : a / 1 ≡ a = omega arith in
    omega arith
slots_near (r ∷ rs) zero zero a d i h l = l
slots_near (r ∷ rs) zero (suc j) a d i h l =
    let e : slot_in (r ∷ rs) zero d ≡ d = slot_low (r ∷ rs) d in
    let f : slot_in (r ∷ rs) zero a ≡ a = slot_low (r ∷ rs) a in
    let q : d / r ≤ a / r + 1 = quotient_near r a d i.0 (omega arith) in
    let low : slot_in rs zero (d / r) ≤ slot_in rs zero (a / r) + 1 = omega (arith, slot_low rs (d / r), slot_low rs (a / r)) in
    omega (arith, slots_near rs zero j (a / r) (d / r) i.1 (omega arith) low, slot_up r rs j d, slot_up r rs j a)
slots_near (r ∷ rs) (suc k) zero a d i h l = absurd (omega arith)
slots_near (r ∷ rs) (suc k) (suc j) a d i h l =
    let low : slot_in rs k (d / r) ≤ slot_in rs k (a / r) + 1 = omega (arith, slot_up r rs k d, slot_up r rs k a) in
    omega (arith, slots_near rs k j (a / r) (d / r) i.1 (omega arith) low, slot_up r rs j d, slot_up r rs j a)

-- the slot of the next tick is the same or the next one
pub slots_step : (table : List ℕ) (k a : ℕ) → IsTable table
    → (slot_in table k (a + 1) ≡ slot_in table k a) ⊎ (slot_in table k (a + 1) ≡ slot_in table k a + 1)
slots_step table k a i =
    let low : slot_in table zero (a + 1) ≤ slot_in table zero a + 1 = omega (arith, slot_low table (a + 1), slot_low table a) in
    let less : slot_in table zero a ≤ slot_in table zero (a + 1) = omega (arith, slot_low table (a + 1), slot_low table a) in
    let most = slots_near table zero k a (a + 1) i (omega arith) low in
    let least = slots_mono table zero k (a + 1) a i (omega arith) less in
    elim (cases_eq (slot_in table k (a + 1)) (slot_in table k a)) [ inl e ↦ inl e | inr e ↦ inr (omega arith) ]

-- The level of a deadline, in slots.

-- on its own wheel the deadline is ahead, and on the wheel above it is in the present slot
pub record IsLevel (table : List ℕ) (a d k : ℕ) : Type 0 where
  pub ahead : slot_in table k a < slot_in table k d
  pub same : slot_in table (suc k) d ≡ slot_in table (suc k) a

pub level_in_slots : (table : List ℕ) (a d : ℕ) → IsTable table → HasDigits table d → a < d → IsLevel table a d (level table a d)
level_in_slots [] a d i h l = let e : d ≡ 0 = h in absurd (omega arith)
level_in_slots (r ∷ rs) a d i h l = elim (cases_eq (a / r) (d / r)) [
  | inl e ↦ rw (level_near r rs a d e) (record {
    ahead = omega (arith, slot_low (r ∷ rs) a, slot_low (r ∷ rs) d);
    same = slot_up r rs zero d ∙ (ap (slot_in rs zero) (sym e) ∙ sym (slot_up r rs zero a));
  })
  | inr e ↦
      let ih = level_in_slots rs (a / r) (d / r) i.1 h (less_quotient r a d l i.0 e) in
      let k : ℕ = level rs (a / r) (d / r) in
      rw (level_far r rs a d e) (record {
        ahead = omega (arith, ih.ahead, slot_up r rs k a, slot_up r rs k d);
        same = slot_up r rs (suc k) d ∙ (ih.same ∙ sym (slot_up r rs (suc k) a));
      })
]
