-- The visits of Scheme 7, by slots: which tick it is, that it is the same for a slot's begin, and no earlier for a later deadline.
use Rattle.std.proofs.Common.{◌≡◌, ◌≢◌, ◌<◌, ◌≤◌, ◌+◌, ◌*◌, ◌/◌, ◌%◌, ℕ, zero, suc, List, [], ◌∷◌, sym, ◌∙◌, ap, inl, inr, arith}
use Rattle.std.proofs.Math.Nat.{mul-div_right, mul-le-mul_left, mul-le-mul_right}
use Rattle.std.proofs.lemmas.Bool.{cases_eq}
use Rattle.timer_wheels.specs.Digits.{IsTable, HasDigits, weight, level}
use Rattle.timer_wheels.specs.hier.Leap.{timer_visit}
use Rattle.timer_wheels.specs.smooth.Smooth.{slot_in}
use Rattle.timer_wheels.proofs.table_lemmas.DigitLaws.{quotient_mono, level_near, level_far, less_quotient}
use Rattle.timer_wheels.proofs.smooth_lemmas.Slots.{slot_up}
use Rattle.timer_wheels.proofs.smooth_lemmas.Weights.{weight_some}
use Rattle.timer_wheels.proofs.table_lemmas.VisitLaws.{visit_near, visit_far, visit_later}

-- the visit is the deadline's slot on its level
pub visit_by_slot : (table : List ℕ) (a d : ℕ) → IsTable table → HasDigits table d → a < d
    → slot_in table (level table a d) d * weight (level table a d) table ≡ timer_visit table a d
visit_by_slot [] a d i h l = absurd (let z : d ≡ 0 = h in omega arith)
visit_by_slot (r ∷ rs) a d i h l = elim (cases_eq (a / r) (d / r)) [
  | inl e ↦ rw (level_near r rs a d e, visit_near r rs a d e)
      (let s : d / 1 * 1 ≡ d = omega arith in s)
  | inr e ↦
      let k : ℕ = level rs (a / r) (d / r) in
      let ih : slot_in rs k (d / r) * weight k rs ≡ timer_visit rs (a / r) (d / r) =
      visit_by_slot rs (a / r) (d / r) i.1 h (less_quotient r a d l i.0 e) in
      let up : slot_in (r ∷ rs) (suc k) d * (r * weight k rs) ≡ slot_in rs k (d / r) * (r * weight k rs) =
      ap (λ (x : ℕ). x * (r * weight k rs)) (slot_up r rs k d) in
      let out : slot_in rs k (d / r) * (r * weight k rs) ≡ r * (slot_in rs k (d / r) * weight k rs) = omega arith in
      rw (level_far r rs a d e, visit_far r rs a d e) (up ∙ (out ∙ ap (λ (x : ℕ). r * x) ih))
]

-- no later deadline has an earlier visit
pub visit_mono : (table : List ℕ) (a d e : ℕ) → IsTable table → a < d → d ≤ e → timer_visit table a d ≤ timer_visit table a e
visit_mono [] a d e i l h = h
visit_mono (r ∷ rs) a d e i l h =
    let q : d / r ≤ e / r = quotient_mono r d e i.0 h in
    elim (cases_eq (a / r) (d / r)) [
      | inl n ↦ elim (cases_eq (a / r) (e / r)) [
        | inl m ↦ omega (arith, visit_near r rs a d n, visit_near r rs a e m)
        | inr m ↦
            let v : a / r < timer_visit rs (a / r) (e / r) = visit_later rs (a / r) (e / r) i.1 (less_quotient r a e (omega arith) i.0 m) in
            let w : r * (a / r + 1) ≤ r * timer_visit rs (a / r) (e / r) = mul-le-mul_left r (let x : a / r + 1 ≤ timer_visit rs (a / r) (e / r) = omega arith in x) in
            let rest : d % r < r = (let z : 0 < r = i.0 in omega arith) in
            let parts : d ≡ r * (d / r) + d % r = omega arith in
            let same : r * (d / r) ≡ r * (a / r) = ap (λ (x : ℕ). r * x) (sym n) in
            let next : r * (a / r + 1) ≡ r * (a / r) + r = omega arith in
            omega (arith, visit_near r rs a d n, visit_far r rs a e m)
      ]
      | inr n ↦
          let less : a / r < d / r = less_quotient r a d l i.0 n in
          let m : a / r ≢ e / r = λ (x : a / r ≡ e / r). omega arith in
          let w : r * timer_visit rs (a / r) (d / r) ≤ r * timer_visit rs (a / r) (e / r) =
          mul-le-mul_left r (visit_mono rs (a / r) (d / r) (e / r) i.1 less q) in
          omega (arith, visit_far r rs a d n, visit_far r rs a e m)
    ]

-- a slot ahead begins after now
begin_later : (w a q : ℕ) → 0 < w → a / w < q → a < q * w
begin_later w a q z h =
    let m : (a / w + 1) * w ≤ q * w = mul-le-mul_right w (let x : a / w + 1 ≤ q = omega arith in x) in
    let r : a % w < w = omega arith in
    let parts : a ≡ w * (a / w) + a % w = omega arith in
    let next : (a / w + 1) * w ≡ w * (a / w) + w = omega arith in
    omega arith

pub slot_begins_later : (table : List ℕ) (k a q : ℕ) → IsTable table → slot_in table k a < q → a < q * weight k table
slot_begins_later table k a q i h = begin_later (weight k table) a q (weight_some table k i) h

-- the visit of a deadline is that of the begin of its slot, on a wheel where the slot is ahead
pub visit_of_begin : (table : List ℕ) (k a d : ℕ) → IsTable table → slot_in table k a < slot_in table k d
    → timer_visit table a (slot_in table k d * weight k table) ≡ timer_visit table a d
visit_of_begin [] k a d i h = (let s : d / 1 * 1 ≡ d = omega arith in s)
visit_of_begin (r ∷ rs) zero a d i h = ap (timer_visit (r ∷ rs) a) (let s : d / 1 * 1 ≡ d = omega arith in s)
visit_of_begin (r ∷ rs) (suc k) a d i h =
    let q : ℕ = slot_in rs k (d / r) in
    let low : slot_in rs k (a / r) < slot_in rs k (d / r) = omega (arith, slot_up r rs k a, slot_up r rs k d) in
    let is : slot_in (r ∷ rs) (suc k) d * (r * weight k rs) ≡ r * (slot_in rs k (d / r) * weight k rs) =
    ap (λ (x : ℕ). x * (r * weight k rs)) (slot_up r rs k d)
    ∙ (let out : slot_in rs k (d / r) * (r * weight k rs) ≡ r * (slot_in rs k (d / r) * weight k rs) = omega arith in out) in
    let part : r * (slot_in rs k (d / r) * weight k rs) / r ≡ slot_in rs k (d / r) * weight k rs =
    mul-div_right (slot_in rs k (d / r) * weight k rs) i.0 in
    let later : a / r < slot_in rs k (d / r) * weight k rs = slot_begins_later rs k (a / r) (slot_in rs k (d / r)) i.1 low in
    let far : a / r ≢ r * (slot_in rs k (d / r) * weight k rs) / r = λ (x : a / r ≡ r * (slot_in rs k (d / r) * weight k rs) / r). omega arith in
    let far2 : a / r ≢ d / r = λ (x : a / r ≡ d / r). let y : slot_in rs k (a / r) ≡ slot_in rs k (d / r) = ap (slot_in rs k) x in omega arith in
    ap (timer_visit (r ∷ rs) a) is
    ∙ (visit_far r rs a (r * (slot_in rs k (d / r) * weight k rs)) far
    ∙ (ap (λ (x : ℕ). r * timer_visit rs (a / r) x) part
    ∙ (ap (λ (x : ℕ). r * x) (visit_of_begin rs k (a / r) (d / r) i.1 low)
    ∙ sym (visit_far r rs a d far2))))
