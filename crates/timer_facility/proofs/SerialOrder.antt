-- Timers by serial: what a sort gives, and that by deadline they are as they were.
use Rattle.std.proofs.Common.{◌≡◌, ◌≢◌, ◌<◌, ◌+◌, ℕ, suc, true, false, List, [], ◌∷◌, map, get_or, refl, sym, ◌∙◌, ap, inl, inr, arith}
use Rattle.std.specs.List.{AllByRecursion}
use Rattle.std.specs.List.Sorted.{IsPermutation, IsSortedBy, IsSortedByKey}
use Rattle.std.specs.Prelude.{Bool}
use Rattle.std.specs.Ordering.{nat_cmp, is_lt}
use Rattle.std.proofs.lemmas.Bool.Decides.{nat_tests}
use Rattle.timer_base.proofs.Basics.{either}
use Rattle.timer_base.proofs.OneOrder.{ordered_is_in_order, in_order-ordered}
use Rattle.timer_base.proofs.OrderLaws.{IsFirst-weaken, insert_in_order-commutes}
use Rattle.timer_base.specs.Order.{is_before, insert_in_order, in_order, itself, IsOrdered, IsNotAmong, AreDistinct, AreRising}
use Rattle.timer_base.specs.WellFormed.{map-itself}
use Rattle.timer_facility.specs.Types.{Timer}
use Rattle.timer_facility.specs.Saved.{undated, by_serial}

-- What a sort by serial gives.

not_among-undated : (serial : ℕ) (ts : List Timer) → IsNotAmong serial ts → IsNotAmong serial (map undated ts)
not_among-undated serial [] n = tt
not_among-undated serial (t ∷ ts) n = (n.0, not_among-undated serial ts n.1)

distinct-undated : (ts : List Timer) → AreDistinct ts → AreDistinct (map undated ts)
distinct-undated [] d = tt
distinct-undated (t ∷ ts) d = (not_among-undated t.serial ts d.0, distinct-undated ts d.1)

-- the first of two timers has the lower serial
before_undated : (a b : Timer) → is_lt (nat_cmp a.serial b.serial) ≡ is_before (undated a) (undated b)
before_undated a b = grind (arith, nat_tests)

abbrev lower : Timer → Timer → Bool
lower a b = is_before (undated a) (undated b)

sorted_tail : (t : Timer) (ts : List Timer) → IsSortedBy lower (t ∷ ts) → IsSortedBy lower ts
sorted_tail t ts s = λ k d l h. let e : suc k + 1 ≡ suc (k + 1) = omega arith in rw e at (s (suc k) d (omega arith) (omega arith))

sorted_is_ordered : (ts : List Timer) → IsSortedBy lower ts → IsOrdered (map undated ts)
sorted_is_ordered [] s = tt
sorted_is_ordered (t ∷ []) s = (tt, tt)
sorted_is_ordered (t ∷ u ∷ us) s =
    let front : is_before (undated u) (undated t) ≡ false = s 0 t (omega arith) (omega arith) in
    let rest : IsOrdered (map undated (u ∷ us)) = sorted_is_ordered (u ∷ us) (sorted_tail t (u ∷ us) s) in
    ((front, IsFirst-weaken (undated t) (undated u) (map undated us) front rest.0), rest)

abbrev pub serial_of : Timer → ℕ
serial_of t = t.serial

-- the result of a sort of distinct timers
pub sorted_by_serial : (old new : List Timer) → IsPermutation old new → AreDistinct old
    → IsSortedByKey serial_of (λ x y. nat_cmp x y) new → new ≡ by_serial old
sorted_by_serial old new p d s = ordered_is_in_order undated old new p (distinct-undated old d)
    (sorted_is_ordered new (λ k e l h. sym (before_undated (get_or new (k + 1) e) (get_or new k e)) ∙ s k e l h))

-- By deadline they are as they were.

in_order-inserted : (t : Timer) (ts : List Timer) → IsNotAmong t.serial ts
    → in_order itself (insert_in_order undated t ts) ≡ insert_in_order itself t (in_order itself ts)
in_order-inserted t [] n = refl
in_order-inserted t (u ∷ us) n = elim (either (is_before (undated t) (undated u))) [
  | inl h ↦ rw h refl
  | inr h ↦ rw h (ap (insert_in_order itself u) (in_order-inserted t us n.1)
      ∙ insert_in_order-commutes itself u t (in_order itself us) n.0)
]

not_among-inserted : (serial : ℕ) (t : Timer) (ts : List Timer) → t.serial ≢ serial → IsNotAmong serial ts
    → IsNotAmong serial (insert_in_order undated t ts)
not_among-inserted serial t [] o n = (o, tt)
not_among-inserted serial t (u ∷ us) o n = elim (either (is_before (undated t) (undated u))) [
  | inl h ↦ rw h (o, n)
  | inr h ↦ rw h (n.0, not_among-inserted serial t us o n.1)
]

not_among-by_serial : (serial : ℕ) (ts : List Timer) → IsNotAmong serial ts → IsNotAmong serial (by_serial ts)
not_among-by_serial serial [] n = tt
not_among-by_serial serial (t ∷ ts) n = not_among-inserted serial t (by_serial ts) n.0 (not_among-by_serial serial ts n.1)

in_order-again : (ts : List Timer) → AreDistinct ts → in_order itself (by_serial ts) ≡ in_order itself ts
in_order-again [] d = refl
in_order-again (t ∷ ts) d = in_order-inserted t (by_serial ts) (not_among-by_serial t.serial ts d.0)
    ∙ ap (insert_in_order itself t) (in_order-again ts d.1)

-- By serial they rise.

lower_first : (t u : Timer) → is_before (undated t) (undated u) ≡ true → t.serial < u.serial
lower_first t u h = grind (arith, nat_tests)

higher_last : (t u : Timer) → is_before (undated t) (undated u) ≡ false → u.serial ≢ t.serial → u.serial < t.serial
higher_last t u h n = grind (arith, nat_tests)

rising-inserted : (low : ℕ) (t : Timer) (us : List Timer) → AreRising low us → low < t.serial → IsNotAmong t.serial us
    → AreRising low (insert_in_order undated t us)
rising-inserted low t [] r l n = (l, tt)
rising-inserted low t (u ∷ us) r l n = elim (either (is_before (undated t) (undated u))) [
  | inl h ↦
      let rest : AreRising t.serial (u ∷ us) = (lower_first t u h, r.1) in
      rw h (l, rest)
  | inr h ↦ rw h (r.0, rising-inserted u.serial t us r.1 (higher_last t u h n.0) n.1)
]

pub rising-by_serial : (low : ℕ) (ts : List Timer) → AreDistinct ts → AllByRecursion (λ t. low < t.serial) ts → AreRising low (by_serial ts)
rising-by_serial low [] d a = tt
rising-by_serial low (t ∷ ts) d a =
    rising-inserted low t (by_serial ts) (rising-by_serial low ts d.1 a.1) a.0 (not_among-by_serial t.serial ts d.0)

-- ordered timers that were put by serial, and then by deadline again
pub in_order-by_serial : (ts : List Timer) → AreDistinct ts → IsOrdered ts → in_order itself (by_serial ts) ≡ ts
in_order-by_serial ts d o = in_order-again ts d ∙ in_order-ordered itself ts (rw (map-itself ts) d) (rw (map-itself ts) o)
