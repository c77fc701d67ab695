-- Lemmas about every table that a hierarchy of wheels may have: what follows from its radices, and that those of each will do.
use Rattle.std.proofs.Common.{◌≡◌, ◌<◌, ◌≤◌, ◌+◌, ◌-◌, ◌*◌, ◌/◌, ◌%◌, ◌&&◌, nat_lt, ℕ, zero, suc, Bool, true, List, [], ◌∷◌, length, refl, sym, ◌∙◌, ap, inl, inr, arith}
use Rattle.std.proofs.lemmas.Bool.{cases_lt, and_parts, ltb-true}
use Rattle.std.proofs.Math.Nat.{mul-le-mul_left, mod-lt, div-lt_iff_lt-mul}
use Rattle.timer_wheels.specs.Types.{LAST, Table}
use Rattle.timer_wheels.specs.Digits.{equals, IsTable, HasDigits, radix, slots, span, last_of, lowest_radix}
use Rattle.timer_wheels.specs.smooth.Smooth.{smooth_list, smooth_slots, HasTurns}
use Rattle.timer_wheels.specs.declared.smooth.slot_lists.TheConstants.{MOST_LISTS}
use Rattle.timer_wheels.specs.declared.table.TheConstants.{MOST_BUCKETS}
use Rattle.timer_wheels.proofs.table_lemmas.DigitLaws.{IsHierTable}
-- made by tools/facts: imports of lemmas of tables
use Rattle.timer_wheels.specs.declared.table.Table.TheVariants.{Wide, Clock, Small}
use Rattle.timer_wheels.specs.Tables.{wide, clock, radices, last_of_table}

-- Any radices.

-- whether each wheel has two slots or more, and each but the highest at most 64
abbrev are_few : List ℕ → Bool
are_few [] = true
are_few (r ∷ []) = nat_lt 1 r
are_few (r ∷ s ∷ rs) = nat_lt 1 r && (nat_lt r 65 && are_few (s ∷ rs))

module _ (r s : ℕ) (rs : List ℕ) (e : are_few (r ∷ s ∷ rs) ≡ true) where
  two_here : 1 < r
  two_here = ltb-true 1 r (and_parts (nat_lt 1 r) (nat_lt r 65 && are_few (s ∷ rs)) e).0

  few_here : r < 65
  few_here = ltb-true r 65 (and_parts (nat_lt r 65) (are_few (s ∷ rs)) (and_parts (nat_lt 1 r) (nat_lt r 65 && are_few (s ∷ rs)) e).1).0

  few_above : are_few (s ∷ rs) ≡ true
  few_above = (and_parts (nat_lt r 65) (are_few (s ∷ rs)) (and_parts (nat_lt 1 r) (nat_lt r 65 && are_few (s ∷ rs)) e).1).1

are_two : (table : List ℕ) → are_few table ≡ true → (k : ℕ) → k < length table → 2 ≤ radix k table
are_two [] e k h = absurd (omega arith)
are_two (r ∷ []) e zero h = omega (arith, ltb-true 1 r e)
are_two (r ∷ []) e (suc k) h = absurd (omega arith)
are_two (r ∷ s ∷ rs) e zero h = omega (arith, two_here r s rs e)
are_two (r ∷ s ∷ rs) e (suc k) h = are_two (s ∷ rs) (few_above r s rs e) k (omega arith)

have_turns : (table : List ℕ) → are_few table ≡ true → HasTurns table
have_turns [] e k h = absurd (omega arith)
have_turns (r ∷ []) e k h = absurd (omega arith)
have_turns (r ∷ s ∷ rs) e zero h = omega (arith, few_here r s rs e)
have_turns (r ∷ s ∷ rs) e (suc k) h = have_turns (s ∷ rs) (few_above r s rs e) k (omega arith)

are_table : (table : List ℕ) → are_few table ≡ true → IsTable table
are_table [] e = tt
are_table (r ∷ []) e = (omega (arith, ltb-true 1 r e), tt)
are_table (r ∷ s ∷ rs) e = (omega (arith, two_here r s rs e), are_table (s ∷ rs) (few_above r s rs e))

span_some : (table : List ℕ) → IsTable table → 0 < span table
span_some [] i = omega arith
span_some (r ∷ rs) i = omega (arith, i.0, span_some rs i.1, mul-le-mul_left r (span_some rs i.1))

pub have_digits : (table : List ℕ) (t : ℕ) → IsTable table → t < span table → HasDigits table t
have_digits [] t i h = omega arith
have_digits (r ∷ rs) t i h = have_digits rs (t / r) i.1 ((div-lt_iff_lt-mul i.0).1 (omega arith))

in_lower : (a r j wheels top : ℕ) → a < 2 * r → r ≤ 64 → j + 1 < wheels → 128 * j + a < 128 * (wheels - 1) + 2 * top
in_lower a r j wheels top h l k = omega arith

in_highest : (a r j wheels top : ℕ) → a < 2 * r → top ≡ r → wheels - 1 ≡ j → 128 * j + a < 128 * (wheels - 1) + 2 * top
in_highest a r j wheels top h e k = omega arith

-- two revolutions of a wheel end before the lists of the next one begin
pub turns_in_range : (table : List ℕ) → HasTurns table → ((k : ℕ) → k < length table → 2 ≤ radix k table)
    → (j s : ℕ) → j < length table → smooth_list table j s < smooth_slots table
turns_in_range table turns two j s h =
    let some : 0 < 2 * radix j table = omega (arith, two j h) in
    let rest : s % (2 * radix j table) < 2 * radix j table = mod-lt s some in
    elim (cases_lt (j + 1) (length table)) [
      | inl l ↦ in_lower (s % (2 * radix j table)) (radix j table) j (length table) (radix (length table - 1) table) rest (turns j l) l
      | inr g ↦
          let e : length table - 1 ≡ j = omega arith in
          in_highest (s % (2 * radix j table)) (radix j table) j (length table) (radix (length table - 1) table) rest
          (ap (λ (k : ℕ). radix k table) e) e
    ]

-- few wheels of few slots, whose lowest has an even number of them, make a hierarchy, smooth or not
fits : (table : List ℕ) → are_few table ≡ true → slots table ≤ MOST_BUCKETS → smooth_slots table ≤ MOST_LISTS → last_of table ≤ LAST
    → lowest_radix table % 2 ≡ 0 → 16 ≤ lowest_radix table → 0 < length table → length table ≤ 10 → IsHierTable table
fits table few buckets lists last even many some most = record {
  is_table = are_table table few;
  digits = have_digits table (last_of table) (are_table table few) (omega (arith, span_some table (are_table table few)));
  few_slots = buckets;
  in_range = last;
  some_slots = omega arith;
  few_wheels = omega arith;
  more_wheels = some;
  turns = have_turns table few;
  two = are_two table few;
  few_lists = lists;
  many = many;
  even = even;
}

-- The tables.

-- made by tools/facts: lemmas of tables
pub of_table : (table : Table) → IsHierTable (radices table)
unfolding wide clock equals
of_table Wide = fits (radices Wide) refl (let h : 640 ≤ MOST_BUCKETS = omega arith in h) (let h : 1280 ≤ MOST_LISTS = omega arith in h) (let h : 1152921504606846975 ≤ LAST = omega arith in h) refl (let h : 16 ≤ 64 = omega arith in h) (let h : 0 < 10 = omega arith in h) (let h : 10 ≤ 10 = omega arith in h)
of_table Clock = fits (radices Clock) refl (let h : 244 ≤ MOST_BUCKETS = omega arith in h) (let h : 584 ≤ MOST_LISTS = omega arith in h) (let h : 8639999 ≤ LAST = omega arith in h) refl (let h : 16 ≤ 60 = omega arith in h) (let h : 0 < 4 = omega arith in h) (let h : 4 ≤ 10 = omega arith in h)
of_table Small = fits (radices Small) refl (let h : 96 ≤ MOST_BUCKETS = omega arith in h) (let h : 672 ≤ MOST_LISTS = omega arith in h) (let h : 16777215 ≤ LAST = omega arith in h) refl (let h : 16 ≤ 16 = omega arith in h) (let h : 0 < 6 = omega arith in h) (let h : 6 ≤ 10 = omega arith in h)

pub last_named : (table : Table) → last_of (radices table) ≡ last_of_table table
unfolding wide clock equals
last_named Wide = refl
last_named Clock = refl
last_named Small = refl

pub named_last : (table : Table) (tick : ℕ) → tick ≡ last_of_table table → tick ≡ last_of (radices table)
named_last table tick e = e ∙ sym (last_named table)
