-- Lemmas for `descend`: where it stops, and that for a timer that is started now it is the placement law.
use Rattle.std.proofs.Common.{◌≡◌, ◌<◌, ◌≤◌, ◌-◌, ℕ, zero, suc, List, refl, sym, ap, inl, inr, arith, true, false, ◌==◌, not, nat_lt}
use Rattle.std.proofs.lemmas.Bool.{eq-eqb, ne_eqb}
use Rattle.timer_base.proofs.Basics.{either}
use Rattle.timer_wheels.specs.declared.smooth.slot_lists.TheConstants.{MOST_LISTS}
use Rattle.timer_wheels.specs.declared.table.Table.{Table}
use Rattle.timer_wheels.specs.Occupied.{bit_of}
use Rattle.timer_wheels.specs.smooth.Smooth.{is_in_next, next_list, descend, descend_by, smooth_slots}
use Rattle.timer_wheels.specs.Tables.{radices}
use Rattle.timer_wheels.proofs.table_lemmas.TableLaws.{of_table}

pub few_lists : (table : Table) → smooth_slots (radices table) ≤ MOST_LISTS
few_lists table = (of_table table).few_lists

module _ (table : List ℕ) (now : ℕ) (words : List ℕ) (d : ℕ) where
  pub descend_stops : (k : ℕ) → is_in_next table now k d ≡ false → descend_by table now words d k ≡ k
  descend_stops zero e = refl
  descend_stops (suc k) e = rw e refl

  pub descend_full : (k : ℕ) → bit_of words (next_list table now k) ≡ 1 → descend_by table now words d k ≡ k
  descend_full zero e = refl
  descend_full (suc k) e =
      let n : (bit_of words (next_list table now (suc k)) == 0) ≡ false = ne_eqb (bit_of words (next_list table now (suc k))) 0 (λ z. omega arith) in
      elim (either (is_in_next table now (suc k) d)) [ inl b ↦ rw (b, n) refl | inr b ↦ rw b refl ]

  pub descend_on : (k : ℕ) → 0 < k → is_in_next table now k d ≡ true → bit_of words (next_list table now k) ≡ 0
      → descend_by table now words d k ≡ descend_by table now words d (k - 1)
  descend_on zero z e f = absurd (omega arith)
  descend_on (suc k) z e f =
      let n : (bit_of words (next_list table now (suc k)) == 0) ≡ true = eq-eqb (bit_of words (next_list table now (suc k))) 0 f in
      let p : suc k - 1 ≡ k = omega arith in
      rw (e, n) (ap (descend_by table now words d) (sym p))

-- by bits it is the law, if an empty bucket's mark is at least the serial, and that of another below it
pub descend_is : (table : List ℕ) (now : ℕ) (words : List ℕ) (marks : ℕ → ℕ) (d serial k : ℕ)
    → ((j : ℕ) → 0 < j → j ≤ k → is_in_next table now j d ≡ true
    → (bit_of words (next_list table now j) == 0) ≡ not (nat_lt (marks j) serial))
    → descend_by table now words d k ≡ descend table now marks d serial k
descend_is table now words marks d serial zero h = refl
descend_is table now words marks d serial (suc k) h =
    let ih = descend_is table now words marks d serial k (λ j z b. h j z (omega arith)) in
    elim (either (is_in_next table now (suc k) d)) [
      | inl b ↦
          let e = h (suc k) (omega arith) (omega arith) b in
          elim (either (nat_lt (marks (suc k)) serial)) [
            | inl m ↦ rw (b, e, m) refl
            | inr m ↦ rw (b, e, m) ih
          ]
      | inr b ↦ rw b refl
    ]
