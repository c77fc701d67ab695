-- The placement law of a smooth wheel: each pending timer stands in one list, a start puts it there, and moves and
-- ticks keep it.
use Rattle.std.proofs.Common.{◌≡◌, ◌≢◌, ◌<◌, ◌≤◌, ◌+◌, ℕ, zero, suc, List, length, refl, sym, ◌∙◌, ap, inl, inr, subst, arith, true, false, ◌&&◌, not, nat_lt}
use Rattle.std.proofs.lemmas.Bool.{cases_eq, cases_lt, eq-eqb, ne_eqb}
use Rattle.std.proofs.lemmas.Bool.Decides.{nat_tests}
use Rattle.timer_base.proofs.Basics.{either}
use Rattle.timer_base.specs.declared.timer.Timer.{Timer}
use Rattle.timer_wheels.specs.Digits.{IsTable, HasDigits, level}
use Rattle.timer_wheels.specs.smooth.Smooth.{slot_in, smooth_list, is_in_next, descend, smooth_level, smooth_bucket, Stands}
use Rattle.timer_wheels.proofs.table_lemmas.DigitLaws.{level_in_table}
use Rattle.timer_wheels.proofs.smooth_lemmas.Slots.{slot_low, slots_mono, slots_near, slots_step, level_in_slots}

-- A timer stands on one wheel.

not_lower : (table : List ℕ) (now : ℕ) (marks : ℕ → ℕ) (s s2 k j : ℕ) (t : Timer) → IsTable table → k < j
    → Stands table now marks s k t → Stands table now marks s2 j t → ⊥
not_lower table now marks s s2 k j t i h low high =
    let near = slots_near table (suc k) j now t.deadline i (omega arith) low.near in
    let e : slot_in table j t.deadline ≡ slot_in table j now + 1 = omega (arith, near, high.ahead) in
    let p = low.passed j h high.wheel e in
    let q = high.kept (omega arith) e in
    omega (arith, p, q)

pub stands_once : (table : List ℕ) (now : ℕ) (marks : ℕ → ℕ) (s s2 k j : ℕ) (t : Timer) → IsTable table
    → Stands table now marks s k t → Stands table now marks s2 j t → (k ≡ j) × (s ≡ s2)
stands_once table now marks s s2 k j t i a b = elim (cases_eq k j) [
  | inl e ↦ (e, a.at_list ∙ (ap (λ (x : ℕ). smooth_list table x (slot_in table x t.deadline)) e ∙ sym b.at_list))
  | inr n ↦ elim (cases_lt k j) [
    | inl l ↦ absurd (not_lower table now marks s s2 k j t i l a b)
    | inr l ↦ absurd (not_lower table now marks s2 s j k t i (omega arith) b a)
  ]
]

-- From a wheel downwards.

-- what is known of a timer at a wheel before it goes down
pub record MayDescend (table : List ℕ) (now : ℕ) (marks : ℕ → ℕ) (k : ℕ) (t : Timer) : Type 0 where
  pub wheel : k < length table
  pub ahead : slot_in table k now < slot_in table k t.deadline
  pub near : slot_in table (suc k) t.deadline ≤ slot_in table (suc k) now + 1
  pub passed : (j : ℕ) → k < j → j < length table → slot_in table j t.deadline ≡ slot_in table j now + 1 → t.serial ≤ marks j

-- one wheel lower
pub down_one : (table : List ℕ) (now : ℕ) (marks : ℕ → ℕ) (k : ℕ) (t : Timer) → IsTable table
    → MayDescend table now marks (suc k) t → slot_in table (suc k) t.deadline ≡ slot_in table (suc k) now + 1
    → t.serial ≤ marks (suc k) → MayDescend table now marks k t
down_one table now marks k t i m e h = record {
  wheel = omega (arith, m.wheel);
  ahead = elim (cases_lt (slot_in table k now) (slot_in table k t.deadline)) [
    | inl l ↦ l
    | inr l ↦ absurd (omega (arith, m.ahead, slots_mono table k (suc k) now t.deadline i (omega arith) (omega arith)))
  ];
  near = omega arith;
  passed = λ j b c f. elim (cases_eq j (suc k)) [
    | inl q ↦ subst (λ (x : ℕ). t.serial ≤ marks x) (sym q) h
    | inr n ↦ m.passed j (omega arith) c f
  ];
}

here_stands : (table : List ℕ) (now : ℕ) (marks : ℕ → ℕ) (k : ℕ) (t : Timer) → MayDescend table now marks k t
    → (0 < k → slot_in table k t.deadline ≡ slot_in table k now + 1 → marks k < t.serial)
    → Stands table now marks (smooth_list table k (slot_in table k t.deadline)) k t
here_stands table now marks k t m h = record {
  wheel = m.wheel;
  at_list = refl;
  ahead = m.ahead;
  near = m.near;
  passed = m.passed;
  kept = h;
}

abbrev pub IsPlacedFrom : List ℕ → ℕ → (ℕ → ℕ) → ℕ → Timer → Type 0
IsPlacedFrom table now marks k t = Stands table now marks
    (smooth_list table (descend table now marks t.deadline t.serial k) (slot_in table (descend table now marks t.deadline t.serial k) t.deadline))
    (descend table now marks t.deadline t.serial k) t

pub descend_stands : (table : List ℕ) (now : ℕ) (marks : ℕ → ℕ) (k : ℕ) (t : Timer) → IsTable table
    → MayDescend table now marks k t → IsPlacedFrom table now marks k t
descend_stands table now marks zero t i m = here_stands table now marks zero t m (λ z e. absurd (omega arith))
descend_stands table now marks (suc k) t i m = elim (cases_eq (slot_in table (suc k) t.deadline) (slot_in table (suc k) now + 1)) [
  | inl e ↦ elim (cases_lt (marks (suc k)) t.serial) [
    | inl l ↦
        let b : nat_lt (marks (suc k)) t.serial ≡ true = grind (arith, nat_tests) in
        rw (eq-eqb (slot_in table (suc k) t.deadline) (slot_in table (suc k) now + 1) e, b)
        (here_stands table now marks (suc k) t m (λ z f. l))
    | inr l ↦
        let b : nat_lt (marks (suc k)) t.serial ≡ false = grind (arith, nat_tests) in
        rw (eq-eqb (slot_in table (suc k) t.deadline) (slot_in table (suc k) now + 1) e, b)
        (descend_stands table now marks k t i (down_one table now marks k t i m e l))
  ]
  | inr n ↦ rw (ne_eqb (slot_in table (suc k) t.deadline) (slot_in table (suc k) now + 1) n)
      (here_stands table now marks (suc k) t m (λ z f. absurd (n f)))
]

-- A start: the law names a list in which the timer stands.
pub started_stands : (table : List ℕ) (now : ℕ) (marks : ℕ → ℕ) (t : Timer) → IsTable table → HasDigits table t.deadline → now < t.deadline
    → Stands table now marks (smooth_bucket table now marks t) (smooth_level table now marks t) t
started_stands table now marks t i h l =
    let k : ℕ = level table now t.deadline in
    let v = level_in_slots table now t.deadline i h l in
    descend_stands table now marks k t i (record {
      wheel = level_in_table table now t.deadline i h l;
      ahead = v.ahead;
      near = omega (arith, v.same);
      passed = λ j b c e. absurd (omega (arith, slots_mono table (suc k) j now t.deadline i (omega arith) (omega (arith, v.same))));
    })

-- so the law is the relation
pub stands_by_law : (table : List ℕ) (now : ℕ) (marks : ℕ → ℕ) (s k : ℕ) (t : Timer) → IsTable table → HasDigits table t.deadline
    → now < t.deadline → Stands table now marks s k t → smooth_bucket table now marks t ≡ s
stands_by_law table now marks s k t i h l a =
    sym (stands_once table now marks s (smooth_bucket table now marks t) k (smooth_level table now marks t) t i a
    (started_stands table now marks t i h l)).1

-- A move: marks rise, and the timer that moved goes down.

pub others_stand : (table : List ℕ) (now : ℕ) (marks marks2 : ℕ → ℕ) (s k : ℕ) (t : Timer) → ((j : ℕ) → 0 < j → j < length table → marks j ≤ marks2 j)
    → (0 < k → slot_in table k t.deadline ≡ slot_in table k now + 1 → marks2 k < t.serial)
    → Stands table now marks s k t → Stands table now marks2 s k t
others_stand table now marks marks2 s k t rise kept a = record {
  wheel = a.wheel;
  at_list = a.at_list;
  ahead = a.ahead;
  near = a.near;
  passed = λ j b c e. omega (arith, a.passed j b c e, rise j (omega arith) c);
  kept = kept;
}

pub moved_stands : (table : List ℕ) (now : ℕ) (marks marks2 : ℕ → ℕ) (s k : ℕ) (t : Timer) → IsTable table → ((j : ℕ) → 0 < j → j < length table → marks j ≤ marks2 j)
    → slot_in table (suc k) t.deadline ≡ slot_in table (suc k) now + 1 → t.serial ≤ marks2 (suc k)
    → Stands table now marks s (suc k) t → IsPlacedFrom table now marks2 k t
moved_stands table now marks marks2 s k t i rise e h a = descend_stands table now marks2 k t i (down_one table now marks2 k t i (record {
  wheel = a.wheel;
  ahead = a.ahead;
  near = a.near;
  passed = λ j b c f. omega (arith, a.passed j b c f, rise j (omega arith) c);
}) e h)

-- it goes below its wheel
pub descend_below : (table : List ℕ) (now : ℕ) (marks : ℕ → ℕ) (k : ℕ) (t : Timer) → descend table now marks t.deadline t.serial k ≤ k
descend_below table now marks zero t = omega arith
descend_below table now marks (suc k) t = elim (either (is_in_next table now (suc k) t.deadline && not (nat_lt (marks (suc k)) t.serial))) [
  | inl b ↦ rw b (omega (arith, descend_below table now marks k t))
  | inr b ↦ rw b (omega arith)
]

-- A tick: a timer that is not due stands where it stood, if its bucket does not begin to be the present one.
pub ticked_stands : (table : List ℕ) (a : ℕ) (marks marks2 : ℕ → ℕ) (s k : ℕ) (t : Timer) → IsTable table → t.deadline ≢ a + 1
    → ((j : ℕ) → 0 < j → j < length table → slot_in table j (a + 1) ≡ slot_in table j a → marks2 j ≡ marks j)
    → (0 < k → slot_in table k t.deadline ≡ slot_in table k a + 1 → slot_in table k (a + 1) ≡ slot_in table k a)
    → (0 < k → slot_in table k t.deadline ≡ slot_in table k (a + 1) + 1 → marks2 k < t.serial)
    → Stands table a marks s k t → Stands table (a + 1) marks2 s k t
ticked_stands table a marks marks2 s k t i not_due same empty kept st = record {
  wheel = st.wheel;
  at_list = st.at_list;
  ahead = ahead k empty st;
  near = omega (arith, st.near, slots_least (suc k));
  passed = λ j b c e. elim (slots_step table j a i) [
    | inl q ↦ let p = st.passed j b c (omega arith) in omega (arith, p, same j (omega arith) c q)
    | inr q ↦ absurd (omega (arith, slots_near table (suc k) j a t.deadline i (omega arith) st.near))
  ];
  kept = kept;
} where
  slots_least : (j : ℕ) → slot_in table j a ≤ slot_in table j (a + 1)
  slots_least j = elim (slots_step table j a i) [ inl q ↦ omega arith | inr q ↦ omega arith ]

  ahead : (n : ℕ) → (0 < n → slot_in table n t.deadline ≡ slot_in table n a + 1 → slot_in table n (a + 1) ≡ slot_in table n a)
      → Stands table a marks s n t → slot_in table n (a + 1) < slot_in table n t.deadline
  ahead zero f x = omega (arith, slot_low table (a + 1), slot_low table t.deadline, slot_low table a, x.ahead)
  ahead (suc n) f x = elim (slots_step table (suc n) a i) [
    | inl q ↦ omega (arith, x.ahead)
    | inr q ↦ elim (cases_eq (slot_in table (suc n) t.deadline) (slot_in table (suc n) a + 1)) [
      | inl e ↦ absurd (omega (arith, f (omega arith) e))
      | inr e ↦ omega (arith, x.ahead)
    ]
  ]
