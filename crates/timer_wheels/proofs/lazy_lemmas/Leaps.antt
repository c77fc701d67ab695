-- Ticks of a lazy hierarchy that visit no bucket with a timer, and the tick to which its clock leaps.
use Rattle.std.proofs.Common.{◌≡◌, ◌<◌, ◌≤◌, ◌+◌, ◌-◌, ◌*◌, ◌/◌, ◌%◌, ◌⊎◌, ℕ, List, [], ◌∷◌, sym, ◌∙◌, ap, subst, inl, inr, arith, Some}
use Rattle.std.specs.List.{AllByRecursion}
use Rattle.std.proofs.Math.Nat.{mul-le-mul_left, div-lt_iff_lt-mul}
use Rattle.std.proofs.lemmas.Bool.{cases_eq, cases_lt}
use Rattle.timer_base.proofs.OrderLaws.{All-weaken}
use Rattle.timer_base.specs.WheelState.{Advances, IsPassing, after_tick, after_ticks}
use Rattle.timer_wheels.specs.Types.{WheelState, Ghosts, list_at, Row, Rows, Table}
use Rattle.timer_wheels.specs.Digits.{IsTable, HasDigits, slots, emptied, lowest_radix}
use Rattle.timer_wheels.specs.lazy.Files.{AreFiles, AreVisitedFrom}
use Rattle.timer_wheels.specs.hier.Leap.{list_visit}
use Rattle.timer_wheels.specs.Occupied.{bit_of, filled, IsFirstSet}
use Rattle.timer_wheels.specs.smooth.SmoothWheel.{PassesSomeTicks}
use Rattle.timer_wheels.specs.Tables.{radices}
use Rattle.timer_wheels.specs.declared.buckets.Buckets.{Buckets}
use Rattle.timer_wheels.specs.declared.table.TheConstants.{MOST_BUCKETS}
use Rattle.timer_wheels.proofs.table_lemmas.DigitLaws.{visit_here, visit_above}
use Rattle.timer_wheels.proofs.lazy_lemmas.FiledLemmas.{ahead_until, emptied_there, visited_later}
use Rattle.timer_wheels.proofs.lazy_lemmas.FilesLemmas.{IsKnownFile, is_table, known_files, none_where, spare_none, first_in_table, filled_there}

-- Ticks that passed with nothing due.

pub passing_one : (tick : ℕ) (old new : WheelState) → IsPassing (tick + 1 - tick) old new → new ≡ after_tick old
passing_one tick old new p = let one : tick + 1 - tick ≡ 1 = omega arith in p.ticked ∙ ap (λ (n : ℕ). after_ticks n old) one

pub passing_passes : (n : ℕ) (old new : WheelState) → 0 < n → new.now ≡ old.now + n → IsPassing n old new → PassesSomeTicks old new
passing_passes n old new some now p =
    let k : new.now - old.now ≡ n = omega arith in
    record {
      later = omega arith;
      ticked = p.ticked ∙ ap (λ (x : ℕ). after_ticks x old) (sym k);
      quiet = λ m h. p.quiet m (omega arith);
    }

pub passing_advances : (most : ℕ) (old new : WheelState) → 0 < most → IsPassing most old new → Advances most most old new
passing_advances most old new some p = record {
  some = some;
  at_most = omega arith;
  ticked = p.ticked;
  quiet = λ n h. p.quiet n (omega arith);
  early = λ h. absurd (omega arith);
}

-- Visits.

-- a list behind the slot of a tick in the lowest wheel's present revolution is visited after the tick
visit_behind : (table : List ℕ) (s a end : ℕ) → IsTable table → a < list_visit table s a
    → end / lowest_radix table ≡ a / lowest_radix table → end % lowest_radix table < s → end < list_visit table s a
visit_behind [] s a end t h e k = absurd (omega arith)
visit_behind (r ∷ rs) s a end t h e k =
    let z : 0 < r = t.0 in
    let same : r * (end / r) ≡ r * (a / r) = ap (λ (x : ℕ). r * x) e in
    elim (cases_lt s r) [
      | inl c ↦ rw (visit_here r rs s a c) (omega arith)
      | inr c ↦
          let v : list_visit (r ∷ rs) s a ≡ r * list_visit rs (s - r) (a / r) = visit_above r rs s a c in
          let later : a / r < list_visit rs (s - r) (a / r) = (div-lt_iff_lt-mul z).1 (omega arith) in
          let less : r * (a / r + 1) ≤ r * list_visit rs (s - r) (a / r) = mul-le-mul_left r (omega arith) in
          omega arith
    ]

module _ {N : Type 0} {kept : Ghosts N} {t : Table} {b : Buckets N kept} {words : List ℕ} (h : AreFiles t b words) where
  abbrev Known : ℕ → Row → Type 0
  Known s row = IsKnownFile (radices t) b.last_tick b.tick b.last_serial s row

  -- the lists that are visited after a tick, or have no timer
  visited_after : (tick : ℕ) → ((s : ℕ) → s < b.slots → (list_at s b.links.lists ≡ []) ⊎ ((row : Row) → Known s row → tick < list_visit (radices t) s b.tick))
      → AreVisitedFrom (radices t) (tick + 1) b.tick b.slots b.links.lists
  visited_after tick f s k = elim (f s k) [
    | inl none ↦ rw none tt
    | inr later ↦ All-weaken (Known s) (λ row. tick + 1 ≤ list_visit (radices t) s b.tick) (list_at s b.links.lists)
        (λ row q. (let v : tick < list_visit (radices t) s b.tick = later row q in omega arith)) (known_files h s k)
  ]

  -- the next tick, if the bucket that it empties has no timer
  pub passes_by : list_at (emptied (radices t) (b.tick + 1)) b.links.lists ≡ []
      → AreVisitedFrom (radices t) (b.tick + 1 + 1) b.tick b.slots b.links.lists
  passes_by none = visited_after (b.tick + 1) (λ s k. elim (cases_eq s (emptied (radices t) (b.tick + 1))) [
    | inl e ↦ inl (ap (λ (x : ℕ). list_at x b.links.lists) e ∙ none)
    | inr n ↦ inr (λ row q. visited_later (radices t) b.tick s (is_table h) q.digits q.filed.ahead n)
  ])

  -- ticks of the lowest wheel's present revolution, if no bucket up to the last one's slot has a timer
  pub quiet_to : (end : ℕ) → end / lowest_radix (radices t) ≡ b.tick / lowest_radix (radices t)
      → ((s : ℕ) → s ≤ end % lowest_radix (radices t) → bit_of words s ≡ 0)
      → AreVisitedFrom (radices t) (end + 1) b.tick b.slots b.links.lists
  quiet_to end e clear = visited_after end (λ s k. elim (cases_lt (end % lowest_radix (radices t)) s) [
    | inl c ↦ inr (λ row q. visit_behind (radices t) s b.tick end (is_table h) q.filed.ahead.later e c)
    | inr c ↦ inl (elim (cases_lt s (slots (radices t))) [
      | inl m ↦ none_where h s m (clear s c)
      | inr m ↦ spare_none h s m k
    ])
  ])

  -- the first bucket with a timer is emptied at its visit
  pub first_emptied : (l tick : ℕ) → IsFirstSet MOST_BUCKETS words (Some l) → b.tick ≤ tick → tick + 1 ≡ list_visit (radices t) l b.tick
      → l ≡ emptied (radices t) (tick + 1)
  first_emptied l tick f k e = by_row (list_at l b.links.lists) (filled_there h l f)
      (known_files h l (omega (arith, first_in_table h l f, h.has_slots)))
    where
      by_row : (rows : Rows) → filled rows ≡ 1 → AllByRecursion (Known l) rows → l ≡ emptied (radices t) (tick + 1)
      by_row [] z a = absurd (omega arith)
      by_row (r ∷ rs) z a =
          let ahead = ahead_until (radices t) b.tick l (is_table h) a.0.digits a.0.filed.ahead tick k (omega arith) in
          let still : tick < list_visit (radices t) l tick = ahead.0.later in
          let not_after : list_visit (radices t) l tick ≤ list_visit (radices t) l b.tick = ahead.1 in
          let same : list_visit (radices t) l tick ≡ list_visit (radices t) l b.tick = omega arith in
          emptied_there (radices t) tick l (is_table h) (subst (λ (x : ℕ). HasDigits (radices t) x) (sym same) a.0.digits) ahead.0 (omega arith)
