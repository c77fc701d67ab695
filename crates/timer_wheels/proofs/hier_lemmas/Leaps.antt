-- Lemmas for `leap`: the first visit ahead, the clock set forward to it, and the loop of `advance_until_due`.
use Rattle.timer_wheels.specs.Types.{LAST, WheelState, Ghosts, list_at, Row, Rows, Table}
use Rattle.timer_wheels.specs.declared.table.TheConstants.{MOST_BUCKETS}
use Rattle.timer_wheels.proofs.bucket_lemmas.RoomLemmas.{leaps-with_room}
use Rattle.std.proofs.Common.{◌≡◌, ◌<◌, ◌≤◌, ◌+◌, ◌-◌, ◌*◌, ◌/◌, ◌%◌, ℕ, List, [], ◌∷◌, length, refl, sym, ◌∙◌, ap, inl, inr, arith, Some}
use Rattle.std.specs.List.{AllByRecursion}
use Rattle.std.proofs.lemmas.Bool.{cases_lt}
use Rattle.timer_base.proofs.OrderLaws.{All-weaken}
use Rattle.timer_base.specs.WakeUps.{IsWakeUp}
use Rattle.timer_base.specs.WheelState.{with_room, IsPending, after_tick, after_ticks, Advances}
use Rattle.timer_wheels.specs.Buckets.{state_of}
use Rattle.timer_wheels.specs.declared.buckets.Buckets.{Buckets}
use Rattle.timer_wheels.specs.declared.hier.wheels.Wheels.{Wheels}
use Rattle.std.proofs.Math.Nat.{mul-le-mul_right}
use Rattle.timer_wheels.specs.Digits.{IsTable, HasDigits, slots, last_of, lowest_radix, bucket}
use Rattle.timer_wheels.proofs.bucket_lemmas.AllLemmas.{all-both}
use Rattle.timer_wheels.proofs.table_lemmas.DigitLaws.{digits_down, visit_here, visit_above}
use Rattle.timer_wheels.specs.Tables.{radices}
use Rattle.timer_wheels.specs.hier.Hier.{IsHier}
use Rattle.timer_wheels.specs.hier.Leap.{list_visit, timer_visit, AreNotVisitedBefore, Leaps}
use Rattle.timer_wheels.specs.Occupied.{bit_of, filled, IsFirstSet}
use Rattle.timer_wheels.specs.hier.Placement.{IsPlaced, hops_of, levels_of}
use Rattle.timer_wheels.specs.BucketLists.{row_timer, rows_below, wheel_state, ArePending, EachRow}
use Rattle.timer_wheels.proofs.hier_lemmas.LeapLemmas.{leapt, leapt_placed, leapt_pending, leaps_none, leaps_tick, leaps_on}
use Rattle.timer_wheels.proofs.bucket_lemmas.OccupiedLemmas.{no_rows_there}
use Rattle.timer_wheels.proofs.bucket_lemmas.RowLemmas.{all-list_at}
use Rattle.timer_wheels.proofs.table_lemmas.VisitLaws.{visit_later, visit_in_time, list_is, list_first}
use Rattle.timer_wheels.proofs.table_lemmas.TableLaws.{of_table}
use Rattle.timer_wheels.proofs.bucket_lemmas.WakeUpLemmas.{wakes, sleeps}

-- The next tick that empties a bucket with a timer.

-- a timer whose slot is past that of a tick in the lowest wheel's revolution is visited after the tick
visit_past : (table : List ℕ) (now d end s : ℕ) → IsTable table → HasDigits table d → now < d → bucket table now d ≡ s
    → end / lowest_radix table ≡ now / lowest_radix table → end % lowest_radix table < s → end + 1 ≤ timer_visit table now d
visit_past [] now d end s t i h p e c = absurd (let z : d ≡ 0 = i in omega arith)
visit_past (r ∷ rs) now d end s t i h p e c =
    let v : list_visit (r ∷ rs) s now ≡ timer_visit (r ∷ rs) now d =
    ap (λ (x : ℕ). list_visit (r ∷ rs) x now) (sym p) ∙ list_is (r ∷ rs) now d t i h in
    let turn : r * (end / r) ≡ r * (now / r) = ap (λ (x : ℕ). r * x) e in
    elim (cases_lt s r) [
      | inl k ↦ omega (arith, t.0, v, visit_here r rs s now k, turn)
      | inr k ↦
          let q : ℕ = list_visit rs (s - r) (now / r) in
          let w : r * q ≡ timer_visit (r ∷ rs) now d = sym (visit_above r rs s now k) ∙ v in
          elim (cases_lt (now / r) q) [
            | inl m ↦ omega (arith, t.0, w, turn, mul-le-mul_right r (let x : now / r + 1 ≤ q = omega arith in x))
            | inr m ↦ absurd (omega (arith, t.0, w, mul-le-mul_right r m, visit_later (r ∷ rs) now d t h))
          ]
    ]

-- a row as the invariant knows it
pub record IsKnown (table : List ℕ) (now s : ℕ) (row : Row) : Type 0 where
  pub later : now < (row_timer row).deadline
  pub digits : HasDigits table (row_timer row).deadline
  pub placed : bucket table now (row_timer row).deadline ≡ s

module _ {N : Type 0} {kept : Ghosts N} {t : Table} {b : Buckets N kept} {words : List ℕ} (h : IsHier t b words) where
  pub last_digits : HasDigits (radices t) b.last_tick
  last_digits = rw h.clock (of_table t).digits

  slots_fit : b.slots ≤ MOST_BUCKETS
  slots_fit = omega (arith, h.has_slots, (of_table t).few_slots)

  pub known : (s : ℕ) → s < b.slots → AllByRecursion (IsKnown (radices t) b.tick s) (list_at s b.links.lists)
  known s k = all-both (λ row. IsPending b.last_tick b.tick b.last_serial (row_timer row)) (IsPlaced (radices t) b.tick s)
      (IsKnown (radices t) b.tick s) (list_at s b.links.lists)
      (λ row p q. record {
        later = p.later;
        digits = digits_down (radices t) (row_timer row).deadline b.last_tick (of_table t).is_table p.in_range last_digits;
        placed = q.0;
      })
      (all-list_at (λ row. IsPending b.last_tick b.tick b.last_serial (row_timer row)) b.slots b.links.lists b.sound.pending s k) (h.placed s k)

  pub none_where : (s : ℕ) → s < b.slots → bit_of words s ≡ 0 → list_at s b.links.lists ≡ []
  none_where s k z = no_rows_there (list_at s b.links.lists) (sym (h.marked.0 s k) ∙ z)

  pub none_ahead : (visit : ℕ) → ((s : ℕ) → s < MOST_BUCKETS → bit_of words s ≡ 0) → AreNotVisitedBefore (radices t) b.slots b.tick visit
      b.links.lists
  none_ahead visit f s k = rw (none_where s k (f s (omega (arith, slots_fit)))) tt

  -- a bit that is set is that of a bucket
  pub first_in : (l : ℕ) → l < MOST_BUCKETS → bit_of words l ≡ 1 → l < b.slots
  first_in l f e = elim (cases_lt l b.slots) [
    | inl c ↦ c
    | inr c ↦ absurd (omega (arith, h.marked.1 l c f))
  ]

  pub first_in_range : (l : ℕ) → IsFirstSet MOST_BUCKETS words (Some l) → l < slots (radices t)
  first_in_range l f = omega (arith, first_in l f.0 f.1, h.has_slots)

  -- and the bucket has a timer
  filled_there : (l : ℕ) → IsFirstSet MOST_BUCKETS words (Some l) → filled (list_at l b.links.lists) ≡ 1
  filled_there l f = sym (h.marked.0 l (first_in l f.0 f.1)) ∙ f.1

  some_if_filled : (rows : Rows) → filled rows ≡ 1 → 0 < length rows
  some_if_filled [] e = absurd (omega arith)
  some_if_filled (r ∷ rs) e = omega arith

  pub first_some : (l : ℕ) → IsFirstSet MOST_BUCKETS words (Some l) → 0 < length (list_at l b.links.lists)
  first_some l f = some_if_filled (list_at l b.links.lists) (filled_there l f)

  pub first_ahead : (l visit : ℕ) → visit ≡ list_visit (radices t) l b.tick → IsFirstSet MOST_BUCKETS words (Some l)
      → AreNotVisitedBefore (radices t) b.slots b.tick visit b.links.lists
  first_ahead l visit e f s k = elim (cases_lt s l) [
    | inl c ↦ rw (none_where s k (f.2 s c)) tt
    | inr c ↦ All-weaken (IsKnown (radices t) b.tick s) (λ row. visit ≤ timer_visit (radices t) b.tick (row_timer row).deadline)
        (list_at s b.links.lists)
        (λ row w. rw e (list_first (radices t) l b.tick (row_timer row).deadline (of_table t).is_table w.digits w.later
        (omega (arith, w.placed))))
        (known s k)
  ]

  -- nothing is visited up to a tick within the lowest wheel's revolution, if no bucket up to its slot has a timer
  pub quiet_to : (end : ℕ) → end / lowest_radix (radices t) ≡ b.tick / lowest_radix (radices t)
      → ((s : ℕ) → s ≤ end % lowest_radix (radices t) → bit_of words s ≡ 0)
      → AreNotVisitedBefore (radices t) b.slots b.tick (end + 1) b.links.lists
  quiet_to end e f s k = elim (cases_lt (end % lowest_radix (radices t)) s) [
    | inl c ↦ All-weaken (IsKnown (radices t) b.tick s) (λ row. end + 1 ≤ timer_visit (radices t) b.tick (row_timer row).deadline)
        (list_at s b.links.lists)
        (λ row w. visit_past (radices t) b.tick (row_timer row).deadline end s (of_table t).is_table w.digits w.later w.placed e c)
        (known s k)
    | inr c ↦ rw (none_where s k (f s c)) tt
  ]

  later_by : (l : ℕ) (rows : Rows) → filled rows ≡ 1 → AllByRecursion (IsKnown (radices t) b.tick l) rows
      → b.tick < list_visit (radices t) l b.tick
  later_by l [] e a = absurd (omega arith)
  later_by l (r ∷ rs) e a =
      let q : list_visit (radices t) l b.tick ≡ timer_visit (radices t) b.tick (row_timer r).deadline =
      ap (λ (x : ℕ). list_visit (radices t) x b.tick) (sym a.0.placed)
      ∙ list_is (radices t) b.tick (row_timer r).deadline (of_table t).is_table a.0.digits a.0.later in
      omega (arith, visit_later (radices t) b.tick (row_timer r).deadline (of_table t).is_table a.0.later)

  pub first_later : (l visit : ℕ) → visit ≡ list_visit (radices t) l b.tick → IsFirstSet MOST_BUCKETS words (Some l) → b.tick < visit
  first_later l visit e f =
      omega (arith, later_by l (list_at l b.links.lists) (filled_there l f) (known l (first_in l f.0 f.1)))

  -- the next tick that empties a bucket with a timer is one to wake up at
  pub first_wakes : (l visit : ℕ) → visit ≡ list_visit (radices t) l b.tick → IsFirstSet MOST_BUCKETS words (Some l) → IsWakeUp visit b.tick (state_of b).pending
  first_wakes l visit e f =
      wakes b.slots b.last_tick b.tick b.last_serial b.links.lists visit l (first_in l f.0 f.1)
      (first_some l f) (first_later l visit e f)
      (λ s k. All-weaken (λ row. visit ≤ timer_visit (radices t) b.tick (row_timer row).deadline) (λ row. visit ≤ (row_timer row).deadline)
      (list_at s b.links.lists)
      (λ row q. omega (arith, visit_in_time (radices t) b.tick (row_timer row).deadline (of_table t).is_table))
      (first_ahead l visit e f s k))

  pub none_wakes : ((s : ℕ) → s < MOST_BUCKETS → bit_of words s ≡ 0) → (state_of b).pending ≡ []
  none_wakes f = sleeps b.slots b.last_tick b.tick b.last_serial b.links.lists
      (λ s k. none_where s k (f s (omega (arith, slots_fit))))

-- The clock alone advances.

pub record HasSkipped {N : Type 0} {kept : Ghosts N} (t : Table) (b : Buckets N kept) (tick : ℕ) : Type 0 where
  pub pending : ArePending b.last_tick tick b.last_serial (rows_below b.slots b.links.lists)
  pub placed : EachRow (IsPlaced (radices t) tick) b.slots b.links.lists
  pub leaps : Leaps (radices t) 0 (state_of b)
      (with_room b.links.room (wheel_state b.slots b.last_tick tick b.last_serial b.links.lists))

module _ {N : Type 0} {kept : Ghosts N} {t : Table} {b : Buckets N kept} {words : List ℕ} (h : IsHier t b words) (z : (state_of b).due ≡ []) where
  skipped_by : (n tick : ℕ) → b.tick + n ≡ tick → AreNotVisitedBefore (radices t) b.slots b.tick (tick + 1) b.links.lists
      → HasSkipped t b (b.tick + n)
  skipped_by n tick e q =
      let near : b.tick + n < tick + 1 = omega arith in
      let i = (of_table t).is_table in
      let d = last_digits h in
      record {
        pending = leapt_pending (radices t) b.last_tick b.tick (tick + 1) n i d near b.slots b.last_serial b.links.lists b.sound.pending q;
        placed = leapt_placed (radices t) b.last_tick b.tick (tick + 1) n i d near b.slots b.last_serial b.links.lists b.sound.pending q h.placed;
        leaps = leaps-with_room b.links.room _ _ _ _
            (leapt (radices t) b.last_tick b.tick (tick + 1) n i d near b.slots b.last_serial b.links.lists b.sound.pending q z);
      }

  pub skipped : (tick : ℕ) → b.tick ≤ tick → AreNotVisitedBefore (radices t) b.slots b.tick (tick + 1) b.links.lists → HasSkipped t b tick
  skipped tick l q = let e : b.tick + (tick - b.tick) ≡ tick = omega arith in rw e at (skipped_by (tick - b.tick) tick e q)

-- One leap, and the tick after it.

pub leap_and_tick : (table : List ℕ) (moves : ℕ) (old mid new : WheelState) → Leaps table 0 old mid → mid.due ≡ [] → new ≡ after_tick mid
    → moves ≡ hops_of table mid.now 1 mid.pending → moves + levels_of table new.now new.pending ≤ levels_of table mid.now mid.pending
    → Leaps table moves old new
leap_and_tick table moves old mid new a z e m p =
    let none : 0 + moves ≡ moves = omega arith in
    rw none at (leaps_on table 0 moves old mid new a z (leaps_tick table moves mid new z e m p))

-- Leap by leap.

pub record IsAdvancing {N : Type 0} {kept : Ghosts N} (most moves : ℕ) (first w : Wheels N kept) : Type 0 where
  pub table : w.table ≡ first.table
  pub last_tick : w.buckets.last_tick ≡ first.buckets.last_tick
  pub nothing_due : (state_of w.buckets).due ≡ []
  pub leaps : Leaps (radices first.table) moves (state_of first.buckets) (state_of w.buckets)
  pub not_past : w.buckets.tick ≤ first.buckets.tick + most

pub advancing_none : {N : Type 0} {kept : Ghosts N} (most : ℕ) (w : Wheels N kept) → (state_of w.buckets).due ≡ [] → IsAdvancing most 0 w w
advancing_none most w z = record {
  table = refl;
  last_tick = refl;
  nothing_due = z;
  leaps = leaps_none (radices w.table) (state_of w.buckets);
  not_past = omega arith;
}

module _ {N : Type 0} {kept : Ghosts N} {most moves : ℕ} {first w : Wheels N kept} (a : IsAdvancing most moves first w) (more : ℕ) (new : Wheels N kept)
    (l : Leaps (radices w.table) more (state_of w.buckets) (state_of new.buckets)) where
  pub leap_from : Leaps (radices first.table) more (state_of w.buckets) (state_of new.buckets)
  leap_from = rw a.table at l

  pub leaps_all : Leaps (radices first.table) (moves + more) (state_of first.buckets) (state_of new.buckets)
  leaps_all = leaps_on (radices first.table) moves more (state_of first.buckets) (state_of w.buckets) (state_of new.buckets) a.leaps
      a.nothing_due leap_from

  pub advancing_leap : new.table ≡ w.table → (state_of new.buckets).due ≡ [] → new.buckets.tick ≤ first.buckets.tick + most
      → IsAdvancing most (moves + more) first new
  advancing_leap t z e = record {
    table = t ∙ a.table;
    last_tick = new.hier.clock ∙ (ap (λ (y : Table). last_of (radices y)) (t ∙ a.table) ∙ sym first.hier.clock);
    nothing_due = z;
    leaps = leaps_all;
    not_past = e;
  }

-- the count of moves does not overflow
pub moves_fit : (table : List ℕ) (moves more : ℕ) (u v w : WheelState) → Leaps table moves u v → Leaps table more v w
    → levels_of table u.now u.pending ≤ 9 * LAST → moves + more < 18446744073709551616
moves_fit table moves more u v w a b r = omega (arith, a.pays, b.pays)

pub advancing_ends : (table : List ℕ) (most moves : ℕ) (u w : WheelState) → Leaps table moves u w → u.now < w.now → w.now ≤ u.now + most
    → (w.now < u.now + most → 0 < length w.due) → Advances most (w.now - u.now) u w
advancing_ends table most moves u w l a b f =
    let n : w.now ≡ u.now + l.passed = l.now_is in
    let e : w.now - u.now ≡ l.passed = omega arith in
    record {
      some = omega arith;
      at_most = omega arith;
      ticked = l.ticked ∙ ap (λ (k : ℕ). after_ticks k u) (sym e);
      quiet = λ k h. l.quiet k (omega arith);
      early = λ h. f (omega arith);
    }
