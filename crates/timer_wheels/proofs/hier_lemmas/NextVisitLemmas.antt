-- Lemmas for `IsNextVisit`: at the visit of a bucket with a timer that timer is due or moves to a lower wheel.
use Rattle.std.proofs.Common.{◌≡◌, ◌≢◌, ◌⊎◌, ◌<◌, ◌≤◌, ◌+◌, ◌-◌, ◌*◌, ◌/◌, ◌==◌, ℕ, zero, suc, List, [], ◌∷◌, length, refl, sym, ◌∙◌, ap, inl, inr, arith, Some, filter}
use Rattle.std.specs.List.{AllByRecursion}
use Rattle.std.proofs.lemmas.Bool.{cases_eq, eq-eqb, ne_eqb}
use Rattle.std.proofs.lemmas.Bool.Decides.{nat_tests}
use Rattle.std.proofs.Math.Nat.{mul-div_right}
use Rattle.timer_base.proofs.OrderLaws.{All-weaken}
use Rattle.timer_base.specs.Pending.{timer_of, timers_of, entries_due, AreAfter}
use Rattle.timer_base.proofs.TickLaws.{left_all, after_ticks-now}
use Rattle.timer_base.specs.WheelState.{IsPending, after_ticks}
use Rattle.timer_wheels.specs.Types.{Entry, WheelState, Ghosts, Table}
use Rattle.timer_wheels.specs.declared.table.TheConstants.{MOST_BUCKETS}
use Rattle.timer_wheels.specs.Buckets.{state_of, state_of-well_formed}
use Rattle.timer_wheels.specs.declared.buckets.Buckets.{Buckets}
use Rattle.timer_wheels.specs.Digits.{IsTable, HasDigits, level, bucket, slots, hops}
use Rattle.timer_wheels.specs.hier.Hier.{IsHier}
use Rattle.timer_wheels.specs.hier.Leap.{list_visit, timer_visit, IsNextVisit}
use Rattle.timer_wheels.specs.Occupied.{IsFirstSet}
use Rattle.timer_wheels.specs.hier.Placement.{bucket_at, no_rounds, hops_of}
use Rattle.timer_wheels.specs.Shown.{entries_at}
use Rattle.timer_wheels.specs.Tables.{radices}
use Rattle.timer_wheels.proofs.bucket_lemmas.AllLemmas.{all-of_map}
use Rattle.timer_wheels.proofs.table_lemmas.DigitLaws.{level_near, level_far, digits_down, less_quotient}
use Rattle.timer_wheels.proofs.hier_lemmas.Leaps.{last_digits, first_in_range, first_ahead, first_later, first_some, first_wakes}
use Rattle.timer_wheels.proofs.hier_lemmas.Invariant.{shown}
use Rattle.timer_wheels.proofs.hier_lemmas.LeapLemmas.{hop_at, leapt_hops}
use Rattle.timer_wheels.proofs.bucket_lemmas.ShownLemmas.{some_at}
use Rattle.timer_wheels.proofs.table_lemmas.TableLaws.{of_table}
use Rattle.timer_wheels.proofs.table_lemmas.VisitLaws.{visit_near, visit_far, visit_in_time, list_is}

-- At the visit of its bucket the level of a timer falls.

falls_far : (r : ℕ) (rs : List ℕ) (a d : ℕ) → 0 < r → a / r ≢ d / r
    → (timer_visit rs (a / r) (d / r) ≢ d / r → level rs (timer_visit rs (a / r) (d / r)) (d / r) < level rs (a / r) (d / r))
    → level (r ∷ rs) (r * timer_visit rs (a / r) (d / r)) d < level (r ∷ rs) a d
falls_far r rs a d z e ih =
    let v : ℕ = timer_visit rs (a / r) (d / r) in
    let q : r * v / r ≡ v = mul-div_right v z in
    let l1 : level (r ∷ rs) a d ≡ suc (level rs (a / r) (d / r)) = level_far r rs a d e in
    elim (cases_eq v (d / r)) [
      | inl k ↦ omega (arith, level_near r rs (r * v) d (q ∙ k))
      | inr k ↦
          let l2 : level (r ∷ rs) (r * v) d ≡ suc (level rs v (d / r)) =
          level_far r rs (r * v) d (λ (x : r * v / r ≡ d / r). k (sym q ∙ x)) ∙ ap (λ (x : ℕ). suc (level rs x (d / r))) q in
          omega (arith, ih k)
    ]

level_falls : (table : List ℕ) (a d : ℕ) → IsTable table → HasDigits table d → a < d → timer_visit table a d ≢ d
    → level table (timer_visit table a d) d < level table a d
level_falls [] a d t i h n = absurd (let z : d ≡ 0 = i in omega arith)
level_falls (r ∷ rs) a d t i h n = elim (cases_eq (a / r) (d / r)) [
  | inl e ↦ absurd (n (visit_near r rs a d e))
  | inr e ↦ rw (visit_far r rs a d e) (falls_far r rs a d t.0 e (level_falls rs (a / r) (d / r) t.1 i (less_quotient r a d h t.0 e)))
]

-- A timer whose level changes over some ticks, and that is still pending after them, has moved.
hop_now : (table : List ℕ) (a d : ℕ) → a + 1 < d → level table a d ≢ level table (a + 1) d → hop_at table a d ≡ 1
hop_now table a d h k = grind (arith, nat_tests)

moved : (table : List ℕ) (n a c d : ℕ) → c ≡ a + n → c < d → level table c d ≢ level table a d → 0 < hops table a n d
moved table zero a c d e h m = absurd (m (ap (λ (x : ℕ). level table x d) (let f : c ≡ a = omega arith in f)))
moved table (suc n) a c d e h m = elim (cases_eq (level table a d) (level table (a + 1) d)) [
  | inl k ↦
      let changed : level table c d ≢ level table (a + 1) d = λ (x : level table c d ≡ level table (a + 1) d). m (x ∙ sym k) in
      omega (arith, moved table n (a + 1) c d (omega arith) h changed)
  | inr k ↦ omega (arith, hop_now table a d (omega arith) k)
]

-- Some pending timer is in the bucket.

-- a pending timer, at its bucket's visit at the latest
pub record MayMove (table : List ℕ) (now : ℕ) (entry : Entry) : Type 0 where
  pub later : now < entry.timer.deadline
  pub digits : HasDigits table entry.timer.deadline

module _ (table : List ℕ) (now visit l n : ℕ) (t : IsTable table) (after : visit ≡ now + n) (is : (d : ℕ) → HasDigits table d → now < d
    → bucket table now d ≡ l → visit ≡ timer_visit table now d) where
  one_moves : (entry : Entry) → MayMove table now entry → bucket table now entry.timer.deadline ≡ l → entry.timer.deadline ≢ visit
      → 0 < hops table now n entry.timer.deadline
  one_moves entry k b m =
      let d : ℕ = entry.timer.deadline in
      let v : visit ≡ timer_visit table now d = is d k.digits k.later b in
      let f : level table visit d < level table now d =
      rw v (level_falls table now d t k.digits k.later (λ (x : timer_visit table now d ≡ d). m (sym (v ∙ x)))) in
      moved table n now visit d after (omega (arith, visit_in_time table now d t)) (omega arith)

  pub some_move : (entries : List Entry) → AllByRecursion (MayMove table now) entries
      → 0 < length (filter (λ entry. bucket table now entry.timer.deadline == l) entries)
      → (0 < length (entries_due visit entries)) ⊎ (0 < hops_of table now n entries)
  some_move [] a h = absurd (omega arith)
  some_move (e ∷ es) a h = elim (cases_eq e.timer.deadline visit) [
    | inl d ↦ inl (rw (eq-eqb e.timer.deadline visit d) (omega arith))
    | inr d ↦ rw (ne_eqb e.timer.deadline visit d) (elim (cases_eq (bucket table now e.timer.deadline) l) [
      | inl b ↦ inr (omega (arith, one_moves e a.0 b d))
      | inr b ↦ elim (some_move es a.1 (rw (ne_eqb (bucket table now e.timer.deadline) l b) at h)) [
        | inl k ↦ inl k
        | inr k ↦ inr (omega arith)
      ]
    ])
  ]

-- What is due then.

same_pending : (n : ℕ) (w : WheelState) → ((k : ℕ) → k < n → AreAfter (w.now + k + 1) w.pending) → (after_ticks n w).pending ≡ w.pending
same_pending zero w f = refl
same_pending (suc n) w f =
    let x : WheelState = after_ticks n w in
    let p : x.pending ≡ w.pending = same_pending n w (λ k h. f k (omega arith)) in
    let u : x.now + 1 ≡ w.now + n + 1 = omega (arith, after_ticks-now n w) in
    rw (p, u) (left_all (w.now + n + 1) w.pending (f n (omega arith)))

pub due_then : (n visit : ℕ) (w : WheelState) → visit ≡ w.now + (n + 1) → ((k : ℕ) → k < n → AreAfter (w.now + k + 1) w.pending)
    → (after_ticks (n + 1) w).due ≡ entries_due visit w.pending
due_then n visit w e f =
    let x : WheelState = after_ticks n w in
    let p : x.pending ≡ w.pending = same_pending n w f in
    let u : x.now + 1 ≡ visit = omega (arith, after_ticks-now n w) in
    let s : n + 1 ≡ suc n = omega arith in
    rw (s, u, p) refl

-- The first bucket with a timer.

may_move : (table : List ℕ) (last now last_serial : ℕ) (entries : List Entry) → IsTable table → HasDigits table last
    → AllByRecursion (IsPending last now last_serial) (timers_of entries) → AllByRecursion (MayMove table now) entries
may_move table last now last_serial entries i h a =
    All-weaken (λ entry. IsPending last now last_serial entry.timer) (MayMove table now) entries
    (λ entry p. record { later = p.later; digits = digits_down table entry.timer.deadline last i p.in_range h })
    (all-of_map timer_of (IsPending last now last_serial) entries a)

module _ {N : Type 0} {kept : Ghosts N} {t : Table} {b : Buckets N kept} {words : List ℕ} (h : IsHier t b words) (l visit : ℕ) (e : visit
    ≡ list_visit (radices t) l b.tick) (f : IsFirstSet MOST_BUCKETS words (Some l)) where
  shown_some : 0 < length (entries_at (bucket_at (radices t) b.tick) l (state_of b).pending)
  shown_some = some_at (slots (radices t)) (bucket_at (radices t) b.tick) no_rounds (state_of b) b.links.lists
      (shown (radices t) b h.has_slots h.placed h.in_order) l (first_in_range h l f) (first_some h l f)

  first_moves : (n : ℕ) → visit ≡ b.tick + n → (0 < length (entries_due visit (state_of b).pending))
      ⊎ (0 < hops_of (radices t) b.tick n (state_of b).pending)
  first_moves n g =
      some_move (radices t) b.tick visit l n (of_table t).is_table g
      (λ d k p q. e ∙ (ap (λ (x : ℕ). list_visit (radices t) x b.tick) (sym q) ∙ list_is (radices t) b.tick d (of_table t).is_table k p))
      (state_of b).pending
      (may_move (radices t) b.last_tick b.tick b.last_serial (state_of b).pending (of_table t).is_table (last_digits h)
      (state_of-well_formed b).each)
      shown_some

  after_them : (k : ℕ) → b.tick + k < visit → AreAfter (b.tick + k) (state_of b).pending
  after_them k g = All-weaken (λ entry. visit ≤ entry.timer.deadline) (λ entry. b.tick + k < entry.timer.deadline) (state_of b).pending
      (λ entry q. omega arith) (first_wakes h l visit e f).in_time

  next_by : (n : ℕ) → visit ≡ b.tick + (n + 1) → (0 < length (after_ticks (n + 1) (state_of b)).due)
      ⊎ (0 < hops_of (radices t) b.tick (n + 1) (state_of b).pending)
  next_by n g = elim (first_moves (n + 1) g) [
    | inl k ↦ inl (rw (due_then n visit (state_of b) g (λ m r. after_later m n r g)) k)
    | inr k ↦ inr k
  ] where
    after_later : (m n : ℕ) → m < n → visit ≡ b.tick + (n + 1) → AreAfter (b.tick + m + 1) (state_of b).pending
    after_later m n r g = let u : b.tick + m + 1 ≡ b.tick + (m + 1) = omega arith in rw u (after_them (m + 1) (omega arith))

  -- its visit is the first tick ahead at which a timer is due or moves
  pub first_next : IsNextVisit (radices t) visit (state_of b)
  first_next =
      let later : b.tick < visit = first_later h l visit e f in
      let s : visit - b.tick - 1 + 1 ≡ visit - b.tick = omega arith in
      record {
        none_before = leapt_hops (radices t) b.last_tick b.tick visit (visit - b.tick - 1) (of_table t).is_table (last_digits h)
            (omega arith) b.slots b.last_serial b.links.lists b.sound.pending (first_ahead h l visit e f);
        some = rw s at (next_by (visit - b.tick - 1) (omega arith));
      }
