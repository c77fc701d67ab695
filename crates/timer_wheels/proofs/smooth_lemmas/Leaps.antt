-- Lemmas for `leap`, `pass` and `advance` of the smooth wheel: many ticks, and what they move.
use Rattle.std.proofs.Common.{◌≡◌, ◌<◌, ◌≤◌, ◌⊎◌, ◌+◌, ◌-◌, ◌*◌, ℕ, suc, List, [], ◌∷◌, length, refl, sym, ◌∙◌, ap, inl, inr, subst, arith, filter, not, Bool}
use Rattle.std.proofs.Math.Nat.{mul-le-mul_right}
use Rattle.std.proofs.lemmas.Bool.{cases_eq, cases_lt}
use Rattle.timer_base.proofs.Basics.{either}
use Rattle.timer_base.proofs.OrderLaws.{All-in_order}
use Rattle.timer_base.specs.Pending.{timer_of, is_due_at, entries_due, entries_left, AreAfter}
use Rattle.timer_base.specs.WheelState.{IsPassing, held_count, after_tick, after_ticks, Advances}
use Rattle.timer_base.proofs.TickLaws.{passing_quiet, after_ticks-add}
use Rattle.timer_wheels.specs.Types.{Entry, WheelState, Ghosts, list_at, Table}
use Rattle.timer_wheels.specs.smooth.Wheels.{AreWheels, next_len}
use Rattle.timer_wheels.specs.BucketLists.{row_timer, entry_of, entries_of, rows_below, EachRow}
use Rattle.timer_wheels.specs.Buckets.{state_of}
use Rattle.timer_wheels.specs.smooth.Paces.{pace_at, pace_sum, AreInTime}
use Rattle.timer_wheels.specs.smooth.Smooth.{mark, ticks_to_half, IsSmooth, IsAheadOf}
use Rattle.timer_wheels.specs.smooth.SmoothWheel.{PassesSomeTicks}
use Rattle.timer_wheels.specs.Tables.{radices}
use Rattle.timer_wheels.specs.declared.buckets.Buckets.{Buckets}
use Rattle.timer_wheels.specs.declared.smooth.slot_lists.TheConstants.{MOST_WHEELS}
use Rattle.timer_wheels.proofs.bucket_lemmas.AllLemmas.{all-both, all-map}
use Rattle.timer_wheels.proofs.smooth_lemmas.PaceSums.{one_of_sum, few_wheels}
use Rattle.timer_wheels.proofs.hashed_lemmas.RevolutionLemmas.{passing_on}
use Rattle.timer_wheels.proofs.bucket_lemmas.RowLemmas.{all-rows_below}
use Rattle.timer_wheels.proofs.smooth_lemmas.WakeUps.{placed}
use Rattle.timer_wheels.proofs.smooth_lemmas.Skips.{tick_ahead}
use Rattle.timer_wheels.proofs.table_lemmas.TableLaws.{of_table}

-- with no pace no next bucket has timers
pub open_of : {N : Type 0} {kept : Ghosts N} (t : Table) (b : Buckets N kept) (paces : List ℕ) → AreInTime t b paces → 0 ≡ pace_sum paces → (k : ℕ) → 0 < k → k < length (radices t)
    → next_len t b k ≡ 0
open_of t b paces h e k z l =
    let p : pace_at paces k ≡ 0 = omega (arith, one_of_sum paces MOST_WHEELS k (few_wheels t k l)) in
    let none : pace_at paces k * ticks_to_half (radices t) b.tick k ≡ 0 * ticks_to_half (radices t) b.tick k =
    ap (λ (x : ℕ). x * ticks_to_half (radices t) b.tick k) p in
    omega (arith, h k z l)

-- The clock alone advances.

module _ {N : Type 0} {kept : Ghosts N} (t : Table) (b : Buckets N kept) (words : List ℕ) (h : AreWheels t b words) (tick : ℕ) (later : b.tick ≤ tick)
    (ahead : EachRow (IsAheadOf (radices t) tick) b.slots b.links.lists) where
  after_rows : EachRow (λ s row. tick < (row_timer row).deadline) b.slots b.links.lists
  after_rows s l = all-both (IsSmooth (radices t) b.tick (mark (radices t) b.tick b.links.lists) s) (IsAheadOf (radices t) tick s)
      (λ row. tick < (row_timer row).deadline) (list_at s b.links.lists)
      (λ row p q. tick_ahead (radices t) p.on tick (row_timer row).deadline (of_table t).is_table (q p.on p.stands.wheel p.stands.at_list))
      (placed t b words h s l) (ahead s l)

  after_all : AreAfter tick (state_of b).pending
  after_all = All-in_order timer_of (λ entry. tick < entry.timer.deadline) (entries_of (rows_below b.slots b.links.lists))
      (all-map entry_of (λ entry. tick < entry.timer.deadline) (rows_below b.slots b.links.lists)
      (all-rows_below (λ row. tick < (row_timer row).deadline) b.slots b.links.lists after_rows))

  pub leap_passes : (new : WheelState) → (state_of b).due ≡ [] → new ≡ record (state_of b) { now = tick }
      → IsPassing (tick - b.tick) (state_of b) new
  leap_passes new z e =
      let n : b.tick + (tick - b.tick) ≡ tick = omega arith in
      subst (λ (w : WheelState). IsPassing (tick - b.tick) (state_of b) w)
      (ap (λ (x : ℕ). record (state_of b) { now = x }) n ∙ sym e)
      (passing_quiet (tick - b.tick) (state_of b) z (subst (λ (x : ℕ). AreAfter x (state_of b).pending) (sym n) after_all))

-- Timers that are held.

parts_length : (p : Entry → Bool) (es : List Entry) → length (filter (λ e. not (p e)) es) + length (filter p es) ≡ length es
parts_length p [] = refl
parts_length p (x ∷ xs) = elim (either (p x)) [
  | inl k ↦ rw k (let h = parts_length p xs in omega arith)
  | inr k ↦ rw k (let h = parts_length p xs in omega arith)
]

pub held_ticked : (w new : WheelState) → w.due ≡ [] → new ≡ after_tick w → held_count new ≡ held_count w
held_ticked w new z e =
    let q : held_count new ≡ length (entries_left (w.now + 1) w.pending) + length (entries_due (w.now + 1) w.pending) =
    ap (λ (x : WheelState). held_count x) e in
    omega (arith, parts_length (λ e. is_due_at (w.now + 1) e.timer) w.pending, ap (λ (x : List Entry). length x) z)

-- A leap and a tick.

pub leap_and_tick : (old mid new : WheelState) → old.now ≤ mid.now → IsPassing (mid.now - old.now) old mid → new ≡ after_tick mid → PassesSomeTicks old new
leap_and_tick old mid new l p e =
    let now : new.now ≡ mid.now + 1 = ap (λ (w : WheelState). w.now) e in
    let n : new.now - old.now ≡ suc (mid.now - old.now) = omega arith in
    record {
      later = omega arith;
      ticked = e ∙ (ap after_tick p.ticked ∙ ap (λ (k : ℕ). after_ticks k old) (sym n));
      quiet = λ k h. p.quiet k (omega arith);
    }

-- Many of them.

passes_none : (old new : WheelState) (k : ℕ) → PassesSomeTicks old new → new.due ≡ [] → k ≤ new.now - old.now → (after_ticks k old).due ≡ []
passes_none old new k p z h = elim (either_last k (new.now - old.now) h) [
  | inl l ↦ p.quiet k l
  | inr e ↦ ap (λ (x : ℕ). (after_ticks x old).due) e ∙ (sym (ap (λ (w : WheelState). w.due) p.ticked) ∙ z)
] where
  either_last : (k n : ℕ) → k ≤ n → (k < n) ⊎ (k ≡ n)
  either_last k n h = elim (cases_eq k n) [ inl e ↦ inr e | inr x ↦ inl (omega arith) ]

pub passing_pass : (old mid new : WheelState) → old.now ≤ mid.now → IsPassing (mid.now - old.now) old mid → PassesSomeTicks mid new → new.due ≡ []
    → IsPassing (new.now - old.now) old new
passing_pass old mid new l p q z =
    let n : mid.now - old.now + (new.now - mid.now) ≡ new.now - old.now = (let a = q.later in omega arith) in
    subst (λ (x : ℕ). IsPassing x old new) n (passing_on (mid.now - old.now) (new.now - mid.now) old mid new p
    (record { ticked = q.ticked; quiet = λ k h. passes_none mid new k q z h }))

pub advance_stops : (most : ℕ) (old mid new : WheelState) → old.now ≤ mid.now → IsPassing (mid.now - old.now) old mid → PassesSomeTicks mid new
    → new.now ≤ old.now + most → 0 < length new.due → Advances most (new.now - old.now) old new
advance_stops most old mid new l p q b d =
    let a = q.later in
    let n : new.now - old.now ≡ mid.now - old.now + (new.now - mid.now) = omega arith in
    record {
      some = omega arith;
      at_most = omega arith;
      ticked = q.ticked ∙ (ap (after_ticks (new.now - mid.now)) p.ticked
          ∙ (sym (after_ticks-add (mid.now - old.now) (new.now - mid.now) old) ∙ ap (λ (x : ℕ). after_ticks x old) (sym n)));
      quiet = λ k h. elim (cases_lt (mid.now - old.now) k) [
        | inl c ↦
            let e : k ≡ mid.now - old.now + (k - (mid.now - old.now)) = omega arith in
            ap (λ (x : ℕ). (after_ticks x old).due) e
            ∙ (ap (λ (w : WheelState). w.due) (after_ticks-add (mid.now - old.now) (k - (mid.now - old.now)) old)
            ∙ (ap (λ (w : WheelState). (after_ticks (k - (mid.now - old.now)) w).due) (sym p.ticked)
            ∙ q.quiet (k - (mid.now - old.now)) (omega arith)))
        | inr c ↦ p.quiet k c
      ];
      early = λ h. d;
    }

-- one more tick's moves
pub moves_more : (first mid new a b c bound : ℕ) → first ≤ mid → mid < new → b ≤ a + (mid - first) * bound → c ≤ b + bound
    → c ≤ a + (new - first) * bound
moves_more first mid new a b c bound f l h k =
    let m : (mid - first + 1) * bound ≤ (new - first) * bound = mul-le-mul_right bound (let x : mid - first + 1 ≤ new - first = omega arith in x) in
    let n : (mid - first + 1) * bound ≡ (mid - first) * bound + bound = omega arith in
    omega arith
