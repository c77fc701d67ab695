-- Lemmas for the exact wake-ups: a hashed wheel's next sweep is the earliest of its timers.
use Rattle.std.proofs.Common.{◌≡◌, ◌<◌, ◌≤◌, ◌+◌, ◌-◌, ◌%◌, ◌==◌, ℕ, List, [], ◌∷◌, length, sym, ◌∙◌, ap, inl, inr, arith, Bool, true, Option, Some, None, IfSome, filter, min}
use Rattle.std.specs.List.{AllByRecursion}
use Rattle.std.proofs.lemmas.Bool.{cases_lt, cases_eq, eq-eqb, ne_eqb}
use Rattle.timer_base.specs.Pending.{AreAfter, Entry, timer_of, timers_of}
use Rattle.timer_base.proofs.Basics.{either}
use Rattle.timer_base.proofs.OrderLaws.{All-weaken}
use Rattle.timer_base.specs.PlainState.{earliest}
use Rattle.timer_base.specs.WakeUps.{IsQuietUntil}
use Rattle.timer_base.specs.WheelState.{WheelState, IsPending}
use Rattle.timer_wheels.specs.hashed.Hashed.{slot_of, IsNextSweep}
use Rattle.timer_wheels.specs.Shown.{entries_at}
use Rattle.timer_wheels.specs.WakeUps.{sweep_of, earliest_sweep}
use Rattle.timer_wheels.proofs.bucket_lemmas.AllLemmas.{all-of_map}
use Rattle.timer_wheels.proofs.hashed_lemmas.Ticks.{distance, same_slot, no_step}

-- The sweep of one deadline's slot.

-- it is at the slot, and at most n ticks ahead
sweep_slot : (n now d : ℕ) → 0 < n → now < d → sweep_of n now d % n ≡ d % n
sweep_slot n now d z h = sym (same_slot (distance n now d z h))

-- two ticks of one slot, less than a revolution apart, are one
one_tick : (n a b : ℕ) → a ≤ b → b - a < n → b % n ≡ a % n → a ≡ b
one_tick n a b h k e =
    let g : a + (b - a) ≡ b = omega arith in
    omega (arith, no_step n a (b - a) k (ap (λ (x : ℕ). x % n) g ∙ e))

-- no other tick of those is
one_sweep : (n now d tick : ℕ) → 0 < n → now < d → now < tick → tick ≤ now + n → d % n ≡ tick % n → sweep_of n now d ≡ tick
one_sweep n now d tick z h k b e =
    let s : ℕ = sweep_of n now d in
    let r : (d - now - 1) % n < n = omega arith in
    let f : s % n ≡ tick % n = sweep_slot n now d z h ∙ e in
    elim (cases_lt s tick) [
      | inl c ↦ one_tick n s tick (omega arith) (omega arith) (sym f)
      | inr c ↦ sym (one_tick n tick s c (omega arith) f)
    ]

-- The earliest of them.

-- no timer has the slot of a tick before this one
abbrev NoneBefore : ℕ → ℕ → ℕ → List Entry → Type 0
NoneBefore n now tick es = (t : ℕ) → now < t → t < tick → entries_at (slot_of n) (t % n) es ≡ []

abbrev IsFrom : ℕ → Option ℕ → Type 0
IsFrom tick None = Unit {0}
IsFrom tick (Some sweep) = tick ≤ sweep

head_out : (p : Entry → Bool) (e : Entry) (es : List Entry) → filter p (e ∷ es) ≡ [] → p e ≡ true → ⊥
head_out p e es h k = let f = rw k at h in absurd (cc)

tail_out : (p : Entry → Bool) (e : Entry) (es : List Entry) → filter p (e ∷ es) ≡ [] → filter p es ≡ []
tail_out p e es h = elim (either (p e)) [ inl k ↦ absurd (head_out p e es h k) | inr k ↦ rw k at h ]

module _ (n now tick : ℕ) (z : 0 < n) where
  rest_before : (e : Entry) (es : List Entry) → NoneBefore n now tick (e ∷ es) → NoneBefore n now tick es
  rest_before e es f t a b = tail_out (λ (x : Entry). slot_of n x.timer == t % n) e es (f t a b)

  not_sooner : (e : Entry) (es : List Entry) → now < e.timer.deadline → NoneBefore n now tick (e ∷ es)
      → tick ≤ sweep_of n now e.timer.deadline
  not_sooner e es h f = elim (cases_lt (sweep_of n now e.timer.deadline) tick) [
    | inl c ↦
        let s : ℕ = sweep_of n now e.timer.deadline in
        let m : e.timer.deadline % n ≡ s % n = sym (sweep_slot n now e.timer.deadline z h) in
        absurd (head_out (λ (x : Entry). slot_of n x.timer == s % n) e es (f s (omega arith) c)
        (eq-eqb (e.timer.deadline % n) (s % n) m))
    | inr c ↦ c
  ]

  from_both : (a : ℕ) (o : Option ℕ) → tick ≤ a → IsFrom tick o → IsFrom tick (earliest (Some a) o)
  from_both a None h k = h
  from_both a (Some b) h k = let x : tick ≤ b = k in omega arith

  all_from : (es : List Entry) → AreAfter now es → NoneBefore n now tick es → IsFrom tick (earliest_sweep n now es)
  all_from [] a f = tt
  all_from (e ∷ es) a f =
      from_both (sweep_of n now e.timer.deadline) (earliest_sweep n now es) (not_sooner e es a.0 f)
      (all_from es a.1 (rest_before e es f))

  first_here : (a : ℕ) (o : Option ℕ) → a ≡ tick → IsFrom tick o → earliest (Some a) o ≡ Some tick
  first_here a None e k = ap Some e
  first_here a (Some b) e k = let x : tick ≤ b = k in ap Some (let m : min a b ≡ tick = omega arith in m)

  earliest_is : (es : List Entry) → now < tick → tick ≤ now + n → AreAfter now es → NoneBefore n now tick es
      → 0 < length (entries_at (slot_of n) (tick % n) es) → earliest_sweep n now es ≡ Some tick
  earliest_is [] k b a f h = absurd (omega arith)
  earliest_is (e ∷ es) k b a f h = elim (cases_eq (e.timer.deadline % n) (tick % n)) [
    | inl m ↦ first_here (sweep_of n now e.timer.deadline) (earliest_sweep n now es)
        (one_sweep n now e.timer.deadline tick z a.0 k b m) (all_from es a.1 (rest_before e es f))
    | inr m ↦
        let i : 0 < length (entries_at (slot_of n) (tick % n) es) = rw (ne_eqb (e.timer.deadline % n) (tick % n) m) at h in
        let first : min (sweep_of n now e.timer.deadline) tick ≡ tick = omega (arith, not_sooner e es a.0 f) in
        rw (earliest_is es k b a.1 (rest_before e es f) i) (ap Some first)
  ]

-- the next sweep is the earliest one, and there is none if nothing is pending
pub earliest_sweep_is : (n : ℕ) (w : WheelState) (o : Option ℕ) → 0 < n
    → AllByRecursion (IsPending w.last_tick w.now w.last_serial) (timers_of w.pending)
    → IsQuietUntil o w.now w.pending → IfSome o (λ tick. IsNextSweep n tick w) → o ≡ earliest_sweep n w.now w.pending
earliest_sweep_is n w None z a q s = sym (ap (earliest_sweep n w.now) q)
earliest_sweep_is n w (Some tick) z a q s =
    sym (earliest_is n w.now tick z w.pending q.later s.in_turn
    (All-weaken (λ entry. IsPending w.last_tick w.now w.last_serial entry.timer) (λ entry. w.now < entry.timer.deadline) w.pending
    (λ entry x. x.later) (all-of_map timer_of (IsPending w.last_tick w.now w.last_serial) w.pending a))
    s.none_before s.some)
