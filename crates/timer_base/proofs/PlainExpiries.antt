-- Lemmas for `expire` and `clear` of a `PlainWheel`: removing the first due timer, or all that are not due.
use Rattle.std.proofs.Common.{◌≡◌, ◌≢◌, ◌<◌, ◌≤◌, ◌-◌, ℕ, Bool, true, false, not, List, [], ◌∷◌, length, refl, sym, ◌∙◌, ap, inl, inr, arith, drop, map, filter, find, if◌then◌else◌, Some, None, slice_get}
use Rattle.std.proofs.lemmas.Bool.{eq-eqb, ne_eqb}
use Rattle.std.proofs.lemmas.List.{drop-map, length-drop}
use Rattle.timer_base.proofs.Basics.{some_same, either}
use Rattle.timer_base.specs.Types.{Timer}
use Rattle.timer_base.specs.Order.{in_order, itself, AreRising}
use Rattle.timer_base.specs.Pending.{is_due_at, has_serial}
use Rattle.timer_base.specs.WheelState.{first_due, after_expiry, after_clear}
use Rattle.timer_base.specs.PlainState.{is_after, due_count, at_first_place, plain_state}
use Rattle.timer_base.specs.WellFormed.{timers_of-at_first_place}
use Rattle.timer_base.proofs.PlainSteps.{state_is, due_not_after}

pub find-filter : (p : Timer → Bool) (ts : List Timer) → find p ts ≡ slice_get (filter p ts) 0
find-filter p [] = refl
find-filter p (t ∷ ts) = elim (either (p t)) [
  | inl h ↦ rw h refl
  | inr h ↦ rw h (find-filter p ts)
]

pub find_none : (p : Timer → Bool) (ts : List Timer) → find p ts ≡ None → filter p ts ≡ []
find_none p [] e = refl
find_none p (t ∷ ts) e = elim (either (p t)) [
  | inl h ↦ let f = rw h at e in absurd (cc)
  | inr h ↦ rw h (find_none p ts (rw h at e))
]

find_some : (p : Timer → Bool) (f : Timer) (ts : List Timer) → find p ts ≡ Some f → 0 < length (filter p ts)
find_some p f [] e = absurd (cc)
find_some p f (t ∷ ts) e = elim (either (p t)) [
  | inl h ↦ rw h (omega arith)
  | inr h ↦ rw h (find_some p f ts (rw h at e))
]

pub found_above : (p : Timer → Bool) (low : ℕ) (f : Timer) (ts : List Timer) → find p ts ≡ Some f → AreRising low ts → low < f.serial
found_above p low f [] e r = absurd (cc)
found_above p low f (t ∷ ts) e r = elim (either (p t)) [
  | inl h ↦ let same : t ≡ f = some_same t f (rw h at e) in rw (← same) r.0
  | inr h ↦
      let above : t.serial < f.serial = found_above p t.serial f ts (rw h at e) r.1 in
      let first : low < t.serial = r.0 in
      omega arith
]

none_left_out : (n low : ℕ) (ts : List Timer) → n ≤ low → AreRising low ts → filter (λ t. not (has_serial n t)) ts ≡ ts
none_left_out n low [] l r = refl
none_left_out n low (t ∷ ts) l r =
    let r0 : low < t.serial = r.0 in
    let other : t.serial ≢ n = λ e. (let e0 : t.serial ≡ n = e in omega arith) in
    rw (ne_eqb t.serial n other) (ap (λ us. t ∷ us) (none_left_out n t.serial ts (omega arith) r.1))

-- the first that satisfies the test is removed from those that do
taken_out : (p : Timer → Bool) (low : ℕ) (f : Timer) (ts : List Timer) → find p ts ≡ Some f → AreRising low ts
    → filter p (filter (λ t. not (has_serial f.serial t)) ts) ≡ drop 1 (filter p ts)
taken_out p low f [] e r = refl
taken_out p low f (t ∷ ts) e r = elim (either (p t)) [
  | inl h ↦
      let same : t ≡ f = some_same t f (rw h at e) in
      let serial : t.serial ≡ f.serial = ap (λ (x : Timer). x.serial) same in
      rw (eq-eqb t.serial f.serial serial, h) (ap (filter p) (none_left_out f.serial t.serial ts (omega arith) r.1))
  | inr h ↦
      let rest : find p ts ≡ Some f = rw h at e in
      let above : t.serial < f.serial = found_above p t.serial f ts rest r.1 in
      let other : t.serial ≢ f.serial = omega arith in
      rw (ne_eqb t.serial f.serial other, h) (taken_out p t.serial f ts rest r.1)
]

-- and of no others
pub others_stay : (p q : Timer → Bool) (low : ℕ) (f : Timer) (ts : List Timer) → ((t : Timer) → p t ≡ true → q t ≡ false)
    → find p ts ≡ Some f → AreRising low ts → filter q (filter (λ t. not (has_serial f.serial t)) ts) ≡ filter q ts
others_stay p q low f [] x e r = refl
others_stay p q low f (t ∷ ts) x e r = elim (either (p t)) [
  | inl h ↦
      let same : t ≡ f = some_same t f (rw h at e) in
      let serial : t.serial ≡ f.serial = ap (λ (x : Timer). x.serial) same in
      rw (eq-eqb t.serial f.serial serial, x t h) (ap (filter q) (none_left_out f.serial t.serial ts (omega arith) r.1))
  | inr h ↦
      let rest : find p ts ≡ Some f = rw h at e in
      let above : t.serial < f.serial = found_above p t.serial f ts rest r.1 in
      let other : t.serial ≢ f.serial = omega arith in
      rw (ne_eqb t.serial f.serial other) (ap (λ us. if q t then t ∷ us else us) (others_stay p q t.serial f ts x rest r.1))
]

-- the first due timer
pub first_is_due : (now last : ℕ) (ts : List Timer) → find (is_due_at now) ts ≡ first_due (plain_state now last ts)
first_is_due now last ts = find-filter (is_due_at now) ts ∙ ap (λ us. slice_get us 0)
    (sym (timers_of-at_first_place (filter (is_due_at now) ts)))

pub plain_state-after_expiry : (now last : ℕ) (ts : List Timer) (f : Timer) → find (is_due_at now) ts ≡ Some f → AreRising 0 ts
    → plain_state now last (filter (λ t. not (has_serial f.serial t)) ts) ≡ after_expiry (plain_state now last ts)
plain_state-after_expiry now last ts f e r =
    state_is now last (ap (λ us. map at_first_place (in_order itself us))
    (others_stay (is_due_at now) (is_after now) 0 f ts (due_not_after now) e r))
    (ap (map at_first_place) (taken_out (is_due_at now) 0 f ts e r) ∙ sym (drop-map at_first_place 1 (filter (is_due_at now) ts)))

pub plain_state-none_due : (now last : ℕ) (ts : List Timer) → find (is_due_at now) ts ≡ None
    → plain_state now last ts ≡ after_expiry (plain_state now last ts)
plain_state-none_due now last ts e =
    let none : map at_first_place (filter (is_due_at now) ts) ≡ [] = ap (map at_first_place) (find_none (is_due_at now) ts e) in
    state_is now last refl (none ∙ ap (drop 1) (sym none))

-- The count of the due timers.

pub some_due : (now : ℕ) (ts : List Timer) (f : Timer) → find (is_due_at now) ts ≡ Some f → 0 < due_count now ts
some_due now ts f e = find_some (is_due_at now) f ts e

pub due_count-after_expiry : (now : ℕ) (ts : List Timer) (f : Timer) → find (is_due_at now) ts ≡ Some f → AreRising 0 ts
    → due_count now (filter (λ t. not (has_serial f.serial t)) ts) ≡ due_count now ts - 1
due_count-after_expiry now ts f e r = ap length (taken_out (is_due_at now) 0 f ts e r) ∙ length-drop 1 (filter (is_due_at now) ts)

-- What a clear leaves is what is due.

none_after : (now : ℕ) (ts : List Timer) → filter (is_after now) (filter (is_due_at now) ts) ≡ []
none_after now [] = refl
none_after now (t ∷ ts) = elim (either (is_due_at now t)) [
  | inl h ↦ simp (h, due_not_after now t h) (none_after now ts)
  | inr h ↦ rw h (none_after now ts)
]

filter-twice : (p : Timer → Bool) (ts : List Timer) → filter p (filter p ts) ≡ filter p ts
filter-twice p [] = refl
filter-twice p (t ∷ ts) = elim (either (p t)) [
  | inl h ↦ simp h (ap (λ us. t ∷ us) (filter-twice p ts))
  | inr h ↦ rw h (filter-twice p ts)
]

pub plain_state-after_clear : (now last : ℕ) (ts : List Timer) → plain_state now last (filter (is_due_at now) ts)
    ≡ after_clear (plain_state now last ts)
plain_state-after_clear now last ts = state_is now last (ap (λ us. map at_first_place (in_order itself us)) (none_after now ts))
    (ap (map at_first_place) (filter-twice (is_due_at now) ts))

pub due_count-after_clear : (now : ℕ) (ts : List Timer) → due_count now (filter (is_due_at now) ts) ≡ due_count now ts
due_count-after_clear now ts = ap length (filter-twice (is_due_at now) ts)
