-- Lemmas for `look`, `stop` and `restart` of a `PlainWheel`: a timer is found by its serial, and removed.
use Rattle.std.proofs.Common.{◌≡◌, ◌≢◌, ◌<◌, ◌≤◌, ℕ, Bool, true, not, List, [], ◌∷◌, length, refl, sym, ◌∙◌, ap, inl, inr, arith, slice_get, map, filter, find, if◌then◌else◌, Option, Some, None}
use Rattle.std.specs.List.{AllByRecursion}
use Rattle.std.proofs.lemmas.Bool.{cases_eq, eq-eqb, ne_eqb, eqb-true}
use Rattle.timer_base.proofs.Basics.{some_same, none_some, filter_no_longer, later_if_not_due, either}
use Rattle.timer_base.specs.Types.{Timer, Handle}
use Rattle.timer_base.specs.Order.{in_order, itself, AreRising}
use Rattle.timer_base.proofs.OrderLaws.{filter-in_order, AreRising-filter, All-filter}
use Rattle.timer_base.specs.Pending.{Entry, is_due_at, has_serial, has_handle, first_timer, first_found, without_handle}
use Rattle.timer_base.specs.WheelState.{WheelState, NamesOne, timer_at, due_at, held_at, after_removal}
use Rattle.timer_base.specs.PlainState.{IsKept, is_after, at_first_place, plain_state}
use Rattle.timer_base.proofs.PlainSteps.{state_is, after_is, due_not_after, filter-filter_same}
use Rattle.timer_base.proofs.PlainExpiries.{find-filter}

-- no other place has a timer
no_place : (h : Handle) (ts : List Timer) → h.place ≢ 0 → first_timer (has_handle h) (map at_first_place ts) ≡ None
no_place h [] n = refl
no_place h (t ∷ ts) n = rw (ne_eqb 0 h.place (λ e. n (sym e))) (no_place h ts n)

at_place : (h : Handle) (ts : List Timer) → h.place ≡ 0 → first_timer (has_handle h) (map at_first_place ts)
    ≡ find (has_serial h.serial) ts
at_place h [] z = refl
at_place h (t ∷ ts) z = rw (eq-eqb 0 h.place (sym z)) (ap (λ o. if has_serial h.serial t then Some t else o) (at_place h ts z))

-- at most one has the serial
no_serial : (k low : ℕ) (ts : List Timer) → k ≤ low → AreRising low ts → filter (has_serial k) ts ≡ []
no_serial k low [] l r = refl
no_serial k low (t ∷ ts) l r =
    let r0 : low < t.serial = r.0 in
    rw (ne_eqb t.serial k (λ e. omega arith)) (no_serial k t.serial ts (omega arith) r.1)

one_serial : (k low : ℕ) (ts : List Timer) → AreRising low ts → in_order itself (filter (has_serial k) ts) ≡ filter (has_serial k) ts
one_serial k low [] r = refl
one_serial k low (t ∷ ts) r = elim (either (has_serial k t)) [
  | inl h ↦ let same : t.serial ≡ k = eqb-true t.serial k h in
      let none : filter (has_serial k) ts ≡ [] = no_serial k t.serial ts (omega arith) r.1 in
      rw (h, none) refl
  | inr h ↦ rw h (one_serial k t.serial ts r.1)
]

find_in_order : (k : ℕ) (ts : List Timer) → AreRising 0 ts → find (has_serial k) (in_order itself ts) ≡ find (has_serial k) ts
find_in_order k ts r = find-filter (has_serial k) (in_order itself ts)
    ∙ ap (λ us. slice_get us 0) (filter-in_order itself (has_serial k) ts ∙ one_serial k 0 ts r)
    ∙ sym (find-filter (has_serial k) ts)

-- none of the later timers has the serial of an earlier one
absent : (k low : ℕ) (p : Timer → Bool) (ts : List Timer) → k ≤ low → AreRising low ts → find (has_serial k) (filter p ts) ≡ None
absent k low p ts l r = find-filter (has_serial k) (filter p ts)
    ∙ ap (λ us. slice_get us 0) (filter-filter_same (has_serial k) p ts ∙ ap (filter p) (no_serial k low ts l r))

-- What a handle at place 0 names: the timer with its serial, on one side of the clock.

abbrev pending_with : ℕ → ℕ → List Timer → Option Timer
pending_with now k ts = find (has_serial k) (filter (is_after now) ts)

abbrev due_with : ℕ → ℕ → List Timer → Option Timer
due_with now k ts = find (has_serial k) (filter (is_due_at now) ts)

-- the timer is on one of the sides
record AreSides (found pending due : Option Timer) : Type 0 where
  held : found ≡ first_found pending due
  one : (t : Timer) → pending ≡ Some t → due ≡ None

only_due : (t : Timer) (pending : Option Timer) → pending ≡ None → AreSides (Some t) pending (Some t)
only_due t None e = record { held = refl; one = λ u f. absurd (none_some u f) }
only_due t (Some u) e = absurd (none_some u (sym e))

only_pending : (t : Timer) (due : Option Timer) → due ≡ None → AreSides (Some t) (Some t) due
only_pending t due e = record { held = refl; one = λ u f. e }

sides_step : (now last k : ℕ) (t : Timer) (ts : List Timer) → IsKept now last t → AreRising t.serial ts
    → AreSides (find (has_serial k) ts) (pending_with now k ts) (due_with now k ts)
    → AreSides (find (has_serial k) (t ∷ ts)) (pending_with now k (t ∷ ts)) (due_with now k (t ∷ ts))
sides_step now last k t ts kept r rest = elim (either (is_due_at now t)) [
  | inl d ↦ elim (either (has_serial k t)) [
    | inl h ↦
        let same : t.serial ≡ k = eqb-true t.serial k h in
        let none : pending_with now k ts ≡ None = absent k t.serial (is_after now) ts (omega arith) r in
        simp (d, due_not_after now t d, h) (only_due t (pending_with now k ts) none)
    | inr h ↦ simp (d, due_not_after now t d, h) rest
  ]
  | inr d ↦
      let after : is_after now t ≡ true = after_is now t (later_if_not_due now t kept.not_before d) in
      elim (either (has_serial k t)) [
        | inl h ↦
            let same : t.serial ≡ k = eqb-true t.serial k h in
            let none : due_with now k ts ≡ None = absent k t.serial (is_due_at now) ts (omega arith) r in
            simp (d, after, h) (only_pending t (due_with now k ts) none)
        | inr h ↦ simp (d, after, h) rest
      ]
]

sides : (now last k low : ℕ) (ts : List Timer) → AllByRecursion (IsKept now last) ts → AreRising low ts
    → AreSides (find (has_serial k) ts) (pending_with now k ts) (due_with now k ts)
sides now last k low [] a r = record { held = refl; one = λ t e. refl }
sides now last k low (t ∷ ts) a r = sides_step now last k t ts a.0 r.1 (sides now last k t.serial ts a.1 r.1)

module _ (now last : ℕ) (ts : List Timer) (h : Handle) where
  abbrev w : WheelState
  w = plain_state now last ts

  pending_nowhere : h.place ≢ 0 → timer_at h w ≡ None
  pending_nowhere n = no_place h (in_order itself (filter (is_after now) ts)) n

  due_nowhere : h.place ≢ 0 → due_at h w ≡ None
  due_nowhere n = no_place h (filter (is_due_at now) ts) n

  pub held_nowhere : h.place ≢ 0 → held_at h w ≡ None
  held_nowhere n = rw (pending_nowhere n) (due_nowhere n)

  due_here : h.place ≡ 0 → due_at h w ≡ due_with now h.serial ts
  due_here z = at_place h (filter (is_due_at now) ts) z

  module _ (a : AllByRecursion (IsKept now last) ts) (r : AreRising 0 ts) where
    pending_here : h.place ≡ 0 → timer_at h w ≡ pending_with now h.serial ts
    pending_here z = at_place h (in_order itself (filter (is_after now) ts)) z
        ∙ find_in_order h.serial (filter (is_after now) ts) (AreRising-filter (is_after now) 0 ts r)

    pub held_here : h.place ≡ 0 → find (has_serial h.serial) ts ≡ held_at h w
    held_here z = (sides now last h.serial 0 ts a r).held
        ∙ sym (ap (λ (o : Option Timer). first_found o (due_at h w)) (pending_here z)
        ∙ ap (first_found (pending_with now h.serial ts)) (due_here z))

    pub names_one : NamesOne h w
    names_one t f = elim (cases_eq h.place 0) [
      | inl z ↦ due_here z ∙ (sides now last h.serial 0 ts a r).one t (sym (pending_here z) ∙ f)
      | inr n ↦ due_nowhere n
    ]

-- A timer is removed.

passes : (p : Timer → Bool) (f : Timer) (ts : List Timer) → find p ts ≡ Some f → p f ≡ true
passes p f [] e = absurd (cc)
passes p f (t ∷ ts) e = elim (either (p t)) [
  | inl h ↦ let g = rw h at e in ap p (sym (some_same t f g)) ∙ h
  | inr h ↦ passes p f ts (rw h at e)
]

shorter : (k : ℕ) (t : Timer) (ts : List Timer) → find (has_serial k) ts ≡ Some t
    → length (filter (λ u. not (has_serial k u)) ts) < length ts
shorter k t [] e = absurd (cc)
shorter k t (x ∷ xs) e = elim (either (has_serial k x)) [
  | inl h ↦ rw h (omega (arith, filter_no_longer (λ u. not (has_serial k u)) xs))
  | inr h ↦ rw h (omega (arith, shorter k t xs (rw h at e)))
]

others_at_place : (h : Handle) (ts : List Timer) → h.place ≡ 0
    → map at_first_place (filter (λ u. not (has_serial h.serial u)) ts) ≡ without_handle h (map at_first_place ts)
others_at_place h [] z = refl
others_at_place h (t ∷ ts) z = elim (either (has_serial h.serial t)) [
  | inl k ↦ simp (eq-eqb 0 h.place (sym z), k) (others_at_place h ts z)
  | inr k ↦ simp (eq-eqb 0 h.place (sym z), k) (ap (λ (r : List Entry). at_first_place t ∷ r) (others_at_place h ts z))
]

pub kept-without : (now last serial : ℕ) (ts : List Timer) → AllByRecursion (IsKept now last) ts
    → AllByRecursion (IsKept now last) (filter (λ u. not (has_serial serial u)) ts)
kept-without now last serial ts k = All-filter (IsKept now last) (IsKept now last) (λ u. not (has_serial serial u)) ts (λ x e f. f) k

module _ (now last : ℕ) (ts : List Timer) (h : Handle) (a : AllByRecursion (IsKept now last) ts) (r : AreRising 0 ts) (t : Timer)
    (f : held_at h (plain_state now last ts) ≡ Some t) where
  abbrev is_other : Timer → Bool
  is_other u = not (has_serial h.serial u)

  place_is : h.place ≡ 0
  place_is = elim (cases_eq h.place 0) [
    | inl z ↦ z
    | inr n ↦ absurd (none_some t (sym (held_nowhere now last ts h n) ∙ f))
  ]

  found : find (has_serial h.serial) ts ≡ Some t
  found = held_here now last ts h a r place_is ∙ f

  serial_is : h.serial ≡ t.serial
  serial_is = sym (eqb-true t.serial h.serial (passes (has_serial h.serial) t ts found))

  -- there is room for one more
  pub one_less : length (filter (λ u. not (has_serial t.serial u)) ts) < length ts
  one_less = rw (← serial_is) (shorter h.serial t ts found)

  removed : plain_state now last (filter is_other ts) ≡ after_removal h (plain_state now last ts)
  removed =
      state_is now last
      (ap (λ us. map at_first_place (in_order itself us)) (filter-filter_same (is_after now) is_other ts)
      ∙ ap (map at_first_place) (sym (filter-in_order itself is_other (filter (is_after now) ts)))
      ∙ others_at_place h (in_order itself (filter (is_after now) ts)) place_is)
      (ap (map at_first_place) (filter-filter_same (is_due_at now) is_other ts)
      ∙ others_at_place h (filter (is_due_at now) ts) place_is)

  pub plain_state-after_removal : plain_state now last (filter (λ u. not (has_serial t.serial u)) ts)
      ≡ after_removal h (plain_state now last ts)
  plain_state-after_removal =
      ap (λ (k : ℕ). plain_state now last (filter (λ u. not (has_serial k u)) ts)) (sym serial_is) ∙ removed
