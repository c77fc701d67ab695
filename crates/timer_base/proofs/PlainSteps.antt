-- Lemmas for `start` and `per_tick` of a `PlainWheel`: the state, and the count of due timers.
use Rattle.std.proofs.Common.{◌≡◌, ◌≢◌, ◌<◌, ◌≤◌, ◌+◌, ◌-◌, ℕ, suc, Bool, true, false, not, List, [], ◌∷◌, ◌++◌, length, refl, sym, ◌∙◌, ap, inl, inr, arith, append-nil, length-append, map, filter, nat_lt, if◌then◌else◌, get_or, drop, zero}
use Rattle.std.specs.List.{AllByRecursion}
use Rattle.std.proofs.lemmas.Bool.{cases_lt, cases_eq}
use Rattle.std.proofs.lemmas.Bool.Decides.{nat_tests}
use Rattle.std.proofs.lemmas.List.{length-map, map-append}
use Rattle.std.proofs.lemmas.List.Elements.{filter-append}
use Rattle.timer_base.proofs.Basics.{not_due_before, is_due, later_if_not_due, is_not_due, either}
use Rattle.timer_base.specs.Types.{Timer, LAST}
use Rattle.timer_base.specs.Layout.{NoSlots}
use Rattle.timer_base.specs.Order.{in_order, itself, insert_by_deadline, AreRising, AreBelow}
use Rattle.timer_base.proofs.OrderLaws.{newest_last, filter-in_order, in_order-same, AllAt-filter, AreRising-append, AreRising-filter, length-in_order, All-weaken, All-filter}
use Rattle.timer_base.proofs.OneOrder.{map-itself}
use Rattle.timer_base.specs.Pending.{Entry, put, is_due_at}
use Rattle.timer_base.specs.WheelState.{WheelState, after_start, after_due_start, after_held_start, after_tick, with_room, held_count}
use Rattle.timer_base.proofs.HeldLaws.{start_when_later, start_when_now}
use Rattle.timer_base.specs.PlainState.{IsKept, AreDueAfter, is_after, due_count, at_first_place, plain_state}

-- with nothing due, each is after the tick
pub all_after : (now last : ℕ) (ts : List Timer) → AllByRecursion (IsKept now last) ts → filter (is_due_at now) ts ≡ [] → AreDueAfter now ts
all_after now last [] k d = tt
all_after now last (t ∷ ts) k d = elim (either (is_due_at now t)) [
  | inl h ↦ let e = rw h at d in absurd (cc)
  | inr h ↦ (later_if_not_due now t k.0.not_before h, all_after now last ts k.1 (rw h at d))
]

pub after_is : (now : ℕ) (t : Timer) → now < t.deadline → is_after now t ≡ true
after_is now t h = grind (arith, nat_tests)

pub due_not_after : (now : ℕ) (t : Timer) → is_due_at now t ≡ true → is_after now t ≡ false
due_not_after now t h = grind (arith, nat_tests)

pub filter_after : (now : ℕ) (ts : List Timer) → AreDueAfter now ts → filter (is_after now) ts ≡ ts
filter_after now [] a = refl
filter_after now (t ∷ ts) a = rw (after_is now t a.0) (ap (λ r. t ∷ r) (filter_after now ts a.1))

next_agree : (now : ℕ) (t : Timer) → now < t.deadline → is_after (now + 1) t ≡ not (is_due_at (now + 1) t)
next_agree now t h = grind (arith, nat_tests)

filter_agree : (now : ℕ) (ts : List Timer) → AreDueAfter now ts
    → filter (is_after (now + 1)) ts ≡ filter (λ t. not (is_due_at (now + 1) t)) ts
filter_agree now [] a = refl
filter_agree now (t ∷ ts) a = rw (next_agree now t a.0) (ap (λ r. if not (is_due_at (now + 1) t) then t ∷ r else r)
    (filter_agree now ts a.1))

pub filter-map : (p : Timer → Bool) (ts : List Timer) → filter (λ entry. p entry.timer) (map at_first_place ts)
    ≡ map at_first_place (filter p ts)
filter-map p [] = refl
filter-map p (t ∷ ts) = elim (either (p t)) [
  | inl h ↦ rw h (ap (λ r. at_first_place t ∷ r) (filter-map p ts))
  | inr h ↦ rw h (filter-map p ts)
]

pub filter-filter_same : (p q : Timer → Bool) (ts : List Timer) → filter p (filter q ts) ≡ filter q (filter p ts)
filter-filter_same p q [] = refl
filter-filter_same p q (t ∷ ts) = elim (either (p t)) [
  | inl h ↦ elim (either (q t)) [
    | inl k ↦ simp (h, k) (ap (λ us. t ∷ us) (filter-filter_same p q ts))
    | inr k ↦ simp (h, k) (filter-filter_same p q ts)
  ]
  | inr h ↦ elim (either (q t)) [ inl k ↦ simp (h, k) (filter-filter_same p q ts) | inr k ↦ simp (h, k) (filter-filter_same p q ts) ]
]

pub state_is : (n : ℕ) {p q d e : List Entry} (l : ℕ) → p ≡ q → d ≡ e
    → let a : WheelState = record { layout = NoSlots; last_tick = LAST; now = n; pending = p; due = d; last_serial = l; room = 0 } in
    let b : WheelState = record { layout = NoSlots; last_tick = LAST; now = n; pending = q; due = e; last_serial = l; room = 0 } in a ≡ b
state_is n l h k = cc

-- A tick.

-- while no deadline is passed
pub kept_later : (now last later : ℕ) (ts : List Timer) → AllByRecursion (IsKept now last) ts → AllByRecursion (λ t. later ≤ t.deadline) ts
    → AllByRecursion (IsKept later last) ts
kept_later now last later [] k a = tt
kept_later now last later (t ∷ ts) k a = (
  record { not_before = a.0; in_range = k.0.in_range; serial = k.0.serial },
  kept_later now last later ts k.1 a.1,
)

pub kept-after_tick : (now last : ℕ) (ts : List Timer) → AllByRecursion (IsKept now last) ts → filter (is_due_at now) ts ≡ []
    → AllByRecursion (IsKept (now + 1) last) ts
kept-after_tick now last ts k d = kept_later now last (now + 1) ts k
    (All-weaken (λ t. now < t.deadline) (λ t. now + 1 ≤ t.deadline) ts (λ t h. omega arith) (all_after now last ts k d))

due_in_order : (tick : ℕ) (ts : List Timer) → AreRising 0 ts → in_order itself (filter (is_due_at tick) ts) ≡ filter (is_due_at tick) ts
due_in_order tick ts r =
    let due : List Timer = filter (is_due_at tick) ts in
    in_order-same itself tick 0 due (rw (map-itself due) (AllAt-filter tick ts))
    (rw (map-itself due) (AreRising-filter (is_due_at tick) 0 ts r))

pub plain_state-after_tick : (now last : ℕ) (ts : List Timer) → AllByRecursion (IsKept now last) ts → AreRising 0 ts
    → filter (is_due_at now) ts ≡ []
    → plain_state (now + 1) last ts ≡ after_tick (plain_state now last ts)
plain_state-after_tick now last ts k r d =
    let a : AreDueAfter now ts = all_after now last ts k d in
    let all : filter (is_after now) ts ≡ ts = filter_after now ts a in
    let left : filter (λ entry. not (is_due_at (now + 1) entry.timer)) (map at_first_place (in_order itself ts))
    ≡ map at_first_place (in_order itself (filter (is_after (now + 1)) ts)) =
    filter-map (λ t. not (is_due_at (now + 1) t)) (in_order itself ts)
    ∙ ap (map at_first_place) (filter-in_order itself (λ t. not (is_due_at (now + 1) t)) ts
    ∙ ap (in_order itself) (sym (filter_agree now ts a))) in
    let due : filter (λ entry. is_due_at (now + 1) entry.timer) (map at_first_place (in_order itself ts))
    ≡ map at_first_place (filter (is_due_at (now + 1)) ts) =
    filter-map (is_due_at (now + 1)) (in_order itself ts)
    ∙ ap (map at_first_place) (filter-in_order itself (is_due_at (now + 1)) ts ∙ due_in_order (now + 1) ts r) in
    rw all (state_is (now + 1) last (sym left) (sym due))

nothing : (ts : List Timer) → map at_first_place ts ≡ [] → ts ≡ []
nothing [] h = refl
nothing (t ∷ ts) h = absurd (cc)

-- no timer of the list is due
pub none_of_them : (now last : ℕ) (ts : List Timer) → (plain_state now last ts).due ≡ [] → filter (is_due_at now) ts ≡ []
none_of_them now last ts h = nothing (filter (is_due_at now) ts) h

-- A start.

below_new : (now last new : ℕ) (ts : List Timer) → AllByRecursion (IsKept now last) ts → last < new → AreBelow new ts
below_new now last new ts k h = All-weaken (IsKept now last) (λ t. t.serial < new) ts
    (λ t i. let s : t.serial ≤ last = i.serial in omega arith) k

pub filter-append_yes : (p : Timer → Bool) (ts : List Timer) (t : Timer) → p t ≡ true → filter p (ts ++ t ∷ []) ≡ filter p ts ++ t ∷ []
filter-append_yes p ts t h =
    let e : filter p (t ∷ []) ≡ t ∷ [] = rw h refl in
    filter-append p ts (t ∷ []) ∙ ap (λ r. filter p ts ++ r) e

pub filter-append_no : (p : Timer → Bool) (ts : List Timer) (t : Timer) → p t ≡ false → filter p (ts ++ t ∷ []) ≡ filter p ts
filter-append_no p ts t h =
    let e : filter p (t ∷ []) ≡ [] = rw h refl in
    filter-append p ts (t ∷ []) ∙ (ap (λ r. filter p ts ++ r) e ∙ append-nil (filter p ts))

map-insert_by_deadline : (t : Timer) (ts : List Timer) → map at_first_place (insert_by_deadline itself t ts)
    ≡ put (at_first_place t) (map at_first_place ts)
map-insert_by_deadline t [] = refl
map-insert_by_deadline t (x ∷ xs) = elim (either (nat_lt t.deadline x.deadline)) [
  | inl k ↦ rw k refl
  | inr k ↦ rw k (ap (λ r. at_first_place x ∷ r) (map-insert_by_deadline t xs))
]

plain_state-after_start : (now last : ℕ) (ts : List Timer) (t : Timer) → AllByRecursion (IsKept now last) ts → last < t.serial
    → now < t.deadline
    → plain_state now t.serial (ts ++ t ∷ []) ≡ after_start 0 t (plain_state now last ts)
plain_state-after_start now last ts t k h l =
    let b : AreBelow t.serial (filter (is_after now) ts) =
    All-filter (λ u. u.serial < t.serial) (λ u. u.serial < t.serial) (is_after now) ts (λ u e b. b) (below_new now last t.serial ts k h) in
    state_is now t.serial
    (ap (λ r. map at_first_place (in_order itself r)) (filter-append_yes (is_after now) ts t (after_is now t l))
    ∙ ap (map at_first_place) (newest_last t (filter (is_after now) ts) b)
    ∙ map-insert_by_deadline t (in_order itself (filter (is_after now) ts)))
    (ap (map at_first_place) (filter-append_no (is_due_at now) ts t (not_due_before now t l)))

plain_state-after_due_start : (now last : ℕ) (ts : List Timer) (t : Timer) → t.deadline ≡ now
    → plain_state now t.serial (ts ++ t ∷ []) ≡ after_due_start 0 t (plain_state now last ts)
plain_state-after_due_start now last ts t h =
    let due : is_due_at now t ≡ true = is_due now t h in
    state_is now t.serial
    (ap (λ us. map at_first_place (in_order itself us)) (filter-append_no (is_after now) ts t (due_not_after now t due)))
    (ap (map at_first_place) (filter-append_yes (is_due_at now) ts t due) ∙ map-append at_first_place (filter (is_due_at now) ts) (t ∷ []))

-- for now or later
pub plain_state-after_held_start : (now last : ℕ) (ts : List Timer) (t : Timer) → AllByRecursion (IsKept now last) ts
    → last < t.serial → now ≤ t.deadline
    → plain_state now t.serial (ts ++ t ∷ []) ≡ after_held_start 0 t (plain_state now last ts)
plain_state-after_held_start now last ts t k h l = elim (cases_lt now t.deadline) [
  | inl later ↦ plain_state-after_start now last ts t k h later ∙ sym (start_when_later 0 t (plain_state now last ts) later)
  | inr same ↦
      let due : t.deadline ≡ now = omega arith in
      plain_state-after_due_start now last ts t due ∙ sym (start_when_now 0 t (plain_state now last ts) due)
]

pub kept-after_start : (now last : ℕ) (ts : List Timer) (t : Timer) → AllByRecursion (IsKept now last) ts → last < t.serial
    → now ≤ t.deadline → t.deadline ≤ LAST
    → AllByRecursion (IsKept now t.serial) (ts ++ t ∷ [])
kept-after_start now last [] t k h l m = (record { not_before = omega arith; in_range = m; serial = omega arith }, tt)
kept-after_start now last (x ∷ xs) t k h l m =
    let s : x.serial ≤ last = k.0.serial in (
      record { not_before = k.0.not_before; in_range = k.0.in_range; serial = omega arith },
      kept-after_start now last xs t k.1 h l m,
    )

pub rising-after_start : (now last : ℕ) (ts : List Timer) (t : Timer) → AllByRecursion (IsKept now last) ts → AreRising 0 ts
    → last < t.serial → AreRising 0 (ts ++ t ∷ [])
rising-after_start now last ts t k r l = AreRising-append 0 t ts r (below_new now last t.serial ts k l) (omega arith)

-- one more is due if the new timer is
pub due_count-after_start : (now due more : ℕ) (ts : List Timer) (t : Timer) → due ≡ due_count now ts
    → (t.deadline ≡ now → more ≡ 1) → (t.deadline ≢ now → more ≡ 0) → due + more ≡ due_count now (ts ++ t ∷ [])
due_count-after_start now due more ts t e one none = elim (cases_eq t.deadline now) [
  | inl h ↦
      let m : more ≡ 1 = one h in
      let d : due_count now (ts ++ t ∷ []) ≡ due_count now ts + 1 =
      ap length (filter-append_yes (is_due_at now) ts t (is_due now t h)) ∙ length-append (filter (is_due_at now) ts) (t ∷ []) in
      omega arith
  | inr n ↦
      let m : more ≡ 0 = none n in
      let d : due_count now (ts ++ t ∷ []) ≡ due_count now ts =
      ap length (filter-append_no (is_due_at now) ts t (is_not_due now t n)) in
      omega arith
]

-- How many are pending and how many are due.

pub length-pending : (now last : ℕ) (ts : List Timer) → length (plain_state now last ts).pending ≡ length (filter (is_after now) ts)
length-pending now last ts = length-map (in_order itself (filter (is_after now) ts)) at_first_place ∙ length-in_order itself (filter (is_after now) ts)

all_counted : (now last : ℕ) (ts : List Timer) → AllByRecursion (IsKept now last) ts
    → length (filter (is_after now) ts) + due_count now ts ≡ length ts
all_counted now last [] k = refl
all_counted now last (t ∷ ts) k = elim (either (is_due_at now t)) [
  | inl h ↦ let rest = all_counted now last ts k.1 in rw (due_not_after now t h, h) (omega arith)
  | inr h ↦ let rest = all_counted now last ts k.1 in rw (after_is now t (later_if_not_due now t k.0.not_before h), h) (omega arith)
]

pub due_count_is : (now last : ℕ) (ts : List Timer) → length (plain_state now last ts).due ≡ due_count now ts
due_count_is now last ts = length-map (filter (is_due_at now) ts) at_first_place

pub due_count_le : (now last : ℕ) (ts : List Timer) → AllByRecursion (IsKept now last) ts → due_count now ts ≤ length ts
due_count_le now last ts k = let all = all_counted now last ts k in omega arith

-- all timers are pending or due
pub held_count-all : (now last room : ℕ) (ts : List Timer) → AllByRecursion (IsKept now last) ts
    → held_count (with_room room (plain_state now last ts)) ≡ length ts
held_count-all now last room ts k = let all = all_counted now last ts k in
    omega (arith, length-pending now last ts, due_count_is now last ts)

pub pending_count : (now last : ℕ) (ts : List Timer) → AllByRecursion (IsKept now last) ts
    → length ts - due_count now ts ≡ length (plain_state now last ts).pending
pending_count now last ts k = let all = all_counted now last ts k in omega (arith, length-pending now last ts)

-- a timer after the tick that comes next is among those that are left
pub some_left : (tick i : ℕ) (ts : List Timer) (d : Timer) → i < length ts → tick < (get_or ts i d).deadline
    → 0 < length (filter (is_after tick) (drop i ts))
some_left tick i [] d h k = absurd (omega arith)
some_left tick zero (t ∷ ts) d h k = let after : is_after tick t ≡ true = grind (arith, nat_tests) in rw after (omega arith)
some_left tick (suc i) (t ∷ ts) d h k = some_left tick i ts d (omega arith) k
