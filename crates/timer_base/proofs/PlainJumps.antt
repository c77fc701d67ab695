-- Lemmas for `quiet_until` and `advance` of a `PlainWheel`: the first pending deadline, before which nothing is due and at which
-- something is.
use Rattle.std.proofs.Common.{◌≡◌, ◌<◌, ◌≤◌, ◌+◌, ◌-◌, ℕ, suc, false, List, [], ◌∷◌, length, refl, sym, ◌∙◌, ap, subst, inl, inr, arith, filter, map, min, Option, Some, None}
use Rattle.std.specs.List.{AllByRecursion}
use Rattle.std.proofs.lemmas.Bool.{cases_lt}
use Rattle.timer_base.proofs.Basics.{some_same, not_due_before, is_due, either, least_if_before, least_if_after}
use Rattle.timer_base.specs.Types.{Timer}
use Rattle.std.proofs.lemmas.List.{length-map}
use Rattle.timer_base.specs.Order.{in_order, itself, AreRising, insert_in_order, is_before, IsOrdered}
use Rattle.timer_base.proofs.OrderLaws.{All-weaken, All-in_order, All-filter}
use Rattle.timer_base.specs.Pending.{is_due_at, AreAfter, Entry, timers_of}
use Rattle.timer_base.specs.PlainState.{IsKept, AreDueAfter, IsJump, is_after, earliest, first_after, at_first_place, plain_state}
use Rattle.timer_base.specs.WheelState.{IsPassing, WheelState, after_tick, after_ticks, Advances, IsPending, IsWellFormed}
use Rattle.timer_base.proofs.TickLaws.{passing_quiet}
use Rattle.timer_base.proofs.PlainSteps.{after_is, filter_after, kept_later, state_is, plain_state-after_tick}
use Rattle.timer_base.proofs.PendingLaws.{none_sooner}
use Rattle.timer_base.specs.WakeUps.{IsQuietUntil, next_deadline}

-- A wake-up.

-- the deadline of the first timer
abbrev pub head_deadline : List Timer → Option ℕ
head_deadline [] = None
head_deadline (t ∷ ts) = Some t.deadline

head-insert : (t : Timer) (ts : List Timer) → head_deadline (insert_in_order itself t ts) ≡ earliest (Some t.deadline) (head_deadline ts)
head-insert t [] = refl
head-insert t (u ∷ us) = elim (either (is_before t u)) [
  | inl h ↦ rw h (ap Some (least_if_before t u h))
  | inr h ↦ rw h (ap Some (least_if_after t u h))
]

head-in_order : (now : ℕ) (ts : List Timer) → head_deadline (in_order itself (filter (is_after now) ts)) ≡ first_after now ts
head-in_order now [] = refl
head-in_order now (t ∷ ts) = elim (either (is_after now t)) [
  | inl h ↦ rw h (head-insert t (in_order itself (filter (is_after now) ts)) ∙ ap (earliest (Some t.deadline)) (head-in_order now ts))
  | inr h ↦ rw h (head-in_order now ts)
]

next-at_first_place : (ts : List Timer) → next_deadline (map at_first_place ts) ≡ head_deadline ts
next-at_first_place [] = refl
next-at_first_place (t ∷ ts) = refl

pub first_is_next : (now last : ℕ) (ts : List Timer) → first_after now ts ≡ next_deadline (plain_state now last ts).pending
first_is_next now last ts = sym (next-at_first_place (in_order itself (filter (is_after now) ts)) ∙ head-in_order now ts)

quiet_next : (last_tick now last : ℕ) (es : List Entry) → IsOrdered (timers_of es)
    → AllByRecursion (IsPending last_tick now last) (timers_of es) → IsQuietUntil (next_deadline es) now es
quiet_next last_tick now last [] o a = refl
quiet_next last_tick now last (e ∷ es) o a = record {
  some = omega arith;
  later = a.0.later;
  in_time = (omega arith, none_sooner e.timer es o.0);
}

-- the first pending deadline is a tick to wake up at
pub quiet_until_next : (w : WheelState) → IsWellFormed w → IsQuietUntil (next_deadline w.pending) w.now w.pending
quiet_until_next w f = quiet_next w.last_tick w.now w.last_serial w.pending f.ordered f.each

-- What is due before the first deadline, and at it.

not_none : (a : ℕ) (r : Option ℕ) → earliest (Some a) r ≡ None → ⊥
not_none a None e = cc
not_none a (Some b) e = cc

-- without a first deadline there is no timer
pub no_timers : (tick : ℕ) (ts : List Timer) → AreDueAfter tick ts → first_after tick ts ≡ None → ts ≡ []
no_timers tick [] a e = refl
no_timers tick (t ∷ ts) a e = absurd (not_none t.deadline (first_after tick ts) (rw (after_is tick t a.0) at e))

-- each deadline is at least this one
abbrev AreFrom : ℕ → List Timer → Type 0
AreFrom tick ts = AllByRecursion (λ t. tick ≤ t.deadline) ts

from_step : (d : ℕ) (t : Timer) (ts : List Timer) (rest : Option ℕ) → (rest ≡ None → ts ≡ []) → ((m : ℕ) → rest ≡ Some m → AreFrom m ts)
    → earliest (Some t.deadline) rest ≡ Some d → (d ≤ t.deadline) × AreFrom d ts
from_step d t ts None none some e =
    let same : t.deadline ≡ d = some_same t.deadline d e in
    (omega arith, rw (none refl) tt)
from_step d t ts (Some m) none some e =
    let same : min t.deadline m ≡ d = some_same (min t.deadline m) d e in
    (omega arith, All-weaken (λ u. m ≤ u.deadline) (λ u. d ≤ u.deadline) ts (λ u h. omega arith) (some m refl))

pub first_from : (tick d : ℕ) (ts : List Timer) → AreDueAfter tick ts → first_after tick ts ≡ Some d → AreFrom d ts
first_from tick d [] a e = tt
first_from tick d (t ∷ ts) a e =
    from_step d t ts (first_after tick ts) (no_timers tick ts a.1) (λ m f. first_from tick m ts a.1 f) (rw (after_is tick t a.0) at e)

-- some timer has the first deadline
there_step : (d : ℕ) (t : Timer) (ts : List Timer) (rest : Option ℕ) → ((m : ℕ) → rest ≡ Some m → 0 < length (filter (is_due_at m) ts))
    → earliest (Some t.deadline) rest ≡ Some d → 0 < length (filter (is_due_at d) (t ∷ ts))
there_step d t ts None some e = rw (is_due d t (some_same t.deadline d e)) (omega arith)
there_step d t ts (Some m) some e = elim (either (is_due_at d t)) [
  | inl h ↦ rw h (omega arith)
  | inr h ↦
      let same : min t.deadline m ≡ d = some_same (min t.deadline m) d e in
      let at : m ≡ d = other d m t h same in
      rw h (let P : ℕ → Type 0 = λ k. 0 < length (filter (is_due_at k) ts) in subst P at (some m refl))
] where
  other : (d m : ℕ) (t : Timer) → is_due_at d t ≡ false → min t.deadline m ≡ d → m ≡ d
  other d m t h e = elim (cases_lt t.deadline m) [
    | inl k ↦ absurd (let f : t.deadline ≡ d = omega arith in let g = is_due d t f in cc)
    | inr k ↦ omega arith
  ]

pub first_there : (tick d : ℕ) (ts : List Timer) → AreDueAfter tick ts → first_after tick ts ≡ Some d → 0 < length (filter (is_due_at d) ts)
first_there tick d [] a e = absurd (cc)
first_there tick d (t ∷ ts) a e =
    there_step d t ts (first_after tick ts) (λ m f. first_there tick m ts a.1 f) (rw (after_is tick t a.0) at e)

-- some quiet ticks, and one at which something may be due
pub jumps : (n most passed : ℕ) (old mid new : WheelState) → IsPassing n old mid → passed ≡ n + 1 → passed ≤ most → new ≡ after_tick mid
    → (passed < most → 0 < length new.due) → Advances most passed old new
jumps n most passed old mid new p e h t d = record {
  some = omega arith;
  at_most = h;
  ticked = t ∙ (ap after_tick p.ticked ∙ ap (λ (k : ℕ). after_ticks k old) (let s : suc n ≡ passed = omega arith in s));
  quiet = λ k b. p.quiet k (omega arith);
  early = d;
}

-- The fields after a skip.

pub kept-skipped : (now last ticks : ℕ) (ts : List Timer) → AreDueAfter (now + ticks) ts → AllByRecursion (IsKept now last) ts
    → AllByRecursion (IsKept (now + ticks) last) ts
kept-skipped now last ticks ts a k = kept_later now last (now + ticks) ts k
    (All-weaken (λ t. now + ticks < t.deadline) (λ t. now + ticks ≤ t.deadline) ts (λ t h. omega arith) a)

pub none_due_after : (tick : ℕ) (ts : List Timer) → AreDueAfter tick ts → filter (is_due_at tick) ts ≡ []
none_due_after tick [] a = refl
none_due_after tick (t ∷ ts) a = rw (not_due_before tick t a.0) (none_due_after tick ts a.1)

pub plain_state-skipped : (now last ticks : ℕ) (ts : List Timer) → AreDueAfter (now + ticks) ts → filter (is_due_at now) ts ≡ []
    → plain_state (now + ticks) last ts ≡ record (plain_state now last ts) { now = now + ticks }
plain_state-skipped now last ticks ts a d =
    let none : filter (is_due_at (now + ticks)) ts ≡ filter (is_due_at now) ts = none_due_after (now + ticks) ts a ∙ sym d in
    let before : AreDueAfter now ts = All-weaken (λ t. now + ticks < t.deadline) (λ t. now < t.deadline) ts (λ t h. omega arith) a in
    let all : filter (is_after (now + ticks)) ts ≡ filter (is_after now) ts =
    filter_after (now + ticks) ts a ∙ sym (filter_after now ts before) in
    state_is (now + ticks) last (ap (λ us. map at_first_place (in_order itself us)) all) (ap (map at_first_place) none)

all-placed : (tick : ℕ) (ts : List Timer) → AreDueAfter tick ts → AreAfter tick (map at_first_place ts)
all-placed tick [] a = tt
all-placed tick (t ∷ ts) a = (a.0, all-placed tick ts a.1)

pub pending_after : (tick now : ℕ) (ts : List Timer) → AreDueAfter tick ts
    → AreAfter tick (map at_first_place (in_order itself (filter (is_after now) ts)))
pending_after tick now ts a =
    let P : Timer → Type 0 = λ t. tick < t.deadline in
    all-placed tick (in_order itself (filter (is_after now) ts))
    (All-in_order itself P (filter (is_after now) ts) (All-filter P P (is_after now) ts (λ t e h. h) a))

-- The jump.

pub jump-none : (now most : ℕ) (ts : List Timer) → 0 < most → AreDueAfter now ts → first_after now ts ≡ None → IsJump now most most ts
jump-none now most ts h a e = record {
  some = h;
  at_most = omega arith;
  quiet = rw (no_timers now ts a e) tt;
  early = λ l. absurd (omega arith);
}

pub jump-some : (now most passed d : ℕ) (ts : List Timer) → 0 < most → AreDueAfter now ts → first_after now ts ≡ Some d → now < d
    → passed ≡ min most (d - now)
    → IsJump now most passed ts
jump-some now most passed d ts h a e l p = record {
  some = omega arith;
  at_most = omega arith;
  quiet = All-weaken (λ t. d ≤ t.deadline) (λ t. now + (passed - 1) < t.deadline) ts (λ t k. omega arith) (first_from now d ts a e);
  early = λ k.
      let at : d ≡ now + passed = omega arith in
      let P : ℕ → Type 0 = λ tick. 0 < length (filter (is_due_at tick) ts) in
      subst P at (first_there now d ts a e);
}

pub jumped : (now last most passed : ℕ) (ts : List Timer) (new : WheelState) → IsJump now most passed ts → filter (is_due_at now) ts ≡ []
    → AllByRecursion (IsKept now last) ts → AreRising 0 ts → new ≡ after_tick (plain_state (now + (passed - 1)) last ts)
    → Advances most passed (plain_state now last ts) new
jumped now last most passed ts new j d k r e =
    let n : ℕ = passed - 1 in
    let old : WheelState = plain_state now last ts in
    let mid : WheelState = plain_state (now + n) last ts in
    let skipped : mid ≡ record old { now = now + n } = plain_state-skipped now last n ts j.quiet d in
    let quiet : IsPassing n old (record old { now = now + n }) =
    passing_quiet n old (ap (map at_first_place) d) (pending_after (now + n) now ts j.quiet) in
    let passing : IsPassing n old mid = let P : WheelState → Type 0 = λ w. IsPassing n old w in subst P (sym skipped) quiet in
    let ticked : new ≡ plain_state (now + n + 1) last ts =
    e ∙ sym (plain_state-after_tick (now + n) last ts (kept-skipped now last n ts j.quiet k) r (none_due_after (now + n) ts j.quiet)) in
    let due : length new.due ≡ length (filter (is_due_at (now + n + 1)) ts) =
    ap (λ (w : WheelState). length w.due) ticked ∙ length-map (filter (is_due_at (now + n + 1)) ts) at_first_place in
    let at : now + passed ≡ now + n + 1 = (let s : 0 < passed = j.some in omega arith) in
    let same : length (filter (is_due_at (now + passed)) ts) ≡ length (filter (is_due_at (now + n + 1)) ts) =
    ap (λ (tick : ℕ). length (filter (is_due_at tick) ts)) at in
    jumps n most passed old mid new passing (let s : 0 < passed = j.some in omega arith) j.at_most e
    (λ h. let f : 0 < length (filter (is_due_at (now + passed)) ts) = j.early h in omega arith)

-- The state that a skip leaves.

pub state_skipped : (now next ticks last serial : ℕ) (ts us : List Timer) → next ≡ now + ticks → serial ≡ last → us ≡ ts
    → plain_state next serial us ≡ plain_state (now + ticks) last ts
state_skipped now next ticks last serial ts us n l t = cc

pub due_skipped : (now next ticks last serial : ℕ) (ts us : List Timer) → next ≡ now + ticks → us ≡ ts → AreDueAfter (now + ticks) ts
    → (plain_state next serial us).due ≡ []
due_skipped now next ticks last serial ts us n t a =
    rw (n, t) (ap (map at_first_place) (none_due_after (now + ticks) ts a))
