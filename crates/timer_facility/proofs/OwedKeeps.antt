-- The invariant between two events of a run, and how each kind of event preserves it.
use Rattle.std.proofs.Common.{◌≡◌, ◌<◌, ◌≤◌, ◌+◌, ℕ, zero, suc, Bool, true, false, not, ◌==◌, ◌&&◌, ◌||◌, List, [], ◌∷◌, ◌++◌, refl, sym, ◌∙◌, ap, subst, inl, inr, arith, append-nil, append_assoc}
use Rattle.std.specs.Prelude.{map, filter, nat_lt, Some}
use Rattle.std.specs.List.{AllByRecursion}
use Rattle.std.proofs.lemmas.Bool.{and_from, and_parts, both_ways, eq-eqb, eqb-true, le-ltb, lt-ltb, ltb-true, not_from_false}
use Rattle.std.proofs.lemmas.Bool.Decides.{nat_tests}
use Rattle.std.proofs.lemmas.List.{map-append}
use Rattle.std.proofs.lemmas.List.Elements.{filter-append, filter_agree}
use Rattle.timer_base.proofs.Members.{at_member}
use Rattle.timer_base.proofs.Basics.{either, not_due_before}
use Rattle.timer_base.specs.Order.{IsMember, itself, IsNotAmong, AreDistinct, AreNumbered, AreBelow}
use Rattle.timer_base.proofs.OrderLaws.{All-append, All-filter, All-weaken, All-in_order, AreNumbered-append, newest_last, filter_same}
use Rattle.timer_facility.specs.Types.{Timer, Notice, Expired, Returned}
use Rattle.timer_base.specs.Pending.{timers_of, is_due_at, has_serial}
use Rattle.timer_facility.specs.State.{FacilityState, Tick, Close}
use Rattle.timer_facility.specs.Step.{with_number, without_timer, with_timer, expired_next, accepted}
use Rattle.timer_facility.specs.Owed.{timers_in_order, is_among}
use Rattle.timer_facility.proofs.TimerLists.{or_false, insert_newest, filter-timers_in_order, filter-filter, timers_of-put, timers_of-filter, IsMember-in_order, IsMember-filter, IsOnly, AreDistinct-only, AreDistinct-join, is_among-append, is_among_below}
use Rattle.timer_facility.proofs.StepLemmas.{put_when_later, put_when_now}
use Rattle.timer_facility.proofs.OwedFold.{Reading, all_started, is_owed_at, is_left_at, due_at, owed_at_ticks, owed_at_close, owed_for}

-- between two events: from s the answers read are r and the notices are ns, and c is the state now
pub record Keeps (s : FacilityState) (r : Reading) (ns : List Notice) (c : FacilityState) : Type 0 where
  pub now_is : c.now ≡ s.now + r.ticks
  pub told : ns ≡ owed_for s r
  pub shut : r.is_closed ≡ true → c.is_closed ≡ true
  pub left : r.is_closed ≡ false → timers_of c.pending ≡ timers_in_order (filter (is_left_at r c.now) (all_started s r))
  pub distinct : AreDistinct (all_started s r)
  pub below : AreBelow c.next_serial (all_started s r)
  pub stopped_below : AllByRecursion (λ k. k < c.next_serial) r.stopped
  pub not_past : AllByRecursion (λ t. s.now ≤ t.deadline) (all_started s r)
  pub numbered : AreNumbered s.next_serial r.started c.next_serial

pub not_closed : {s : FacilityState} {r : Reading} {ns : List Notice} {c : FacilityState} → Keeps s r ns c → c.is_closed ≡ false
    → r.is_closed ≡ false
not_closed {r = r} {c = c} k h = elim (either r.is_closed) [ inl m ↦ let n : c.is_closed ≡ true = k.shut m in absurd (cc) | inr m ↦ m ]

-- the readings that ticks look at are the same: so is what they owe
owed_at_ticks_same : (s : FacilityState) (r r' : Reading) (n : ℕ) → ((d : ℕ) → d ≤ s.now + n → due_at s r' d ≡ due_at s r d)
    → owed_at_ticks s r' n ≡ owed_at_ticks s r n
owed_at_ticks_same s r r' zero h = ap (map (λ t. Expired t)) (h s.now (omega arith))
owed_at_ticks_same s r r' (suc n) h =
    rw (owed_at_ticks_same s r r' n (λ d l. h d (omega arith)))
    (ap (λ ts. owed_at_ticks s r n ++ map (λ t. Expired t) ts) (h (s.now + suc n) (omega arith)))

-- if it is not closed, what is owed for a reading is what its ticks owe
owed_open : (s : FacilityState) (r : Reading) → r.is_closed ≡ false → owed_for s r ≡ owed_at_ticks s r r.ticks
owed_open s r h = ap (λ b. owed_at_ticks s r r.ticks ++ owed_at_close s r b) h ∙ append-nil (owed_at_ticks s r r.ticks)

-- a start

abbrev pub with_started : Reading → Timer → Reading
with_started r t = record r { started = r.started ++ t ∷ [] }

all_with_start : (s : FacilityState) (r : Reading) (t : Timer) → all_started s (with_started r t) ≡ all_started s r ++ t ∷ []
all_with_start s r t = sym (append_assoc (timers_of s.pending) r.started (t ∷ []))

pub not_owed : (r : Reading) (d : ℕ) (t : Timer) → d < t.deadline → is_owed_at r d t ≡ false
not_owed r d t h = rw (not_due_before d t h) refl

due_with_start : (s : FacilityState) (r : Reading) (t : Timer) (d : ℕ) → d < t.deadline → due_at s (with_started r t) d ≡ due_at s r d
due_with_start s r t d h = rw (
  all_with_start s r t,
  filter-append (is_owed_at r d) (all_started s r) (t ∷ []),
  not_owed r d t h,
  append-nil (filter (is_owed_at r d) (all_started s r)),
) refl

-- what is left, and a new timer
left_with_start : (s : FacilityState) (r : Reading) (now : ℕ) (t : Timer) → AreBelow t.serial (all_started s r) → now < t.deadline
    → is_among t.serial r.stopped ≡ false
    → insert_newest t (timers_in_order (filter (is_left_at r now) (all_started s r)))
    ≡ timers_in_order (filter (is_left_at r now) (all_started s (with_started r t)))
left_with_start s r now t below later unstopped =
    let left : List Timer = filter (is_left_at r now) (all_started s r) in
    let new : is_left_at r now t ≡ true = and_from (nat_lt now t.deadline) (not (is_among t.serial r.stopped)) (lt-ltb now t.deadline later)
    (not_from_false (is_among t.serial r.stopped) unstopped) in
    rw (all_with_start s r t, filter-append (is_left_at r now) (all_started s r) (t ∷ []), new)
    (sym (newest_last t left (All-filter (λ x. x.serial < t.serial) _ (is_left_at r now) (all_started s r) (λ x _ l. l) below)))

-- a start for a later tick
pub keeps-start : {s : FacilityState} {r : Reading} {ns : List Notice} {c : FacilityState} (place : ℕ) (t : Timer)
    → Keeps s r ns c → r.is_closed ≡ false → c.now < t.deadline → t.serial ≡ c.next_serial
    → Keeps s (with_started r t) ns (with_timer (Some t) place c)
keeps-start {s} {r} {ns} {c} place t k h l fresh =
    let n : c.now ≡ s.now + r.ticks = k.now_is in
    let below : AreBelow t.serial (all_started s r) = rw fresh k.below in
    let unstopped : is_among t.serial r.stopped ≡ false = is_among_below t.serial r.stopped (rw fresh k.stopped_below) in
    record {
      now_is = n;
      told = k.told ∙ owed_open s r h
          ∙ sym (owed_open s (with_started r t) h
          ∙ owed_at_ticks_same s r (with_started r t) r.ticks (λ d m. due_with_start s r t d (omega arith)));
      shut = λ m. absurd (both_ways r.is_closed h m);
      left = λ _. ap timers_of (put_when_later place t c.now c.pending l)
          ∙ timers_of-put (record { place = place; timer = t }) c.pending ∙ ap (insert_newest t) (k.left h)
          ∙ left_with_start s r c.now t below l unstopped;
      distinct = rw (all_with_start s r t) (AreDistinct-join (all_started s r) (t ∷ []) k.distinct (tt, tt)
          (All-weaken (λ x. x.serial < t.serial) (λ x. IsNotAmong x.serial (t ∷ [])) (all_started s r)
          (λ x b. ((λ e. omega (arith, b, e)), tt)) below));
      below = rw (all_with_start s r t) (All-append (λ x. x.serial < c.next_serial + 1) (all_started s r) (t ∷ [])
          (All-weaken (λ x. x.serial < c.next_serial) _ (all_started s r) (λ x b. omega (arith, b)) k.below) (omega (arith, fresh), tt));
      stopped_below = All-weaken (λ m. m < c.next_serial) (λ m. m < c.next_serial + 1) r.stopped (λ m b. omega (arith, b)) k.stopped_below;
      not_past = rw (all_with_start s r t) (All-append (λ x. s.now ≤ x.deadline) (all_started s r) (t ∷ []) k.not_past (omega arith, tt));
      numbered = AreNumbered-append s.next_serial r.started c.next_serial t k.numbered fresh;
    }

-- a start for now

-- the newest timer comes last at its tick
insert_last : (t : Timer) (xs : List Timer) → AllByRecursion (λ x. x.deadline ≤ t.deadline) xs → insert_newest t xs ≡ xs ++ t ∷ []
insert_last t [] a = refl
insert_last t (x ∷ xs) a =
    rw (le-ltb t.deadline x.deadline a.0) (ap (λ (r : List Timer). x ∷ r) (insert_last t xs a.1))

due_with_newest : (s : FacilityState) (r : Reading) (t : Timer) → AreBelow t.serial (all_started s r)
    → is_among t.serial r.stopped ≡ false → due_at s (with_started r t) t.deadline ≡ due_at s r t.deadline ++ t ∷ []
due_with_newest s r t below unstopped =
    let here : List Timer = filter (is_owed_at r t.deadline) (all_started s r) in
    let new : is_owed_at r t.deadline t ≡ true = and_from (t.deadline == t.deadline) (not (is_among t.serial r.stopped))
    (eq-eqb t.deadline t.deadline refl) (not_from_false (is_among t.serial r.stopped) unstopped) in
    rw (all_with_start s r t, filter-append (is_owed_at r t.deadline) (all_started s r) (t ∷ []), new)
    (newest_last t here (All-filter (λ x. x.serial < t.serial) _ (is_owed_at r t.deadline) (all_started s r) (λ x _ l. l) below)
    ∙ insert_last t (timers_in_order here) (All-in_order itself (λ x. x.deadline ≤ t.deadline) here
    (All-filter (λ x. x.serial < t.serial) (λ x. x.deadline ≤ t.deadline) (is_owed_at r t.deadline) (all_started s r)
    (λ x h _. let e = eqb-true x.deadline t.deadline
    (and_parts (x.deadline == t.deadline) (not (is_among x.serial r.stopped)) h).0 in omega (arith, e)) below)))

ticks_with_newest : (s : FacilityState) (r : Reading) (t : Timer) (n : ℕ) → t.deadline ≡ s.now + n
    → due_at s (with_started r t) t.deadline ≡ due_at s r t.deadline ++ t ∷ []
    → owed_at_ticks s (with_started r t) n ≡ owed_at_ticks s r n ++ Expired t ∷ []
ticks_with_newest s r t zero e h =
    let now : t.deadline ≡ s.now = omega (arith, e) in
    ap (map (λ t. Expired t)) (subst (λ d. due_at s (with_started r t) d ≡ due_at s r d ++ t ∷ []) now h)
    ∙ map-append (λ t. Expired t) (due_at s r s.now) (t ∷ [])
ticks_with_newest s r t (suc n) e h =
    let before : List Notice = owed_at_ticks s r n in
    let here : List Notice = map (λ t. Expired t) (due_at s r (s.now + suc n)) in
    ap (λ ns. ns ++ map (λ t. Expired t) (due_at s (with_started r t) (s.now + suc n)))
    (owed_at_ticks_same s r (with_started r t) n (λ d m. due_with_start s r t d (omega (arith, e))))
    ∙ ap (λ ts. before ++ map (λ t. Expired t) ts)
    (subst (λ d. due_at s (with_started r t) d ≡ due_at s r d ++ t ∷ []) e h)
    ∙ ap (λ ns. before ++ ns) (map-append (λ t. Expired t) (due_at s r (s.now + suc n)) (t ∷ []))
    ∙ sym (append_assoc before here (Expired t ∷ []))

left_without : (s : FacilityState) (r : Reading) (now : ℕ) (t : Timer) → t.deadline ≤ now
    → timers_in_order (filter (is_left_at r now) (all_started s r))
    ≡ timers_in_order (filter (is_left_at r now) (all_started s (with_started r t)))
left_without s r now t h = rw (
  all_with_start s r t,
  filter-append (is_left_at r now) (all_started s r) (t ∷ []),
  le-ltb now t.deadline h,
  append-nil (filter (is_left_at r now) (all_started s r)),
) refl

-- its notice is owed at once, after all others
pub keeps-start_now : {s : FacilityState} {r : Reading} {ns : List Notice} {c : FacilityState} (place : ℕ) (t : Timer)
    → Keeps s r ns c → r.is_closed ≡ false → t.deadline ≡ c.now → t.serial ≡ c.next_serial
    → Keeps s (with_started r t) (ns ++ Expired t ∷ []) (with_timer (Some t) place c)
keeps-start_now {s} {r} {ns} {c} place t k h at fresh =
    let n : c.now ≡ s.now + r.ticks = k.now_is in
    let below : AreBelow t.serial (all_started s r) = rw fresh k.below in
    let unstopped : is_among t.serial r.stopped ≡ false = is_among_below t.serial r.stopped (rw fresh k.stopped_below) in
    record {
      now_is = n;
      told = ap (λ xs. xs ++ Expired t ∷ []) (k.told ∙ owed_open s r h)
          ∙ sym (owed_open s (with_started r t) h
          ∙ ticks_with_newest s r t r.ticks (at ∙ n) (due_with_newest s r t below unstopped));
      shut = λ m. absurd (both_ways r.is_closed h m);
      left = λ _. ap timers_of (put_when_now place t c.now c.pending at) ∙ k.left h ∙ left_without s r c.now t (omega (arith, at));
      distinct = rw (all_with_start s r t) (AreDistinct-join (all_started s r) (t ∷ []) k.distinct (tt, tt)
          (All-weaken (λ x. x.serial < t.serial) (λ x. IsNotAmong x.serial (t ∷ [])) (all_started s r)
          (λ x b. ((λ e. omega (arith, b, e)), tt)) below));
      below = rw (all_with_start s r t) (All-append (λ x. x.serial < c.next_serial + 1) (all_started s r) (t ∷ [])
          (All-weaken (λ x. x.serial < c.next_serial) _ (all_started s r) (λ x b. omega (arith, b)) k.below) (omega (arith, fresh), tt));
      stopped_below = All-weaken (λ m. m < c.next_serial) (λ m. m < c.next_serial + 1) r.stopped (λ m b. omega (arith, b)) k.stopped_below;
      not_past = rw (all_with_start s r t) (All-append (λ x. s.now ≤ x.deadline) (all_started s r) (t ∷ []) k.not_past
          (omega (arith, at, n), tt));
      numbered = AreNumbered-append s.next_serial r.started c.next_serial t k.numbered fresh;
    }

-- a stop

abbrev with_stopped : Reading → ℕ → Reading
with_stopped r serial = record r { stopped = r.stopped ++ serial ∷ [] }

eq_sym : (a b : ℕ) → (a == b) ≡ (b == a)
eq_sym a b = grind (arith, nat_tests)

stopped_too : (p a e : Bool) → (p && not (a || e)) ≡ ((p && not a) && not e)
stopped_too true true e = refl
stopped_too true false e = refl
stopped_too false a e = refl

owed_stopped : (r : Reading) (now d : ℕ) (t x : Timer) → IsOnly t x → now < t.deadline → d ≤ now
    → is_owed_at (with_stopped r t.serial) d x ≡ is_owed_at r d x
owed_stopped r now d t x only l m = elim (either (t.serial == x.serial)) [
  | inl h ↦ let same : x ≡ t = only (sym (eqb-true t.serial x.serial h)) in
      let later : now < x.deadline = rw same l in
      not_owed (with_stopped r t.serial) d x (omega arith) ∙ sym (not_owed r d x (omega arith))
  | inr h ↦ rw (is_among-append x.serial t.serial r.stopped, h, or_false (is_among x.serial r.stopped)) refl
]

left_stopped : (r : Reading) (now serial : ℕ) (x : Timer) → (is_left_at r now x && not (has_serial serial x))
    ≡ is_left_at (with_stopped r serial) now x
left_stopped r now serial x = rw (
  is_among-append x.serial serial r.stopped,
  stopped_too (nat_lt now x.deadline) (is_among x.serial r.stopped) (serial == x.serial),
  eq_sym serial x.serial,
) refl

-- the pending timers that a test leaves, from those that were left
left_by : (all pending : List Timer) (test was now : Timer → Bool) → pending ≡ timers_in_order (filter was all)
    → ((t : Timer) → (was t && test t) ≡ now t) → filter test pending ≡ timers_in_order (filter now all)
left_by all pending test was now left same =
    rw (left, filter-timers_in_order test (filter was all), filter-filter test was all)
    (ap timers_in_order (filter_agree (λ x. was x && test x) now same all))

pub keeps-stop : {s : FacilityState} {r : Reading} {ns : List Notice} {c : FacilityState} (t : Timer)
    → Keeps s r ns c → r.is_closed ≡ false → IsMember t (timers_of c.pending)
    → Keeps s (with_stopped r t.serial) ns (without_timer (Some t) c)
keeps-stop {s} {r} {ns} {c} t k h among =
    let n : c.now ≡ s.now + r.ticks = k.now_is in
    let kept : IsMember t (timers_in_order (filter (is_left_at r c.now) (all_started s r))) = subst (λ xs. IsMember t xs) (k.left h) among in
    let passed : IsMember t (all_started s r) × (is_left_at r c.now t ≡ true) =
    IsMember-filter (is_left_at r c.now) t (all_started s r) (IsMember-in_order t (filter (is_left_at r c.now) (all_started s r)) kept) in
    let later : c.now < t.deadline =
    ltb-true c.now t.deadline (and_parts (nat_lt c.now t.deadline) (not (is_among t.serial r.stopped)) passed.1).0 in
    let same : (d : ℕ) → d ≤ s.now + r.ticks → due_at s (with_stopped r t.serial) d ≡ due_at s r d =
    λ d m. ap timers_in_order (filter_same (is_owed_at (with_stopped r t.serial) d) (is_owed_at r d) (all_started s r)
    (All-weaken (IsOnly t) _ (all_started s r) (λ x only. owed_stopped r c.now d t x only later (omega arith))
    (AreDistinct-only t (all_started s r) k.distinct passed.0))) in
    record {
      now_is = n;
      told = k.told ∙ owed_open s r h
          ∙ sym (owed_open s (with_stopped r t.serial) h ∙ owed_at_ticks_same s r (with_stopped r t.serial) r.ticks same);
      shut = λ m. absurd (both_ways r.is_closed h m);
      left = λ _. timers_of-filter (λ x. not (has_serial t.serial x)) c.pending
          ∙ left_by (all_started s r) (timers_of c.pending) (λ x. not (has_serial t.serial x)) (is_left_at r c.now)
          (is_left_at (with_stopped r t.serial) c.now) (k.left h) (left_stopped r c.now t.serial);
      distinct = k.distinct;
      below = k.below;
      stopped_below = All-append (λ m. m < c.next_serial) r.stopped (t.serial ∷ []) k.stopped_below
          (at_member (λ x. x.serial < c.next_serial) t (all_started s r) k.below passed.0, tt);
      not_past = k.not_past;
      numbered = k.numbered;
    }

-- a tick

abbrev with_tick : Reading → Reading
with_tick r = record r { ticks = r.ticks + 1 }

due_bits : (n d : ℕ) (a : Bool) → ((nat_lt n d && not a) && (d == n + 1)) ≡ ((d == n + 1) && not a)
due_bits n d true = grind (arith, nat_tests)
due_bits n d false = grind (arith, nat_tests)

left_bits : (n d : ℕ) (a : Bool) → ((nat_lt n d && not a) && not (d == n + 1)) ≡ (nat_lt (n + 1) d && not a)
left_bits n d true = grind (arith, nat_tests)
left_bits n d false = grind (arith, nat_tests)

pub keeps-tick : {s : FacilityState} {r : Reading} {ns : List Notice} {c : FacilityState}
    → Keeps s r ns c → r.is_closed ≡ false
    → Keeps s (with_tick r) (ns ++ map (λ t. Expired t) (expired_next c)) (accepted c Tick 0).state
keeps-tick {s} {r} {ns} {c} k h =
    let n : c.now ≡ s.now + r.ticks = k.now_is in
    let m : c.now + 1 ≡ s.now + suc r.ticks = omega arith in
    let one_more : suc r.ticks ≡ r.ticks + 1 = omega arith in
    let expired : expired_next c ≡ due_at s r (s.now + suc r.ticks) =
    left_by (all_started s r) (timers_of c.pending) (is_due_at (c.now + 1)) (is_left_at r c.now) (is_owed_at r (c.now + 1)) (k.left h)
    (λ x. due_bits c.now x.deadline (is_among x.serial r.stopped)) ∙ ap (due_at s r) m in
    record {
      now_is = omega arith;
      told = rw (k.told, owed_open s r h, expired, owed_open s (with_tick r) h) (ap (owed_at_ticks s r) one_more);
      shut = λ m. absurd (both_ways r.is_closed h m);
      left = λ _. timers_of-filter (λ x. not (is_due_at (c.now + 1) x)) c.pending
          ∙ left_by (all_started s r) (timers_of c.pending) (λ x. not (is_due_at (c.now + 1) x)) (is_left_at r c.now)
          (is_left_at r (c.now + 1)) (k.left h) (λ x. left_bits c.now x.deadline (is_among x.serial r.stopped));
      distinct = k.distinct;
      below = k.below;
      stopped_below = k.stopped_below;
      not_past = k.not_past;
      numbered = k.numbered;
    }

-- a close

pub keeps-close : {s : FacilityState} {r : Reading} {ns : List Notice} {c : FacilityState} → Keeps s r ns c → r.is_closed ≡ false
    → Keeps s (record r { is_closed = true }) (ns ++ map (λ t. Returned t) (timers_of c.pending)) (accepted c Close 0).state
keeps-close {s} {r} {ns} {c} k h = record {
  now_is = k.now_is;
  told = rw (k.told, owed_open s r h, k.left h, k.now_is) refl;
  shut = λ _. refl;
  left = λ m. absurd (both_ways true m refl);
  distinct = k.distinct;
  below = k.below;
  stopped_below = k.stopped_below;
  not_past = k.not_past;
  numbered = k.numbered;
}

-- a number that is used up
pub keeps-numbered : {s : FacilityState} {r : Reading} {ns : List Notice} {c : FacilityState} (client number : ℕ) → Keeps s r ns c
    → Keeps s r ns (with_number client number c)
keeps-numbered client number k = record {
  now_is = k.now_is;
  told = k.told;
  shut = k.shut;
  left = k.left;
  distinct = k.distinct;
  below = k.below;
  stopped_below = k.stopped_below;
  not_past = k.not_past;
  numbered = k.numbered;
}
