-- No timer is owed twice, and none that was stopped.
use Rattle.std.proofs.Common.{◌≡◌, ◌≢◌, ◌<◌, ◌≤◌, ◌+◌, ℕ, zero, suc, Bool, true, false, not, ◌&&◌, List, [], ◌∷◌, ◌++◌, refl, ap, subst, inl, inr, arith, ◌==◌, ◌||◌, ◌∙◌, sym}
use Rattle.std.specs.Prelude.{map, filter, nat_lt}
use Rattle.std.specs.List.{AllByRecursion}
use Rattle.std.proofs.lemmas.Bool.{and_parts, eqb-true, ltb-true, not-true, and_from, cases_eq, eq-eqb, lt-ltb, not_from_false}
use Rattle.std.proofs.lemmas.List.{map-append}
use Rattle.timer_base.specs.Order.{IsMember, itself, AreDistinct}
use Rattle.timer_base.proofs.Members.{at_member, in_left, in_right}
use Rattle.timer_base.proofs.OneOrder.{each_is_member, map-itself, IsMember-in_order}
use Rattle.timer_facility.specs.Types.{Timer, Expired, Returned, Notice}
use Rattle.timer_base.proofs.Basics.{either}
use Rattle.timer_base.proofs.OrderLaws.{All-append, All-filter, All-weaken, All-in_order, AreDistinct-in_order, filter_same}
use Rattle.timer_base.specs.Pending.{is_due_at}
use Rattle.timer_facility.specs.State.{FacilityState, IsSound}
use Rattle.timer_facility.specs.Run.{PlacedEvent, HistoryEntry, history}
use Rattle.timer_facility.specs.Owed.{started, stopped, accepted_ticks, has_closed, is_among, timers_in_order, due, left_after, owed_by_ticks, owed_by_close, timer_handed, handed_out, AreHandedOutOnce, is_due_within, others, AreAllHandedOut}
use Rattle.timer_facility.proofs.TimerLists.{IsOnly, AreDistinct-only, AreDistinct-join}
use Rattle.timer_facility.proofs.HandedOverLemmas.{unwrapped}
use Rattle.timer_facility.proofs.OwedLemmas.{notices-history, started-distinct, started-not_before}
use Rattle.std.proofs.lemmas.Bool.Decides.{nat_tests}

pub AreDistinct-filter : (p : Timer → Bool) (ts : List Timer) → AreDistinct ts → AreDistinct (filter p ts)
AreDistinct-filter p [] d = tt
AreDistinct-filter p (t ∷ ts) d = elim (either (p t)) [
  | inl h ↦ rw h (
    All-filter (λ u. u.serial ≢ t.serial) (λ u. u.serial ≢ t.serial) p ts (λ u k n. n) d.0,
    AreDistinct-filter p ts d.1,
  )
  | inr h ↦ rw h (AreDistinct-filter p ts d.1)
]

-- one of the started timers that was not stopped, with such a deadline
record IsOwed (all : List Timer) (ks : List ℕ) (At : ℕ → Type 0) (t : Timer) : Type 0 where
  among : IsMember t all
  unstopped : is_among t.serial ks ≡ false
  at : At t.deadline

-- distinct ones of them
record AreOwed (all : List Timer) (ks : List ℕ) (At : ℕ → Type 0) (ts : List Timer) : Type 0 where
  distinct : AreDistinct ts
  each : AllByRecursion (IsOwed all ks At) ts

-- those that satisfy a test of their deadline
owed_when : (all : List Timer) (ks : List ℕ) (At : ℕ → Type 0) (test : Timer → Bool) → AreDistinct all
    → ((t : Timer) → test t ≡ true → At t.deadline)
    → AreOwed all ks At (timers_in_order (filter (λ t. test t && not (is_among t.serial ks)) all))
owed_when all ks At test d f =
    let kept : List Timer = filter (λ t. test t && not (is_among t.serial ks)) all in
    record {
      distinct = subst (λ ts. AreDistinct ts) (map-itself (timers_in_order kept)) (AreDistinct-in_order itself kept
          (rw (map-itself kept) (AreDistinct-filter (λ t. test t && not (is_among t.serial ks)) all d)));
      each = All-in_order itself (IsOwed all ks At) kept
          (All-filter (λ t. IsMember t all) (IsOwed all ks At) (λ t. test t && not (is_among t.serial ks)) all
          (λ t h a. let parts = and_parts (test t) (not (is_among t.serial ks)) h in
          record { among = a; unstopped = not-true (is_among t.serial ks) parts.1; at = f t parts.0 }) (each_is_member all));
    }

-- of two timers that were started, one with a later deadline has another serial
other_serial : (all : List Timer) (tick : ℕ) (x y : Timer) → AreDistinct all → IsMember x all → IsMember y all → x.deadline ≤ tick
    → tick < y.deadline → y.serial ≢ x.serial
other_serial all tick x y d a b h k e =
    let same : y ≡ x = at_member (IsOnly x) y all (AreDistinct-only x all d a) b e in
    let deadline : y.deadline ≡ x.deadline = ap (λ (t : Timer). t.deadline) same in
    absurd (omega arith)

-- those up to a tick, and later ones
joined : (all : List Timer) (ks : List ℕ) (tick : ℕ) (Later Any : ℕ → Type 0) (xs ys : List Timer) → AreDistinct all
    → AreOwed all ks (λ d. d ≤ tick) xs → AreOwed all ks Later ys → ((d : ℕ) → Later d → tick < d)
    → ((d : ℕ) → d ≤ tick → Any d) → ((d : ℕ) → Later d → Any d) → AreOwed all ks Any (xs ++ ys)
joined all ks tick Later Any xs ys d u v later f g = record {
  distinct = AreDistinct-join xs ys u.distinct v.distinct (All-weaken (IsOwed all ks (λ d. d ≤ tick)) _ xs
      (λ x i. All-weaken (IsOwed all ks Later) _ ys
      (λ y j. other_serial all tick x y d i.among j.among i.at (later y.deadline j.at)) v.each) u.each);
  each = All-append (IsOwed all ks Any) xs ys
      (All-weaken (IsOwed all ks (λ d. d ≤ tick)) _ xs
      (λ x i. record { among = i.among; unstopped = i.unstopped; at = f x.deadline i.at }) u.each)
      (All-weaken (IsOwed all ks Later) _ ys
      (λ y j. record { among = j.among; unstopped = j.unstopped; at = g y.deadline j.at }) v.each);
}

-- what is owed by the first n ticks
by_ticks : (s : FacilityState) (hs : List HistoryEntry) (n : ℕ) → AreDistinct (started s hs)
    → AreOwed (started s hs) (stopped hs) (λ d. d ≤ s.now + n) (map timer_handed (owed_by_ticks s hs n))
by_ticks s hs zero d =
    rw (unwrapped (λ t. Expired t) (λ t. refl) (due s hs s.now))
    (owed_when (started s hs) (stopped hs) (λ d. d ≤ s.now + 0) (is_due_at s.now) d
    (λ t h. let e = eqb-true t.deadline s.now h in omega (arith, e)))
by_ticks s hs (suc n) d =
    let at : ℕ = s.now + suc n in
    let now : List Timer = due s hs at in
    rw (map-append timer_handed (owed_by_ticks s hs n) (map (λ t. Expired t) now), unwrapped (λ t. Expired t) (λ t. refl) now)
    (joined (started s hs) (stopped hs) (s.now + n) (λ d. d ≡ at) (λ d. d ≤ at) (map timer_handed (owed_by_ticks s hs n)) now d
    (by_ticks s hs n d)
    (owed_when (started s hs) (stopped hs) (λ d. d ≡ at) (is_due_at at) d (λ t h. eqb-true t.deadline at h))
    (λ d e. omega (arith, e)) (λ d l. omega (arith, l)) (λ d e. omega (arith, e)))

-- and by a close
by_close : (s : FacilityState) (hs : List HistoryEntry) (closed : Bool) → AreDistinct (started s hs)
    → AreOwed (started s hs) (stopped hs) (λ d. s.now + accepted_ticks hs < d) (map timer_handed (owed_by_close s hs closed))
by_close s hs false d = record { distinct = tt; each = tt }
by_close s hs true d =
    let tick : ℕ = s.now + accepted_ticks hs in
    rw (unwrapped (λ t. Returned t) (λ t. refl) (left_after s hs tick))
    (owed_when (started s hs) (stopped hs) (λ d. tick < d) (λ t. nat_lt tick t.deadline) d (λ t h. ltb-true tick t.deadline h))

-- no timer of a run is handed out twice, and none that was stopped
pub handed_once : (s : FacilityState) (ps : List PlacedEvent) → IsSound s → AreHandedOutOnce (history s ps)
handed_once s ps i =
    let hs : List HistoryEntry = history s ps in
    let d : AreDistinct (started s hs) = started-distinct s ps i in
    let n : ℕ = accepted_ticks hs in
    let whole : AreOwed (started s hs) (stopped hs) (λ _. Unit {0}) (handed_out hs) =
    rw (notices-history s ps i, map-append timer_handed (owed_by_ticks s hs n) (owed_by_close s hs (has_closed hs)))
    (joined (started s hs) (stopped hs) (s.now + n) (λ d. s.now + n < d) (λ _. Unit {0}) (map timer_handed (owed_by_ticks s hs n))
    (map timer_handed (owed_by_close s hs (has_closed hs))) d (by_ticks s hs n d) (by_close s hs (has_closed hs) d)
    (λ d l. l) (λ d l. tt) (λ d l. tt)) in
    record {
      once = whole.distinct;
      not_stopped = All-weaken (IsOwed (started s hs) (stopped hs) (λ _. Unit {0})) _ (handed_out hs) (λ t o. o.unstopped) whole.each;
    }

-- Every timer that was started and not stopped is handed out at its deadline, or else at the close.

-- Members of lists.

in_mapped : (f : Timer → Notice) (t : Timer) (ts : List Timer) → IsMember t ts → IsMember (f t) (map f ts)
in_mapped f t [] a = absurd a
in_mapped f t (x ∷ ts) a = elim a [ inl h ↦ inl (ap f h) | inr h ↦ inr (in_mapped f t ts h) ]

in_filter : (p : Timer → Bool) (t : Timer) (xs : List Timer) → p t ≡ true → IsMember t xs → IsMember t (filter p xs)
in_filter p t [] h a = absurd a
in_filter p t (x ∷ xs) h (inl e) = rw (ap p e ∙ h) (inl e)
in_filter p t (x ∷ xs) h (inr a) = elim (either (p x)) [
  | inl k ↦ rw k (inr (in_filter p t xs h a))
  | inr k ↦ rw k (in_filter p t xs h a)
]

-- What is owed at a tick, and at a close.

-- a timer that was started and not stopped is one of those that satisfy a test, if it does
in_owed : (all : List Timer) (ks : List ℕ) (test : Timer → Bool) (t : Timer) → IsMember t all → is_among t.serial ks ≡ false
    → test t ≡ true → IsMember t (timers_in_order (filter (λ x. test x && not (is_among x.serial ks)) all))
in_owed all ks test t a u h = IsMember-in_order itself t (filter (λ x. test x && not (is_among x.serial ks)) all)
    (in_filter (λ x. test x && not (is_among x.serial ks)) t all
    (and_from (test t) (not (is_among t.serial ks)) h (not_from_false (is_among t.serial ks) u)) a)

owed_at_its_tick : (s : FacilityState) (hs : List HistoryEntry) (t : Timer) → IsMember t (started s hs) → is_among t.serial (stopped hs) ≡ false
    → s.now ≤ t.deadline
    → (n : ℕ) → t.deadline ≤ s.now + n → IsMember (Expired t) (owed_by_ticks s hs n)
owed_at_its_tick s hs t a u l zero h = in_mapped (λ x. Expired x) t (due s hs s.now)
    (in_owed (started s hs) (stopped hs) (is_due_at s.now) t a u (eq-eqb t.deadline s.now (omega arith)))
owed_at_its_tick s hs t a u l (suc n) h =
    let here : List Notice = map (λ x. Expired x) (due s hs (s.now + suc n)) in
    elim (cases_eq t.deadline (s.now + suc n)) [
      | inl k ↦ in_right (Expired t) (owed_by_ticks s hs n) here
          (in_mapped (λ x. Expired x) t (due s hs (s.now + suc n))
          (in_owed (started s hs) (stopped hs) (is_due_at (s.now + suc n)) t a u (eq-eqb t.deadline (s.now + suc n) k)))
      | inr k ↦ in_left (Expired t) (owed_by_ticks s hs n) here (owed_at_its_tick s hs t a u l n (omega (arith, h, k)))
    ]

owed_at_the_close : (s : FacilityState) (hs : List HistoryEntry) (t : Timer) (b : Bool) → IsMember t (started s hs)
    → is_among t.serial (stopped hs) ≡ false
    → s.now + accepted_ticks hs < t.deadline → b ≡ true → IsMember (Returned t) (owed_by_close s hs b)
owed_at_the_close s hs t true a u l h =
    let tick : ℕ = s.now + accepted_ticks hs in
    in_mapped (λ x. Returned x) t (left_after s hs tick)
    (in_owed (started s hs) (stopped hs) (λ x. nat_lt tick x.deadline) t a u (lt-ltb tick t.deadline l))
owed_at_the_close s hs t false a u l h = absurd (cc)

-- no timer of a run that was started and not stopped is forgotten
pub handed_all : (s : FacilityState) (ps : List PlacedEvent) → IsSound s → AreAllHandedOut s (history s ps)
handed_all s ps i =
    let hs : List HistoryEntry = history s ps in
    let ticks : List Notice = owed_by_ticks s hs (accepted_ticks hs) in
    let close : List Notice = owed_by_close s hs (has_closed hs) in
    record {
      expired = λ t a u h. rw (notices-history s ps i) (in_left (Expired t) ticks close (owed_at_its_tick s hs t a u
          (at_member (λ x. s.now ≤ x.deadline) t (started s hs) (started-not_before s ps i) a) (accepted_ticks hs) h));
      returned = λ t a u h c. rw (notices-history s ps i)
          (in_right (Returned t) ticks close (owed_at_the_close s hs t (has_closed hs) a u h c));
    }

-- The others.

not_within_step : (b : Bool) (a d : ℕ) → not b ≡ nat_lt a d → not (b || (d == suc a)) ≡ nat_lt (suc a) d
not_within_step true a d h = grind (arith, nat_tests)
not_within_step false a d h = grind (arith, nat_tests)

not_within : (now n : ℕ) (t : Timer) → now ≤ t.deadline → not (is_due_within now n t) ≡ nat_lt (now + n) t.deadline
not_within now zero t h = grind (arith, nat_tests)
not_within now (suc n) t h =
    let one : now + suc n ≡ suc (now + n) = omega arith in
    subst (λ m. not (is_due_within now n t || (t.deadline == m))
    ≡ nat_lt m t.deadline) (sym one) (not_within_step (is_due_within now n t) (now + n) t.deadline (not_within now n t h))

-- a close returns those of the started timers that no tick handed out
pub left_others : (s : FacilityState) (ps : List PlacedEvent) → IsSound s
    → left_after s (history s ps) (s.now + accepted_ticks (history s ps)) ≡ others s (history s ps)
left_others s ps i =
    let hs : List HistoryEntry = history s ps in
    let later : Timer → Bool = λ t. nat_lt (s.now + accepted_ticks hs) t.deadline && not (is_among t.serial (stopped hs)) in
    let other : Timer → Bool = λ t. not (is_due_within s.now (accepted_ticks hs) t) && not (is_among t.serial (stopped hs)) in
    ap timers_in_order (filter_same later other (started s hs)
    (All-weaken (λ t. s.now ≤ t.deadline) (λ t. later t ≡ other t) (started s hs)
    (λ t h. ap (λ b. b && not (is_among t.serial (stopped hs))) (sym (not_within s.now (accepted_ticks hs) t h))) (started-not_before s ps i)))
