-- The stops of the pending timers of a client, one after another along the places.
use Rattle.std.proofs.Common.{◌≡◌, ◌≢◌, ◌<◌, ◌≤◌, ◌+◌, ◌⊎◌, ◌==◌, not, ℕ, true, false, List, [], ◌∷◌, ◌++◌, length, get_or, refl, sym, ◌∙◌, ap, subst, inl, inr, arith}
use Rattle.std.specs.Prelude.{Option, Some, None, All, slice_set, IsSome, IfSome}
use Rattle.std.specs.List.{AllByRecursion}
use Rattle.std.proofs.lemmas.Bool.{eqb-true, eq-eqb, ne_eqb}
use Rattle.std.proofs.lemmas.Bool.Decides.{nat_tests}
use Rattle.std.proofs.lemmas.List.{get_or-set_same, length-set, set-set, set-get_or}
use Rattle.std.proofs.lemmas.List.Elements.{All-from_recursion, All-filter, All-tail, filter_passes}
use Rattle.timer_base.specs.declared.limits.TheConstants.{LAST}
use Rattle.timer_base.specs.declared.timer.Timer.{Timer}
use Rattle.timer_base.specs.declared.timer.Handle.{Handle}
use Rattle.timer_base.proofs.Basics.{either, some_same}
use Rattle.timer_base.specs.Order.{AreDistinct}
use Rattle.timer_base.specs.Pending.{Entry, timers_of, has_handle, has_serial, first_timer, without_serial}
use Rattle.timer_wheels.specs.HeldPlaces.{AreBefore, IsFirstHeld, IsAlone}
use Rattle.timer_facility.specs.declared.request.Answer.TheVariants.{Stopped}
use Rattle.timer_facility.specs.declared.event.Out.{Out}
use Rattle.timer_facility.specs.State.{FacilityState, number_of, count_of, one_of, pending_of, ByHandle, Stop, SingleEvent, Asked}
use Rattle.timer_facility.specs.Verdict.{not_taken, timer_named, of_client, name_refusal, refusal, verdict_on_request, verdict}
use Rattle.timer_facility.specs.Step.{StepResult, answered, answer_to, without_timer}
use Rattle.timer_facility.specs.Run.{run}
use Rattle.timer_facility.proofs.FacilityCounts.{count-without}
use Rattle.timer_facility.proofs.TimerLists.{IsOnly, AreDistinct-only, first_timer-among}
use Rattle.timer_facility.proofs.VerdictLemmas.{IsKnown, not_taken-none}
use Rattle.timer_facility.proofs.StepLemmas.{step-accepted}
use Rattle.timer_desk.specs.Settlement.{stop_step}
use Rattle.timer_desk_c.specs.Stopping.{stop_out, stops, stops_outs, of_others, AreStopped, IsFirstAt, IsFirstPending}
use Rattle.timer_base.proofs.HeldLaws.{held_when_none_due}
use Rattle.timer_base.specs.WheelState.{WheelState, held_at}

-- Entries.

-- what is found by the handle has its serial
found_serial : (handle : Handle) (t : Timer) (es : List Entry) → first_timer (has_handle handle) es ≡ Some t → t.serial ≡ handle.serial
found_serial handle t [] h = absurd (cc)
found_serial handle t (e ∷ es) h = elim (either (has_handle handle e)) [
  | inl k ↦ let same : e.timer ≡ t = some_same e.timer t (rw k at h) in ap (λ (u : Timer). u.serial) (sym same) ∙ serial_of handle e k
  | inr k ↦ found_serial handle t es (rw k at h)
]
  where
    serial_of : (handle : Handle) (e : Entry) → has_handle handle e ≡ true → e.timer.serial ≡ handle.serial
    serial_of handle e h = grind (arith, nat_tests)

-- the entries without the timer that was found, a client's own
others_kept : (client : ℕ) (t : Timer) (es : List Entry) → t.client ≡ client → AllByRecursion (IsOnly t) (timers_of es)
    → of_others client (without_serial t.serial es) ≡ of_others client es
others_kept client t [] own a = refl
others_kept client t (e ∷ es) own a = elim (either (e.timer.serial == t.serial)) [
  | inl h ↦
      let same : e.timer ≡ t = a.0 (eqb-true e.timer.serial t.serial h) in
      let mine : (e.timer.client == client) ≡ true = eq-eqb e.timer.client client (ap (λ (u : Timer). u.client) same ∙ own) in
      rw (h, mine) (others_kept client t es own a.1)
  | inr h ↦ elim (either (e.timer.client == client)) [
    | inl k ↦ rw (h, k) (others_kept client t es own a.1)
    | inr k ↦ rw (h, k) (ap (λ r. e ∷ r) (others_kept client t es own a.1))
  ]
]

-- one fewer of the client is pending without it
count_without : (client : ℕ) (handle : Handle) (t : Timer) (es : List Entry) → t.client ≡ client → AreDistinct (timers_of es)
    → first_timer (has_handle handle) es ≡ Some t
    → 1 + count_of client (timers_of (without_serial t.serial es)) ≡ count_of client (timers_of es)
count_without client handle t es own d h =
    let fewer = count-without client t es d (first_timer-among (has_handle handle) t es h) in
    let one : one_of client t ≡ 1 = rw (eq-eqb t.client client own) refl in
    omega (arith, fewer, one)

own_found : (client : ℕ) (o : Option Timer) (t : Timer) → o ≡ Some t → t.client ≡ client → of_client client o ≡ Some t
own_found client o t e own = ap (of_client client) e ∙ rw (eq-eqb t.client client own) refl

-- The walk.

-- none of the client's timers is at a place before this one
abbrev IsPassed : ℕ → ℕ → Entry → Type 0
IsPassed client place e = (place ≤ e.place) ⊎ (e.timer.client ≢ client)

abbrev ArePassed : ℕ → ℕ → List Entry → Type 0
ArePassed client place es = All (IsPassed client place) es

past : (client place : ℕ) (handle : Handle) (t : Timer) (e : Entry) → IsPassed client place e → (e.place ≡ handle.place → e.timer ≡ t)
    → ((e.place < place) ⊎ (handle.place ≤ e.place)) → (e.timer ≡ t → e.timer.client ≢ client) → IsPassed client (handle.place + 1) e
past client place handle t e passed alone b other = grind arith

-- past the first timer from a place on: if it is another client's, or is removed
module _ (client place : ℕ) (handle : Handle) (es : List Entry) (a : ArePassed client place es) (first : IsFirstAt place es handle) where
  alone : All (λ e. e.place ≡ handle.place → e.timer ≡ first.timer) es
  alone = All-from_recursion (λ e. e.place ≡ handle.place → e.timer ≡ first.timer) es first.alone

  elsewhere : All (λ e. (e.place < place) ⊎ (handle.place ≤ e.place)) es
  elsewhere = All-from_recursion (λ e. (e.place < place) ⊎ (handle.place ≤ e.place)) es first.elsewhere

  passed_other : first.timer.client ≢ client → ArePassed client (handle.place + 1) es
  passed_other foreign k e l = past client place handle first.timer (get_or es k e) (a k e l) (alone k e l) (elsewhere k e l)
      (λ m q. foreign (ap (λ (u : Timer). u.client) (sym m) ∙ q))

  passed_own : ArePassed client (handle.place + 1) (without_serial first.timer.serial es)
  passed_own k e l =
      let keeps = λ (x : Entry). not (has_serial first.timer.serial x.timer) in
      let x : Entry = get_or (without_serial first.timer.serial es) k e in
      past client place handle first.timer x (All-filter keeps (IsPassed client place) es a k e l)
      (All-filter keeps (λ e. e.place ≡ handle.place → e.timer ≡ first.timer) es alone k e l)
      (All-filter keeps (λ e. (e.place < place) ⊎ (handle.place ≤ e.place)) es elsewhere k e l)
      (λ m. absurd (not_equal x.timer.serial first.timer.serial (filter_passes keeps es k e l) (ap (λ (u : Timer). u.serial) m)))
    where
      not_equal : (m n : ℕ) → not (m == n) ≡ true → m ≢ n
      not_equal m n h = grind (arith, nat_tests)

none_left : (client : ℕ) (es : List Entry) → All (λ e. e.timer.client ≢ client) es
    → (of_others client es ≡ es) × (count_of client (timers_of es) ≡ 0)
none_left client [] a = (refl, refl)
none_left client (e ∷ es) a =
    let rest = none_left client es (All-tail (λ e. e.timer.client ≢ client) e es a) in
    let other = ne_eqb e.timer.client client (a 0 e (omega arith)) in
    (rw other (ap (λ r. e ∷ r) rest.0), rw other (let n = rest.1 in omega arith))

-- The state.

-- these outs, and then the result of what came after
abbrev then : List Out → StepResult → StepResult
then outs r = record { outs = outs ++ r.outs; state = r.state }

-- the client may ask for so many more
pub record MayStop (client : ℕ) (s : FacilityState) : Type 0 where
  pub still_open : s.is_closed ≡ false
  pub is_client : client < length s.numbers
  pub few : number_of s client + pending_of s client ≤ LAST + 1

-- each timer of the client at a place before this one was stopped, and once the others are, all of them are
pub record IsStopping (client place : ℕ) (s now : FacilityState) : Type 0 where
  pub may : MayStop client now
  pub passed : ArePassed client place now.pending
  pub rest : (t : FacilityState) → AreStopped client (pending_of now client) now t → AreStopped client (pending_of s client) s t

-- the timer that was found is another client's
stopping-other : (client place : ℕ) (s now : FacilityState) (handle : Handle) → IsStopping client place s now
    → IsFirstAt place now.pending handle → timer_named now client (ByHandle handle) ≡ None → IsStopping client (handle.place + 1) s now
stopping-other client place s now handle h first none = record {
  may = h.may;
  passed = passed_other client place handle now.pending h.passed first (λ own.
      absurd (let g : Some first.timer ≡ None = sym (own_found client (first_timer (has_handle handle) now.pending) first.timer first.there own)
      ∙ none in cc));
  rest = h.rest;
}

-- the same state without this timer, and with the client's next number
abbrev after_stop : ℕ → FacilityState → Timer → FacilityState
after_stop client s t = record s {
  pending = without_serial t.serial s.pending;
  numbers = slice_set s.numbers client (number_of s client + 1);
}

-- a stop of the client's own timer
own_stop : (client : ℕ) (s : FacilityState) (handle : Handle) (t : Timer) → not_taken s client (number_of s client) ≡ None
    → first_timer (has_handle handle) s.pending ≡ Some t → t.client ≡ client → stop_step s client handle
    ≡ record { outs = stop_out client (number_of s client, handle) ∷ []; state = after_stop client s t }
own_stop client s handle t taken there own =
    let number : ℕ = number_of s client in
    let found : timer_named s client (ByHandle handle) ≡ Some t = own_found client (first_timer (has_handle handle) s.pending) t there own in
    let event : SingleEvent = Asked client number (Stop (ByHandle handle)) in
    let accepted : verdict s event ≡ None = ap (λ o. verdict_on_request o (refusal s client (Stop (ByHandle handle)))) taken
    ∙ ap (λ o. verdict_on_request None (name_refusal o)) found in
    step-accepted s event 0 accepted
    ∙ ap (λ o. answered client number (answer_to o None 0) [] (without_timer o s)) found
    ∙ ap (λ n. answered client number (Stopped n) [] (without_timer (Some t) s)) (found_serial handle t s.pending there)

is_own : (client : ℕ) (o : Option Timer) (t : Timer) → o ≡ Some t → of_client client o ≢ None → t.client ≡ client
is_own client o t e some = elim (either (t.client == client)) [
  | inl k ↦ eqb-true t.client client k
  | inr k ↦ absurd (some (ap (of_client client) e ∙ rw k refl))
]

-- the timer that was found is the client's, and is stopped
module _ (client place : ℕ) (s now : FacilityState) (handle : Handle) (h : IsStopping client place s now)
    (distinct : AreDistinct (timers_of now.pending)) (first : IsFirstAt place now.pending handle)
    (own : timer_named now client (ByHandle handle) ≢ None) where
  mine : first.timer.client ≡ client
  mine = is_own client (first_timer (has_handle handle) now.pending) first.timer first.there own

  abbrev number : ℕ
  number = number_of now client

  abbrev after : FacilityState
  after = after_stop client now first.timer

  numbered : number_of after client ≡ number + 1
  numbered = get_or-set_same now.numbers client (number + 1) 0 h.may.is_client

  one_fewer : 1 + pending_of after client ≡ pending_of now client
  one_fewer = count_without client handle first.timer now.pending mine distinct first.there

  stop : stop_step now client handle ≡ record { outs = stop_out client (number, handle) ∷ []; state = after }
  stop =
      let known : IsKnown now client number = record { is_open = h.may.still_open; is_client = h.may.is_client; next_is = refl } in
      let few = h.may.few in
      let within : number ≤ LAST = omega (arith, few, one_fewer) in
      own_stop client now handle first.timer (not_taken-none now client number number known (omega arith) within (omega arith)) first.there mine

  -- this stop and then those of the others
  with_this : (t : FacilityState) → AreStopped client (pending_of after client) after t → AreStopped client (pending_of now client) now t
  with_this t rest = record {
    handles = handle ∷ rest.handles;
    counted = let n = rest.counted in omega (arith, n, one_fewer);
    all = refl;
    ran =
        ap (λ (st : StepResult). then st.outs (run st.state (stops client (number + 1) rest.handles))) stop
        ∙ ap (λ n. then (stop_out client (number, handle) ∷ []) (run after (stops client n rest.handles))) (sym numbered)
        ∙ ap (then (stop_out client (number, handle) ∷ [])) rest.ran
        ∙ ap (λ n. then (stop_out client (number, handle) ∷ []) (record { outs = stops_outs client n rest.handles; state = t })) numbered;
    left =
        let others = others_kept client first.timer now.pending mine (AreDistinct-only first.timer (timers_of now.pending) distinct
        (first_timer-among (has_handle handle) first.timer now.pending first.there)) in
        let count : number_of after client + pending_of after client ≡ number + pending_of now client = omega (arith, numbered, one_fewer) in
        rest.left
        ∙ ap (λ es. let u : FacilityState = record after {
          pending = es;
          numbers = slice_set after.numbers client
              (number_of after client + pending_of after client);
        } in u) others
        ∙ ap (λ n. let u : FacilityState = record now { pending = of_others client now.pending; numbers = slice_set after.numbers client n } in u)
        count
        ∙ ap (λ ns. let u : FacilityState = record now { pending = of_others client now.pending; numbers = ns } in u)
        (set-set now.numbers client (number + 1) (number + pending_of now client));
  }

  stopping-own : IsStopping client (handle.place + 1) s (stop_step now client handle).state
  stopping-own = subst (λ (r : StepResult). IsStopping client (handle.place + 1) s r.state) (sym stop) (record {
    may = record {
      still_open = h.may.still_open;
      is_client = let n = length-set now.numbers client (number + 1) in let low = h.may.is_client in omega (arith, n, low);
      few = let few = h.may.few in omega (arith, few, numbered, one_fewer);
    };
    passed = passed_own client place handle now.pending h.passed first;
    rest = λ t stopped. h.rest t (with_this t stopped);
  })

-- no pending timer is at a place from this one on: so all of the client's were stopped
pub stopping-done : (client place : ℕ) (s now : FacilityState) → IsStopping client place s now → AreBefore place now.pending
    → AreStopped client (pending_of s client) s now
stopping-done client place s now h before =
    let low = All-from_recursion (λ e. e.place < place) now.pending before in
    let none = none_left client now.pending (λ k e l. elim (h.passed k e l) [
      | inl at ↦ absurd (let b = low k e l in omega (arith, at, b))
      | inr other ↦ other
    ]) in
    let count : number_of now client ≡ number_of now client + pending_of now client = let n = none.1 in omega (arith, n) in
    h.rest now (record {
      handles = [];
      counted = sym none.1;
      all = refl;
      ran = refl;
      left =
          sym (ap (λ es. let u : FacilityState = record now {
            pending = es;
            numbers = slice_set now.numbers client
                (number_of now client + pending_of now client);
          } in u) none.0
          ∙ ap (λ n. let u : FacilityState = record now { numbers = slice_set now.numbers client n } in u) (sym count)
          ∙ ap (λ ns. let u : FacilityState = record now { numbers = ns } in u) (set-get_or now.numbers client 0));
    })

-- The loop.

-- the timer at the first place with one is stopped if it is the client's
module _ (client place : ℕ) (s now new : FacilityState) (handle : Handle) (h : IsStopping client place s now)
    (distinct : AreDistinct (timers_of now.pending)) (first : IsFirstAt place now.pending handle)
    (own : timer_named now client (ByHandle handle) ≢ None → new ≡ (stop_step now client handle).state)
    (other : timer_named now client (ByHandle handle) ≡ None → new ≡ now) where
  either_way : (o : Option Timer) → timer_named now client (ByHandle handle) ≡ o → IsStopping client (handle.place + 1) s new
  either_way None e = subst (IsStopping client (handle.place + 1) s) (sym (other e)) (stopping-other client place s now handle h first e)
  either_way (Some t) e =
      let some : timer_named now client (ByHandle handle) ≢ None = λ q. absurd (let g : Some t ≡ None = sym e ∙ q in cc) in
      subst (IsStopping client (handle.place + 1) s) (sym (own some)) (stopping-own client place s now handle h distinct first some)

  pub stopping-next : IsStopping client (handle.place + 1) s new
  stopping-next = either_way (timer_named now client (ByHandle handle)) refl

-- The timer at a place of a wheel where nothing is due.

some_of : (o : Option Timer) → IsSome o → (t : Timer) × (o ≡ Some t)
some_of None h = absurd (cc)
some_of (Some t) h = (t, refl)

-- what a wheel without due timers has from a place on
pub first_pending : (w : WheelState) (from : ℕ) (found : Option Handle) → w.due ≡ [] → IsFirstHeld from w found
    → IfSome found (λ handle. IsAlone handle w) → IsFirstPending from w.pending found
first_pending w from None none h alone = h.0
first_pending w from (Some handle) none h alone =
    let some = some_of (held_at handle w) h.1 in record {
      from_on = h.0;
      timer = some.0;
      there = sym (held_when_none_due handle w none) ∙ some.1;
      alone = (alone some.0 some.1).0;
      elsewhere = h.2;
    }
