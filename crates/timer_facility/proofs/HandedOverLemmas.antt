-- How many timers of a client are pending after an event, and what the event hands out.
use Rattle.std.proofs.Common.{◌≡◌, ◌≤◌, ◌+◌, ℕ, Bool, true, false, not, ◌==◌, List, [], ◌∷◌, length, refl, ◌∙◌, ap, inl, inr, arith}
use Rattle.std.specs.Prelude.{map, filter, nat_lt, if◌then◌else◌, Option, Some, None}
use Rattle.std.proofs.lemmas.List.{length-map}
use Rattle.timer_base.proofs.Basics.{either, filter_no_longer}
use Rattle.timer_facility.specs.Types.{Timer, Answer, TickFault, Notice, Expired, Returned}
use Rattle.timer_base.specs.Pending.{Entry, timer_of, timers_of, is_due_at, has_serial}
use Rattle.timer_facility.specs.declared.event.Out.TheVariants as Outs
use Rattle.timer_facility.specs.State.{FacilityState, one_of, count_of, pending_of, ModelRequest, Asked, Tick, Close}
use Rattle.timer_facility.specs.Verdict.{tick_refusal}
use Rattle.timer_facility.specs.Step.{answered, expiries, timer_stopped, timer_started, due_at_start, without_timer, with_timer, after_request, expired_next, step, step_of_tick, step_of_close}
use Rattle.timer_facility.specs.Run.{notices_in}
use Rattle.timer_facility.specs.Owed.{timer_handed}
use Rattle.timer_facility.specs.HandedOver.{timers_handed, AddsAtMostOne, HandsOver}
use Rattle.timer_facility.proofs.FacilityCounts.{count-put, count-tick}
use Rattle.timer_facility.proofs.TimerLists.{length-parts, timers_of-filter, length-put, notices_in-map}
use Rattle.timer_facility.proofs.StepLemmas.{by_verdict, started-new}

-- Notices.

pub unwrapped : (f : Timer → Notice) → ((t : Timer) → timer_handed (f t) ≡ t) → (ts : List Timer) → map timer_handed (map f ts) ≡ ts
unwrapped f h [] = refl
unwrapped f h (t ∷ ts) = rw (h t, unwrapped f h ts) refl

handed_are : (f : Timer → Notice) → ((t : Timer) → timer_handed (f t) ≡ t) → (ts : List Timer)
    → map timer_handed (notices_in (map (λ t. Outs.Notice (f t)) ts)) ≡ ts
handed_are f h ts = ap (map timer_handed) (notices_in-map f ts) ∙ unwrapped f h ts

-- Requests.

-- no client has more pending timers
pub record AddsNone (s t : FacilityState) : Type 0 where
  pub of_client : (c : ℕ) → pending_of t c ≤ pending_of s c
  pub all : length t.pending ≤ length s.pending

filter_fewer : (c : ℕ) (p : Entry → Bool) (es : List Entry) → count_of c (timers_of (filter p es)) ≤ count_of c (timers_of es)
filter_fewer c p [] = omega arith
filter_fewer c p (e ∷ es) = elim (either (p e)) [
  | inl h ↦ rw h (let n = filter_fewer c p es in omega arith)
  | inr h ↦ rw h (let n = filter_fewer c p es in omega arith)
]

pub adds_stop : (s : FacilityState) (old : Option Timer) → AddsNone s (without_timer old s)
adds_stop s None = record { of_client = λ c. omega arith; all = omega arith }
adds_stop s (Some t) = record {
  of_client = λ c. filter_fewer c (λ e. not (has_serial t.serial e.timer)) s.pending;
  all = filter_no_longer (λ e. not (has_serial t.serial e.timer)) s.pending;
}

-- a timer that is started is pending or due
record IsAdded (s : FacilityState) (place : ℕ) (t : Timer) : Type 0 where
  of_client : (c : ℕ) → pending_of (with_timer (Some t) place s) c + count_of c (due_at_start s (Some t)) ≡ pending_of s c + one_of c t
  all : length (with_timer (Some t) place s).pending + length (due_at_start s (Some t)) ≡ length s.pending + 1

added : (s : FacilityState) (place : ℕ) (t : Timer) → IsAdded s place t
added s place t = elim (either (nat_lt s.now t.deadline)) [
  | inl k ↦ record {
    of_client = λ c. rw k (omega (arith, count-put c (record { place = place; timer = t }) s.pending));
    all = rw k (omega (arith, length-put (record { place = place; timer = t }) s.pending));
  }
  | inr k ↦ record { of_client = λ c. rw k (omega arith); all = rw k (omega arith) }
]

-- at most one more than after the stop
adds_request : (s : FacilityState) (client number place : ℕ) (answer : Answer) (old new : Option Timer)
    → ((t : Timer) → new ≡ Some t → t.client ≡ client)
    → AddsAtMostOne client s (answered client number answer (due_at_start s new) (after_request old new place s))
adds_request s client number place answer old None h =
    let less = adds_stop s old in
    record { of_client = λ c. omega (arith, less.of_client c); all = omega (arith, less.all) }
adds_request s client number place answer old (Some t) h =
    let less = adds_stop s old in
    let due : List Timer = due_at_start s (Some t) in
    let more = added (without_timer old s) place t in
    let handed : map timer_handed (notices_in (expiries due)) ≡ due = handed_are (λ t. Expired t) (λ t. refl) due in record {
      of_client = λ c.
          let same : one_of c t ≡ (if client == c then 1 else 0) = ap (λ k. if k == c then 1 else 0) (h t refl) in
          omega (arith, same, less.of_client c, more.of_client c, ap (count_of c) handed);
      all = omega (arith, less.all, more.all, ap length handed);
    }

pub adds_at_most_one : (s : FacilityState) (client number : ℕ) (request : ModelRequest) (place : ℕ)
    → AddsAtMostOne client s (step s (Asked client number request) place)
adds_at_most_one s client number request place =
    by_verdict (AddsAtMostOne client s) s client number request place
    (λ reason. record { of_client = λ c. omega arith; all = omega arith })
    (λ reason taken. record { of_client = λ c. omega arith; all = omega arith })
    (λ taken ok. adds_request s client number place _ (timer_stopped s client request) (timer_started s client number request)
    (λ t e. (started-new s client number request t e).client_is))

-- Ticks and closes.

hands_tick : (s : FacilityState) (o : Option TickFault) → HandsOver s (step_of_tick s o)
hands_tick s (Some fault) = record { of_client = λ c. omega arith; all = omega arith }
hands_tick s None =
    let ts : List Timer = expired_next s in
    let handed : timers_handed (step_of_tick s None) ≡ ts = handed_are (λ t. Expired t) (λ t. refl) ts in record {
      of_client = λ c. omega (
        arith,
        ap (count_of c) handed,
        ap (count_of c) (timers_of-filter (is_due_at (s.now + 1)) s.pending),
        count-tick c (s.now + 1) s.pending,
      );
      all = omega (arith, ap length handed, length-parts (is_due_at (s.now + 1)) s.pending);
    }

hands_close : (s : FacilityState) (closed : Bool) → HandsOver s (step_of_close s closed)
hands_close s true = record { of_client = λ c. omega arith; all = omega arith }
hands_close s false =
    let ts : List Timer = timers_of s.pending in
    let handed : timers_handed (step_of_close s false) ≡ ts = handed_are (λ t. Returned t) (λ t. refl) ts in record {
      of_client = λ c. omega (arith, ap (count_of c) handed);
      all = omega (arith, ap length handed, length-map s.pending timer_of);
    }

pub hands_over_tick : (s : FacilityState) (place : ℕ) → HandsOver s (step s Tick place)
hands_over_tick s place = hands_tick s (tick_refusal s)

pub hands_over_close : (s : FacilityState) (place : ℕ) → HandsOver s (step s Close place)
hands_over_close s place = hands_close s s.is_closed
