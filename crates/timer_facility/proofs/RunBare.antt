-- The outs of events do not depend on the places that a wheel chooses.
use Rattle.std.proofs.Common.{◌≡◌, ℕ, ◌+◌, Bool, false, not, inl, inr, List, [], ◌∷◌, length, refl, sym, ◌∙◌, ap, subst}
use Rattle.std.specs.Prelude.{map, filter, nat_lt, if◌then◌else◌, Option, Some, None}
use Rattle.std.specs.List.{AllByRecursion}
use Rattle.std.proofs.lemmas.List.{length-map, map-append}
use Rattle.std.proofs.lemmas.List.Elements.{All-replicate, recursion_from_All}
use Rattle.std.proofs.lemmas.Simd.{map-map}
use Rattle.timer_base.specs.Layout.{NoSlots}
use Rattle.timer_base.proofs.Basics.{either}
use Rattle.timer_base.proofs.OrderLaws.{All-append}
use Rattle.timer_facility.specs.Types.{Timer, NotTaken, Reason, TickFault, Notice, Event, Out, Expired, Returned}
use Rattle.timer_base.specs.Pending.{Entry, timer_of, timers_of, put, is_due_at, has_serial, first_timer, without_found}
use Rattle.timer_facility.specs.declared.event.Event.TheVariants as Events
use Rattle.timer_facility.specs.declared.event.Out.TheVariants as Outs
use Rattle.timer_facility.specs.State.{FacilityState, Deadline, After, At, tested_interval, ByHandle, BySerial, ModelRequest, Start, Stop, Restart, SingleEvent, Asked, Tick, Dump}
use Rattle.timer_facility.specs.Saved.{saved_of, by_serial, state_lines}
use Rattle.timer_facility.specs.Verdict.{not_taken, of_client, timer_named, interval_refusal, room_refusal, refusal, tick_refusal, verdict_on_request}
use Rattle.timer_facility.specs.Step.{StepResult, with_number, answered, timer_stopped, timer_started, due_at_start, answer_to, put_later, without_timer, with_timer, after_request, step_by, step, step_of_tick}
use Rattle.timer_facility.specs.Run.{PlacedEvent, state_after, run, bare_answer, bare, bare_outs, bare_entry, bare_state, NamesBySerial, AreSameButForPlaces}
use Rattle.timer_facility.specs.Played.{singles_of, ArePlaced, IsRun}

-- Lists of entries.

length-bare : (es : List Entry) → length (map bare_entry es) ≡ length es
length-bare es = length-map es bare_entry

timers_of-bare : (es : List Entry) → timers_of (map bare_entry es) ≡ timers_of es
timers_of-bare es = map-map timer_of bare_entry es

first_timer-bare : (test : Timer → Bool) (es : List Entry) → first_timer (λ e. test e.timer) (map bare_entry es)
    ≡ first_timer (λ e. test e.timer) es
first_timer-bare test [] = refl
first_timer-bare test (e ∷ es) = ap (λ o. if test e.timer then Some e.timer else o) (first_timer-bare test es)

put-bare : (e : Entry) (es : List Entry) → map bare_entry (put e es) ≡ put (bare_entry e) (map bare_entry es)
put-bare e [] = refl
put-bare e (x ∷ xs) = elim (either (nat_lt e.timer.deadline x.timer.deadline)) [
  | inl h ↦ rw h refl
  | inr h ↦ rw h (ap (λ r. bare_entry x ∷ r) (put-bare e xs))
]

put_later-bare : (now : ℕ) (e : Entry) (es : List Entry)
    → map bare_entry (put_later now e es) ≡ put_later now (bare_entry e) (map bare_entry es)
put_later-bare now e es = elim (either (nat_lt now e.timer.deadline)) [ inl h ↦ rw h (put-bare e es) | inr h ↦ rw h refl ]

filter-bare : (test : Timer → Bool) (es : List Entry) → map bare_entry (filter (λ e. test e.timer) es)
    ≡ filter (λ e. test e.timer) (map bare_entry es)
filter-bare test [] = refl
filter-bare test (x ∷ xs) = elim (either (test x.timer)) [
  | inl h ↦ rw h (ap (λ r. bare_entry x ∷ r) (filter-bare test xs))
  | inr h ↦ rw h (filter-bare test xs)
]

without_found-bare : (found : Option Timer) (es : List Entry) → map bare_entry (without_found found es)
    ≡ without_found found (map bare_entry es)
without_found-bare None es = refl
without_found-bare (Some t) es = filter-bare (λ x. not (has_serial t.serial x)) es

-- Verdicts do not depend on places.

not_taken-bare : (s : FacilityState) (client number : ℕ) → not_taken (bare_state s) client number ≡ not_taken s client number
unfolding not_taken
not_taken-bare s client number = refl

interval_refusal-bare : (s : FacilityState) (interval : ℕ) → interval_refusal (bare_state s) interval ≡ interval_refusal s interval
unfolding interval_refusal
interval_refusal-bare s interval = refl

room_refusal-bare : (s : FacilityState) → room_refusal (bare_state s) ≡ room_refusal s
unfolding room_refusal
room_refusal-bare s = rw (length-bare s.pending) refl

tick_refusal-bare : (s : FacilityState) → tick_refusal (bare_state s) ≡ tick_refusal s
unfolding tick_refusal
tick_refusal-bare s = refl

named-bare : (s : FacilityState) (client serial : ℕ)
    → timer_named (bare_state s) client (BySerial serial) ≡ timer_named s client (BySerial serial)
named-bare s client serial = ap (of_client client) (first_timer-bare (has_serial serial) s.pending)

until-bare : (s : FacilityState) (deadline : Deadline) → tested_interval (bare_state s) deadline ≡ tested_interval s deadline
until-bare s (After interval) = refl
until-bare s (At tick) = refl

refusal-bare : (s : FacilityState) (client number : ℕ) (request : ModelRequest) → NamesBySerial (Asked client number request)
    → refusal (bare_state s) client request ≡ refusal s client request
refusal-bare s client number (Start deadline action) n =
    rw (until-bare s deadline, interval_refusal-bare s (tested_interval s deadline), room_refusal-bare s) refl
refusal-bare s client number (Stop (ByHandle handle)) n = absurd n
refusal-bare s client number (Stop (BySerial serial)) n = rw (named-bare s client serial) refl
refusal-bare s client number (Restart (ByHandle handle) deadline action) n = absurd n
refusal-bare s client number (Restart (BySerial serial) deadline action) n =
    rw (named-bare s client serial, until-bare s deadline, interval_refusal-bare s (tested_interval s deadline)) refl

stopped-bare : (s : FacilityState) (client number : ℕ) (request : ModelRequest) → NamesBySerial (Asked client number request)
    → timer_stopped (bare_state s) client request ≡ timer_stopped s client request
stopped-bare s client number (Start deadline action) n = refl
stopped-bare s client number (Stop (ByHandle handle)) n = absurd n
stopped-bare s client number (Stop (BySerial serial)) n = named-bare s client serial
stopped-bare s client number (Restart (ByHandle handle) deadline action) n = absurd n
stopped-bare s client number (Restart (BySerial serial) deadline action) n = named-bare s client serial

started-bare : (s : FacilityState) (client number : ℕ) (request : ModelRequest)
    → timer_started (bare_state s) client number request ≡ timer_started s client number request
started-bare s client number (Start (After interval) action) = refl
started-bare s client number (Start (At tick) action) = refl
started-bare s client number (Stop name) = refl
started-bare s client number (Restart name (After interval) action) = refl
started-bare s client number (Restart name (At tick) action) = refl

-- Nor does a step, except for the place in its answer.

-- a step over the same state without places gives the same without places
abbrev IsBareStep : StepResult → StepResult → Type 0
IsBareStep st bare_st = (bare_outs st.outs ≡ bare_st.outs) × (bare_state st.state ≡ bare_st.state)

answer_to-bare : (old new : Option Timer) (place : ℕ) → bare_answer (answer_to old new place) ≡ answer_to old new 0
answer_to-bare None None place = refl
answer_to-bare (Some old) None place = refl
answer_to-bare None (Some new) place = refl
answer_to-bare (Some old) (Some new) place = refl

without_timer-bare : (old : Option Timer) (s : FacilityState) → bare_state (without_timer old s) ≡ without_timer old (bare_state s)
without_timer-bare old s = rw (without_found-bare old s.pending) refl

with_timer-bare : (new : Option Timer) (place : ℕ) (s : FacilityState)
    → bare_state (with_timer new place s) ≡ with_timer new 0 (bare_state s)
with_timer-bare None place s = refl
with_timer-bare (Some t) place s = rw (put_later-bare s.now (record { place = place; timer = t }) s.pending) refl

notices-bare : (f : Timer → Notice) (ts : List Timer) → bare_outs (map (λ t. Outs.Notice (f t)) ts) ≡ map (λ t. Outs.Notice (f t)) ts
notices-bare f ts = map-map bare (λ t. Outs.Notice (f t)) ts

request-bare : (s : FacilityState) (client number : ℕ) (request : ModelRequest) (place : ℕ) (old new : Option Timer)
    (v : Option NotTaken) (w : Option Reason)
    → IsBareStep (step_by s (Asked client number request)
    (answered client number (answer_to old new place) (due_at_start s new) (after_request old new place s)) (verdict_on_request v w))
    (step_by (bare_state s) (Asked client number request)
    (answered client number (answer_to old new 0) (due_at_start s new) (after_request old new 0 (bare_state s))) (verdict_on_request v w))
request-bare s client number request place old new (Some reason) w = (refl, refl)
request-bare s client number request place old new None (Some reason) = (refl, refl)
request-bare s client number request place old new None None = (
  rw (answer_to-bare old new place, notices-bare (λ t. Expired t) (due_at_start s new)) refl,
  ap (with_number client number) (with_timer-bare new place (without_timer old s) ∙ ap (with_timer new 0) (without_timer-bare old s)),
)

tick-bare : (s : FacilityState) (v : Option TickFault) → IsBareStep (step_of_tick s v) (step_of_tick (bare_state s) v)
tick-bare s (Some fault) = (refl, refl)
tick-bare s None = (
  rw (timers_of-bare s.pending) (notices-bare (λ t. Expired t) (filter (is_due_at (s.now + 1)) (timers_of s.pending))),
  ap (λ es. record s { layout = NoSlots; now = s.now + 1; pending = es; has_room = false }) (filter-bare (λ t. not (is_due_at (s.now + 1) t)) s.pending),
)

step-bare : (s : FacilityState) (event : SingleEvent) (place : ℕ) → NamesBySerial event
    → IsBareStep (step s event place) (step (bare_state s) event 0)
step-bare s (Asked client number request) place n =
    rw (
      not_taken-bare s client number,
      refusal-bare s client number request n,
      stopped-bare s client number request n,
      started-bare s client number request,
    ) (request-bare s client number request place (timer_stopped s client request) (timer_started s client number request)
    (not_taken s client number) (refusal s client request))
step-bare s Tick place n = rw (tick_refusal-bare s) (tick-bare s (tick_refusal s))
step-bare s Dump place n = (
  map-map bare (λ line. Outs.Dumped line) (state_lines (saved_of s))
      ∙ ap (λ ts. map (λ line. Outs.Dumped line) (state_lines (record (saved_of s) { timers = by_serial ts }))) (sym (timers_of-bare s.pending)),
  refl,
)
step-bare s event place n = elim (either s.is_closed) [
  | inl h ↦ rw h (refl, refl)
  | inr h ↦ rw h (simp (length-bare s.pending, timers_of-bare s.pending, notices-bare (λ t. Returned t) (timers_of s.pending)), refl)
]

-- Nor does a run.

-- the events of a run
abbrev events_of : List PlacedEvent → List SingleEvent
events_of ps = map (λ p. p.event) ps

-- the same events, each at place 0
abbrev at_none : List SingleEvent → List PlacedEvent
at_none events = map (λ event. record { event = event; place = 0 }) events

run-bare : (s : FacilityState) (ps : List PlacedEvent) → AllByRecursion NamesBySerial (events_of ps)
    → IsBareStep (run s ps) (run (bare_state s) (at_none (events_of ps)))
run-bare s [] n = (refl, refl)
run-bare s (p ∷ ps) n =
    let st : StepResult = step s p.event p.place in
    let bare_st : StepResult = step (bare_state s) p.event 0 in
    let one : IsBareStep st bare_st = step-bare s p.event p.place n.0 in
    let rest : IsBareStep (run st.state ps) (run (bare_state st.state) (at_none (events_of ps))) = run-bare st.state ps n.1 in
    let rest' : IsBareStep (run st.state ps) (run bare_st.state (at_none (events_of ps))) =
    subst (λ c. IsBareStep (run st.state ps) (run c (at_none (events_of ps)))) one.1 rest in (
      rw (map-append bare st.outs (run st.state ps).outs, one.0, rest'.0) refl,
      rest'.1,
    )

-- two runs of the same events
pub runs-bare : (s t : FacilityState) (ps qs : List PlacedEvent) → bare_state s ≡ bare_state t → events_of ps ≡ events_of qs
    → AllByRecursion NamesBySerial (events_of ps) → AreSameButForPlaces (run s ps) (run t qs)
runs-bare s t ps qs e f n =
    let a : IsBareStep (run s ps) (run (bare_state s) (at_none (events_of ps))) = run-bare s ps n in
    let b : IsBareStep (run t qs) (run (bare_state s) (at_none (events_of ps))) =
    rw (e, f) (run-bare t qs (subst (AllByRecursion NamesBySerial) f n)) in
    record { outs_are = a.0 ∙ sym b.0; states_are = a.1 ∙ sym b.1 }

-- The events of a list that is played.

singles_of-bare : (s : FacilityState) (event : Event) → singles_of (bare_state s) event ≡ singles_of s event
singles_of-bare s (Events.Ticks count) = refl
singles_of-bare s (Events.TicksTo tick) = refl
singles_of-bare s event = refl

ruleset names = (recursion_from_All, All-replicate)

singles_name : (s : FacilityState) (event : Event) → AllByRecursion NamesBySerial (singles_of s event)
singles_name s (Events.Ticks count) = search names
singles_name s (Events.TicksTo tick) = search names
singles_name s event = search names

-- the single events that two places of one list make are the same, and name their timers by serial
record AreAlike (ps qs : List PlacedEvent) : Type 0 where
  same : events_of ps ≡ events_of qs
  named : AllByRecursion NamesBySerial (events_of ps)

placed-alike : (s t : FacilityState) (events : List Event) (ps qs : List PlacedEvent) → bare_state s ≡ bare_state t → ArePlaced s events ps
    → ArePlaced t events qs → AreAlike ps qs
placed-alike s t [] ps qs e a b = record {
  same = rw (a, b) refl;
  named = rw a tt;
}
placed-alike s t (event ∷ events) ps qs e a b =
    let one : List PlacedEvent = a.0 in
    let rest : List PlacedEvent = a.1 in
    let one' : List PlacedEvent = b.0 in
    let rest' : List PlacedEvent = b.1 in
    let here : events_of one ≡ events_of one' =
    a.3 ∙ sym (singles_of-bare s event) ∙ ap (λ c. singles_of c event) e ∙ singles_of-bare t event ∙ sym b.3 in
    let names : AllByRecursion NamesBySerial (events_of one) = rw a.3 (singles_name s event) in
    let later : AreAlike rest rest' = placed-alike (state_after s one) (state_after t one') events rest rest'
    (runs-bare s t one one' e here names).states_are a.4 b.4 in
    record {
      same = rw (a.2, b.2, map-append (λ p. p.event) one rest, map-append (λ p. p.event) one' rest', here, later.same) refl;
      named = rw (a.2, map-append (λ p. p.event) one rest) (All-append NamesBySerial (events_of one) (events_of rest) names later.named);
    }

-- two runs of one list of events
pub plays-bare : (s t : FacilityState) (events : List Event) (outs outs' : List Out) (after after' : FacilityState)
    → bare_state s ≡ bare_state t → IsRun s events outs after → IsRun t events outs' after'
    → (bare_outs outs ≡ bare_outs outs') × (bare_state after ≡ bare_state after')
plays-bare s t events outs outs' after after' e a b =
    let alike : AreAlike a.placed b.placed = placed-alike s t events a.placed b.placed e a.singles b.singles in
    let same : AreSameButForPlaces (run s a.placed) (run t b.placed) = runs-bare s t a.placed b.placed e alike.same alike.named in (
      ap bare_outs a.outs_are ∙ same.outs_are ∙ sym (ap bare_outs b.outs_are),
      ap bare_state a.after_is ∙ same.states_are ∙ sym (ap bare_state b.after_is),
    )
