-- Runs that go on, and the outs of a close.
use Rattle.std.proofs.Common.{◌≡◌, ℕ, Bool, true, false, List, [], ◌∷◌, ◌++◌, ◌-◌, length, refl, sym, ◌∙◌, ap, subst, append-nil, append_assoc, inl, inr}
use Rattle.std.specs.Prelude.{map, Some, None, ◌⊎◌, Result, Ok, Err, OnErr, OnOk}
use Rattle.std.proofs.lemmas.List.{length-map}
use Rattle.timer_base.specs.Pending.{timers_of, timer_of}
use Rattle.timer_facility.specs.Types.{Handle, Request, NotTaken, Event, Out, Answer, Returned}
use Rattle.timer_facility.specs.declared.request.NotTaken.TheVariants as NotTakens
use Rattle.timer_facility.specs.declared.event.Event.TheVariants as Events
use Rattle.timer_facility.specs.declared.request.Request.TheVariants as Requests
use Rattle.timer_facility.specs.Handles.{HandleList, AreRecorded}
use Rattle.timer_facility.proofs.HandlesLemmas.{IsHandleOf, named-recorded}
use Rattle.timer_facility.proofs.TimerLists.{outs-notices, length-notices}
use Rattle.timer_facility.proofs.StepLemmas.{step-not_taken, step-stop, step-restart}
use Rattle.timer_facility.proofs.OwedLemmas.{notices_take}
use Rattle.timer_facility.specs.declared.event.Out.TheVariants as Outs
use Rattle.timer_facility.specs.State.{FacilityState, IsSound, Deadline, After, At, tested_interval, ByHandle, BySerial, Start, Stop, Restart, SingleEvent, Asked, Close}
use Rattle.timer_facility.specs.Verdict.{not_taken, first_refusal, name_refusal, interval_refusal}
use Rattle.timer_facility.specs.Step.{StepResult, step, step_of_close}
use Rattle.timer_facility.specs.Run.{PlacedEvent, history, state_after, outs_of, run}
use Rattle.timer_facility.specs.Facility.{FacilityView, view_after, model_of, event_of_request, notice_outs, place_in, IsTaken, IsNotTaken, MakesTimer, WhyNotTaken}
use Rattle.timer_facility.specs.Played.{singles_of, ArePlaced, IsRun, IsPlayed, MakesStep, AddsRun}

pub state_after-append : (s : FacilityState) (xs ys : List PlacedEvent) → state_after s (xs ++ ys) ≡ state_after (state_after s xs) ys
state_after-append s [] ys = refl
state_after-append s (x ∷ xs) ys = state_after-append (step s x.event x.place).state xs ys

pub outs_of-append : (s : FacilityState) (xs ys : List PlacedEvent)
    → outs_of (history s (xs ++ ys)) ≡ outs_of (history s xs) ++ outs_of (history (state_after s xs) ys)
outs_of-append s [] ys = refl
outs_of-append s (x ∷ xs) ys =
    let st : StepResult = step s x.event x.place in
    ap (λ outs. st.outs ++ outs) (outs_of-append st.state xs ys)
    ∙ sym (append_assoc st.outs (outs_of (history st.state xs)) (outs_of (history (state_after st.state xs) ys)))

ArePlaced-append : (s : FacilityState) (es fs : List Event) (xs ys : List PlacedEvent) → ArePlaced s es xs
    → ArePlaced (state_after s xs) fs ys → ArePlaced s (es ++ fs) (xs ++ ys)
ArePlaced-append s [] fs xs ys a b = rw a (rw a at b)
ArePlaced-append s (e ∷ es) fs xs ys a b =
    let one : List PlacedEvent = a.0 in
    let rest : List PlacedEvent = a.1 in (
      one,
      rest ++ ys,
      rw a.2 (append_assoc one rest ys),
      a.3,
      ArePlaced-append (state_after s one) es fs rest ys a.4 (rw (a.2, state_after-append s one rest) at b),
    )

-- a run, and a run that goes on from its end
pub IsRun-join : (s c d : FacilityState) (es fs : List Event) (outs outs' : List Out) → IsRun s es outs c → IsRun c fs outs' d
    → IsRun s (es ++ fs) (outs ++ outs') d
IsRun-join s c d es fs outs outs' a b =
    let xs : List PlacedEvent = a.placed in
    let ys : List PlacedEvent = b.placed in
    let next : FacilityState = state_after s xs in
    let here : c ≡ next = a.after_is in
    record {
      placed = xs ++ ys;
      singles = ArePlaced-append s es fs xs ys a.singles (subst (λ d. ArePlaced d fs ys) here b.singles);
      outs_are = rw (a.outs_are, b.outs_are, here, outs_of-append s xs ys) refl;
      after_is = rw (b.after_is, here, state_after-append s xs ys) refl;
    }

-- one more event
pub IsRun-more : (s : FacilityState) (es : List Event) (e : Event) (outs outs' : List Out) (c c' : FacilityState) → IsRun s es outs c
    → AddsRun c e outs outs' c' → IsRun s (es ++ e ∷ []) outs' c'
IsRun-more s es e outs outs' c c' a b =
    subst (λ os. IsRun s (es ++ e ∷ []) os c') (sym b.appended) (IsRun-join s c c' es (e ∷ []) outs b.more a b.runs)

pub IsRun-none : (s : FacilityState) → IsRun s [] [] s
IsRun-none s = record { placed = []; singles = refl; outs_are = refl; after_is = refl }

-- an event that stands for one single event, which has the step that was made
pub AddsRun-step : {s : FacilityState} (event : Event) {made : SingleEvent} (single : SingleEvent) {before outs : List Out}
    {after : FacilityState} → singles_of s event ≡ single ∷ [] → ((place : ℕ) → step s made place ≡ step s single place)
    → MakesStep s made before outs after → AddsRun s event before outs after
AddsRun-step {s} event single {before} h same m =
    let p : PlacedEvent = record { event = single; place = m.place } in record {
      more = (step s single m.place).outs;
      appended = m.appended ∙ ap (λ (st : StepResult). before ++ st.outs) (same m.place);
      runs = record {
        placed = p ∷ [];
        singles = (p ∷ [], [], refl, sym h, refl);
        outs_are = sym (append-nil (step s single m.place).outs);
        after_is = m.left ∙ ap (λ (st : StepResult). st.state) (same m.place);
      };
    }

-- a start that is played
pub AddsRun-start : {s : FacilityState} (client number interval action : ℕ) {before outs : List Out} {after : FacilityState}
    → MakesStep s (event_of_request client number (Requests.Start interval action)) before outs after
    → AddsRun s (Events.Start client number interval action) before outs after
AddsRun-start client number interval action m = AddsRun-step (Events.Start client number interval action)
    (Asked client number (Start (After interval) action)) refl (λ place. refl) m

-- and one for a tick
pub AddsRun-start_at : {s : FacilityState} (client number deadline action : ℕ) {before outs : List Out} {after : FacilityState}
    → MakesStep s (event_of_request client number (Requests.StartAt deadline action)) before outs after
    → AddsRun s (Events.StartAt client number deadline action) before outs after
AddsRun-start_at client number deadline action m = AddsRun-step (Events.StartAt client number deadline action)
    (Asked client number (Start (At deadline) action)) refl (λ place. refl) m

-- a stop, with the recorded handle of its serial
pub AddsRun-stop : {s : FacilityState} (client number : ℕ) {serial : ℕ} {before outs : List Out} {after : FacilityState}
    {handles : HandleList} {handle : Handle} → AreRecorded handles s → IsHandleOf handles serial handle
    → MakesStep s (event_of_request client number (Requests.Stop handle)) before outs after
    → AddsRun s (Events.Stop client number serial) before outs after
AddsRun-stop {s} client number {serial} {handles = handles} {handle = handle} a h m =
    AddsRun-step (Events.Stop client number serial) (Asked client number (Stop (BySerial serial))) refl
    (λ place. step-stop s client number place (ByHandle handle) (BySerial serial) (named-recorded handles s client serial handle a h)) m

-- and a restart
pub AddsRun-restart : {s : FacilityState} (client number : ℕ) {serial : ℕ} (interval action : ℕ) {before outs : List Out}
    {after : FacilityState} {handles : HandleList} {handle : Handle} → AreRecorded handles s → IsHandleOf handles serial handle
    → MakesStep s (event_of_request client number (Requests.Restart handle interval action)) before outs after
    → AddsRun s (Events.Restart client number serial interval action) before outs after
AddsRun-restart {s} client number {serial} interval action {handles = handles} {handle = handle} a h m =
    AddsRun-step (Events.Restart client number serial interval action)
    (Asked client number (Restart (BySerial serial) (After interval) action)) refl
    (λ place. step-restart s client number place (ByHandle handle) (BySerial serial) (After interval) action
    (named-recorded handles s client serial handle a h)) m

-- and a restart for a tick
pub AddsRun-restart_at : {s : FacilityState} (client number : ℕ) {serial : ℕ} (deadline action : ℕ) {before outs : List Out}
    {after : FacilityState} {handles : HandleList} {handle : Handle} → AreRecorded handles s → IsHandleOf handles serial handle
    → MakesStep s (event_of_request client number (Requests.RestartAt handle deadline action)) before outs after
    → AddsRun s (Events.RestartAt client number serial deadline action) before outs after
AddsRun-restart_at {s} client number {serial} deadline action {handles = handles} {handle = handle} a h m =
    AddsRun-step (Events.RestartAt client number serial deadline action)
    (Asked client number (Restart (BySerial serial) (At deadline) action)) refl
    (λ place. step-restart s client number place (ByHandle handle) (BySerial serial) (At deadline) action
    (named-recorded handles s client serial handle a h)) m

-- a restart that makes a timer, by the recorded handle of its serial, makes one by the serial
pub makes-by_serial : {s : FacilityState} (client number : ℕ) {serial : ℕ} (deadline : Deadline) (action : ℕ) {handles : HandleList}
    {handle : Handle} → AreRecorded handles s → IsHandleOf handles serial handle
    → MakesTimer s client number (Restart (ByHandle handle) deadline action)
    → MakesTimer s client number (Restart (BySerial serial) deadline action)
makes-by_serial {s} client number {serial} deadline action {handles} {handle} a h makes = (
  makes.0,
  subst (λ o. first_refusal (name_refusal o) (interval_refusal s (tested_interval s deadline)) ≡ None)
      (named-recorded handles s client serial handle a h) makes.1,
  makes.2,
)

-- ticks up to a tick are those that are left until it
pub IsRun-to : {s : FacilityState} (tick : ℕ) {outs : List Out} {after : FacilityState}
    → IsRun s (Events.Ticks (tick - s.now) ∷ []) outs after → IsRun s (Events.TicksTo tick ∷ []) outs after
IsRun-to tick h = record { placed = h.placed; singles = h.singles; outs_are = h.outs_are; after_is = h.after_is }

-- what follows from what holds of an error
pub unless_done : {T E P Q : Type 0} (result : Result T E) → (P → Q) → OnErr result P → OnErr result Q
unless_done (Ok x) f h = h
unless_done (Err e) f h = f h

-- the same where that is one of two reasons
pub unless_either : {T E P Q : Type 0} (R : Type 0) (result : Result T E) → (P → Q) → OnErr result (R ⊎ P) → OnErr result (R ⊎ Q)
unless_either R (Ok x) f h = h
unless_either R (Err e) f (inl r) = inl r
unless_either R (Err e) f (inr p) = inr (f p)

-- and what follows from what holds of a value
pub done_with : {T E P Q : Type 0} (result : Result T E) → (P → Q) → OnOk result P → OnOk result Q
done_with (Ok x) f h = f h
done_with (Err e) f h = h

-- a request that is not taken for another reason than memory is not taken for the reason of the verdict
pub reason-verdict : (s : FacilityState) (client number : ℕ) (request : Request) (reason : NotTaken)
    → WhyNotTaken s client number request reason → (reason ≡ NotTakens.OutOfMemory → ⊥)
    → not_taken s client number ≡ Some reason
reason-verdict s client number request reason (inl h) n = h
reason-verdict s client number request reason (inr h) n = absurd (n h.0)

-- the step of a request that is taken, after which nothing waits
pub MakesStep-taken : {s t : FacilityState} {client number : ℕ} {request : Request} {answer : Answer} {new : FacilityView} → s ≡ t
    → IsTaken s client number request answer new → new.waiting ≡ []
    → MakesStep t (event_of_request client number request) [] (Outs.Answered client number answer ∷ []) new.state
MakesStep-taken {s} {t} {client} {number} {request} {answer} {new} same h quiet =
    subst (λ u. MakesStep u (event_of_request client number request) [] (Outs.Answered client number answer ∷ []) new.state) same
    (record {
      place = place_in answer;
      appended = sym (h.answered ∙ ap (λ ns. Outs.Answered client number answer ∷ notice_outs ns) quiet);
      left = ap (λ (v : FacilityView). v.state) h.left;
    })

-- and of one that is not taken, for another reason than memory
pub MakesStep-not_taken : {old new : FacilityView} {t : FacilityState} {client number : ℕ} {request : Request} {reason : NotTaken}
    (before : List Out) → old.state ≡ t → IsNotTaken old client number request reason new → (reason ≡ NotTakens.OutOfMemory → ⊥)
    → MakesStep t (event_of_request client number request) before (before ++ Outs.NotTaken client number reason ∷ []) new.state
MakesStep-not_taken {old} {new} {t} {client} {number} {request} {reason} before same h other =
    let s = old.state in
    let refused = step-not_taken s client number (model_of request) 0 reason (reason-verdict s client number request reason h.why other) in
    subst (λ u. MakesStep u (event_of_request client number request) before (before ++ Outs.NotTaken client number reason ∷ []) new.state)
    same (record {
      place = 0;
      appended = ap (λ (st : StepResult). before ++ st.outs) (sym refused);
      left = ap (λ (v : FacilityView). v.state) h.left ∙ ap (λ (st : StepResult). st.state) (sym refused);
    })

-- the notices of every run are what is owed
pub IsPlayed-run : (s : FacilityState) (es : List Event) (outs : List Out) (c : FacilityState) → IsSound s → IsRun s es outs c
    → IsPlayed s es outs c
IsPlayed-run s es outs c i a = record { runs = a; notices_owed = λ k. notices_take s a.placed k i }

-- The outs of a close.

-- after an accepted close each timer that was pending waits
pub length-closed : (s : FacilityState) (v : FacilityView) → v ≡ view_after (step s Close 0) → s.is_closed ≡ false
    → length v.waiting ≡ length s.pending
length-closed s v e h = rw (e, h) (length-notices (λ t. Returned t) (timers_of s.pending) ∙ length-map s.pending timer_of)

-- its outs are its own, and then their notices
pub outs-closed : (s : FacilityState) (v : FacilityView) → v ≡ view_after (step s Close 0) → s.is_closed ≡ false
    → Outs.Closed (length s.pending) ∷ map (λ notice. Outs.Notice notice) v.waiting ≡ (step s Close 0).outs
outs-closed s v e h = rw (e, h) (ap (λ outs. Outs.Closed (length s.pending) ∷ outs) (outs-notices (λ t. Returned t) (timers_of s.pending)))

-- a second close has one out, and changes nothing
pub outs-close_refused : (s : FacilityState) → s.is_closed ≡ true → (step s Close 0).outs ≡ Outs.CloseRefused ∷ []
outs-close_refused s h = ap (λ b. (step_of_close s b).outs) h

pub state-close_refused : (s : FacilityState) → s.is_closed ≡ true → (step s Close 0).state ≡ s
state-close_refused s h = ap (λ b. (step_of_close s b).state) h

-- An event that has one out, and changes nothing.

-- an event at which no timer is started
abbrev pub at_no_place : SingleEvent → PlacedEvent
at_no_place single = record { event = single; place = 0 }

at_no_place-events : (singles : List SingleEvent) → map (λ (p : PlacedEvent). p.event) (map at_no_place singles) ≡ singles
at_no_place-events [] = refl
at_no_place-events (single ∷ singles) = ap (λ more. single ∷ more) (at_no_place-events singles)

-- what the single events of an event lead to, if they start no timer
abbrev pub plain_run : FacilityState → Event → StepResult
plain_run s event = run s (map at_no_place (singles_of s event))

adds_plain : (s : FacilityState) (event : Event) (outs : List Out) → plain_run s event ≡ record { outs = outs; state = s }
    → AddsRun s event [] outs s
adds_plain s event outs is =
    let placed : List PlacedEvent = map at_no_place (singles_of s event) in record {
      more = outs;
      appended = refl;
      runs = record {
        placed = placed;
        singles = (placed, [], sym (append-nil placed), at_no_place-events (singles_of s event), refl);
        outs_are = ap (λ (st : StepResult). st.outs) (sym is);
        after_is = ap (λ (st : StepResult). st.state) (sym is);
      };
    }

-- a step computes if it is known whether the facility is closed
pub adds_unchanged : (s t : FacilityState) (closed : Bool) (event : Event) (out : Out) → s ≡ t → s.is_closed ≡ closed
    → plain_run (record s { is_closed = closed }) event ≡ record { outs = out ∷ []; state = record s { is_closed = closed } }
    → AddsRun t event [] (out ∷ []) t
adds_unchanged s t closed event out same is plain =
    let here : record s { is_closed = closed } ≡ s = ap (λ b. record s { is_closed = b }) (sym is) in
    subst (λ u. AddsRun u event [] (out ∷ []) u) (here ∙ same) (adds_plain _ event (out ∷ []) plain)
