-- Steps by their verdict, and what an accepted request stops and starts.
use Rattle.std.proofs.Common.{◌≡◌, false, ◌<◌, ◌≤◌, ℕ, List, [], ◌∷◌, length, refl, sym, ◌∙◌, ap, subst, arith, true, inl, inr}
use Rattle.std.specs.Prelude.{map, Option, Some, None}
use Rattle.std.proofs.lemmas.Bool.{le-ltb, lt-ltb}
use Rattle.std.proofs.lemmas.Simd.{map-map}
use Rattle.timer_base.specs.Order.{IsMember}
use Rattle.timer_facility.specs.Types.{Timer, Answer, NotTaken, Reason, Request, Refused, Expired, TickFault}
use Rattle.timer_base.specs.Pending.{Entry, timers_of, put, first_timer}
use Rattle.timer_facility.specs.declared.request.Request.TheVariants as Requests
use Rattle.timer_facility.specs.declared.event.Out.TheVariants as Outs
use Rattle.timer_facility.specs.State.{FacilityState, Deadline, ticks_until, tested_interval, Name, ByHandle, ModelRequest, Start, Stop, Restart, action_of, SingleEvent, Asked, Tick, Dump}
use Rattle.timer_facility.specs.Verdict.{not_taken, has_name, timer_named, first_refusal, interval_refusal, start_refusal, restart_refusal, name_refusal, refusal, Refusal, RequestNotTaken, verdict_on_request, verdict, tick_refusal, verdict_on_tick, refusals_of, closed_refusal}
use Rattle.timer_facility.specs.Step.{StepResult, with_number, answered, refused, new_timer, timer_stopped, timer_started, due_at_start, put_later, after_request, accepted, step_by, step, refusals_in, expiries, answer_to, expired_next, step_of_tick}
use Rattle.timer_facility.specs.Facility.{FacilityView, view_after, model_of, is_for_a_tick, event_of_request, notice_outs, place_in, IsAnswered, HasAnswered, IsTaken}
use Rattle.timer_facility.proofs.TimerLists.{notices_in-map, first_timer-among, of_client_some, notices_in-append, refusals_in-map, notices_in-dumped, refusals_in-dumped}
use Rattle.timer_facility.proofs.VerdictLemmas.{neither, startable, timely}
use Rattle.timer_base.proofs.Basics.{either}
use Rattle.timer_facility.specs.Saved.{saved_of, state_lines}
use Rattle.timer_facility.specs.Run.{PlacedEvent, history, state_after, outs_of, notices, notices_in}

-- By the verdict.

-- a refused event
pub step_refused : (s : FacilityState) (event : SingleEvent) (place : ℕ) (r : Refusal) → verdict s event ≡ Some r
    → step s event place ≡ refused s event r
step_refused s event place r h = ap (step_by s event (accepted s event place)) h

-- an accepted one
pub step-accepted : (s : FacilityState) (event : SingleEvent) (place : ℕ) → verdict s event ≡ None
    → step s event place ≡ accepted s event place
step-accepted s event place h = ap (step_by s event (accepted s event place)) h

-- a request that is not taken changes nothing
pub step-not_taken : (s : FacilityState) (client number : ℕ) (request : ModelRequest) (place : ℕ) (reason : NotTaken)
    → not_taken s client number ≡ Some reason
    → step s (Asked client number request) place ≡ refused s (Asked client number request) (RequestNotTaken reason)
step-not_taken s client number request place reason h =
    step_refused s (Asked client number request) place (RequestNotTaken reason)
    (ap (λ v. verdict_on_request v (refusal s client request)) h)

-- what holds of a request's step, from what holds when it is not taken, refused or accepted
pub by_verdict : (P : StepResult → Type 0) (s : FacilityState) (client number : ℕ) (request : ModelRequest) (place : ℕ)
    → ((reason : NotTaken) → P (refused s (Asked client number request) (RequestNotTaken reason)))
    → ((reason : Reason) → not_taken s client number ≡ None → P (answered client number (Refused reason) [] s))
    → (not_taken s client number ≡ None → refusal s client request ≡ None → P (accepted s (Asked client number request) place))
    → P (step s (Asked client number request) place)
by_verdict P s client number request place f g h = cases (not_taken s client number) (refusal s client request) g h
  where
    cases : (v : Option NotTaken) (w : Option Reason)
        → ((reason : Reason) → v ≡ None → P (answered client number (Refused reason) [] s))
        → (v ≡ None → w ≡ None → P (accepted s (Asked client number request) place))
        → P (step_by s (Asked client number request) (accepted s (Asked client number request) place) (verdict_on_request v w))
    cases (Some reason) w g h = f reason
    cases None (Some reason) g h = g reason refl
    cases None None g h = h refl refl

-- two requests that are refused alike, and stop and start the same, have one step
pub step-alike : (s : FacilityState) (client number : ℕ) (a b : ModelRequest) (place : ℕ)
    → refusal s client a ≡ refusal s client b → timer_stopped s client a ≡ timer_stopped s client b
    → timer_started s client number a ≡ timer_started s client number b
    → step s (Asked client number a) place ≡ step s (Asked client number b) place
step-alike s client number a b place e f g = rw (e, f, g) (alike (not_taken s client number) (refusal s client b))
  where
    alike : (v : Option NotTaken) (w : Option Reason)
        → step_by s (Asked client number a) (accepted s (Asked client number b) place) (verdict_on_request v w)
        ≡ step_by s (Asked client number b) (accepted s (Asked client number b) place) (verdict_on_request v w)
    alike (Some reason) w = refl
    alike None (Some reason) = refl
    alike None None = refl

-- so it is one whether a timer is named by its handle or by its serial
pub step-stop : (s : FacilityState) (client number place : ℕ) (a b : Name) → timer_named s client a ≡ timer_named s client b
    → step s (Asked client number (Stop a)) place ≡ step s (Asked client number (Stop b)) place
step-stop s client number place a b e = step-alike s client number (Stop a) (Stop b) place (ap name_refusal e) e refl

pub step-restart : (s : FacilityState) (client number place : ℕ) (a b : Name) (deadline : Deadline) (action : ℕ)
    → timer_named s client a ≡ timer_named s client b
    → step s (Asked client number (Restart a deadline action)) place ≡ step s (Asked client number (Restart b deadline action)) place
step-restart s client number place a b deadline action e =
    step-alike s client number (Restart a deadline action) (Restart b deadline action) place
    (ap (λ o. first_refusal (name_refusal o) (interval_refusal s (tested_interval s deadline))) e) e refl

-- What it stops and starts.

named_among : (s : FacilityState) (client : ℕ) (name : Name) (t : Timer) → timer_named s client name ≡ Some t
    → IsMember t (timers_of s.pending)
named_among s client name t h = first_timer-among (has_name name) t s.pending
    (of_client_some client (first_timer (has_name name) s.pending) t h).0

-- a timer that is stopped is pending
pub stopped-among : (s : FacilityState) (client : ℕ) (request : ModelRequest) (t : Timer)
    → timer_stopped s client request ≡ Some t → IsMember t (timers_of s.pending)
stopped-among s client (Start deadline action) t h = absurd (cc)
stopped-among s client (Stop name) t h = named_among s client name t h
stopped-among s client (Restart name deadline action) t h = named_among s client name t h

-- a timer that is started now for a client and under a number
pub record IsNew (s : FacilityState) (client number action : ℕ) (t : Timer) : Type 0 where
  pub serial_is : t.serial ≡ s.next_serial
  pub client_is : t.client ≡ client
  pub number_is : t.number ≡ number
  pub action_is : t.action ≡ action

new_is : (s : FacilityState) (client number interval action : ℕ) (t : Timer)
    → Some (new_timer s client number interval action) ≡ Some t → IsNew s client number action t
new_is s client number interval action t h =
    let e : new_timer s client number interval action ≡ t = cc in
    subst (IsNew s client number action) e (record { serial_is = refl; client_is = refl; number_is = refl; action_is = refl })

pub started-new : (s : FacilityState) (client number : ℕ) (request : ModelRequest) (t : Timer)
    → timer_started s client number request ≡ Some t → IsNew s client number (action_of request) t
started-new s client number (Start deadline action) t h = new_is s client number (ticks_until s deadline) action t h
started-new s client number (Stop name) t h = absurd (cc)
started-new s client number (Restart name deadline action) t h = new_is s client number (ticks_until s deadline) action t h

not_past_is : (s : FacilityState) (client number interval action : ℕ) (t : Timer)
    → Some (new_timer s client number interval action) ≡ Some t → s.now ≤ t.deadline
not_past_is s client number interval action t h =
    let e : new_timer s client number interval action ≡ t = cc in
    subst (λ (u : Timer). s.now ≤ u.deadline) e (omega arith)

-- and its deadline is now or later
pub started-not_past : (s : FacilityState) (client number : ℕ) (request : ModelRequest) (t : Timer)
    → timer_started s client number request ≡ Some t → s.now ≤ t.deadline
started-not_past s client number (Start deadline action) t h = not_past_is s client number (ticks_until s deadline) action t h
started-not_past s client number (Stop name) t h = absurd (cc)
started-not_past s client number (Restart name deadline action) t h = not_past_is s client number (ticks_until s deadline) action t h

-- it is pending if its deadline is later
pub put_when_later : (place : ℕ) (t : Timer) (now : ℕ) (es : List Entry) → now < t.deadline
    → put_later now (record { place = place; timer = t }) es ≡ put (record { place = place; timer = t }) es
put_when_later place t now es h = rw (lt-ltb now t.deadline h) refl

pub put_when_now : (place : ℕ) (t : Timer) (now : ℕ) (es : List Entry) → t.deadline ≡ now
    → put_later now (record { place = place; timer = t }) es ≡ es
put_when_now place t now es h = rw (le-ltb now t.deadline (omega (arith, h))) refl

-- and due at once otherwise
pub due_when_later : (s : FacilityState) (t : Timer) → s.now < t.deadline → due_at_start s (Some t) ≡ []
due_when_later s t h = rw (lt-ltb s.now t.deadline h) refl

pub due_when_now : (s : FacilityState) (t : Timer) → t.deadline ≤ s.now → due_at_start s (Some t) ≡ t ∷ []
due_when_now s t h = rw (le-ltb s.now t.deadline h) refl

-- an accepted request stops a timer or starts one
pub accepted-some : (s : FacilityState) (client number : ℕ) (request : ModelRequest) → refusal s client request ≡ None
    → timer_stopped s client request ≡ None → timer_started s client number request ≡ None → ⊥
accepted-some s client number (Start deadline action) r old new = absurd (cc)
accepted-some s client number (Stop name) r old new = absurd (let e : Some _ ≡ None = ap name_refusal (sym old) ∙ r in cc)
accepted-some s client number (Restart name deadline action) r old new = absurd (cc)

-- From a request that was answered.

-- the timers that are due with a request, by why it is refused
abbrev pub due_by : FacilityState → Option Reason → Option Timer → List Timer
due_by s (Some reason) new = []
due_by s None new = due_at_start s new

-- these timers wait, and there are as many clients
pub record LeavesClients (s : FacilityState) (due : List Timer) (v : FacilityView) : Type 0 where
  pub waiting : v.waiting ≡ map (λ t. Expired t) due
  pub as_many : length v.state.numbers ≡ length s.numbers

pub leaves : (s : FacilityState) (old new : Option Timer) (answer : Answer) (v : FacilityView) (w : Option Reason)
    → IsAnswered w old new s answer v → LeavesClients s (due_by s w new) v
leaves s old new answer v (Some reason) a = subst (LeavesClients s []) (sym a.1) (record { waiting = refl; as_many = refl })
leaves s old None answer v None a = subst (LeavesClients s []) (sym a.1) (record { waiting = refl; as_many = refl })
leaves s old (Some new) answer v None a =
    subst (LeavesClients s (due_at_start s (Some new))) (sym a.1) (record { waiting = refl; as_many = refl })

-- the timers that are due with a request
abbrev pub due_with : FacilityState → ℕ → ℕ → ModelRequest → List Timer
due_with s client number request = due_by s (refusal s client request) (timer_started s client number request)

pub answered-leaves : (s : FacilityState) (client number : ℕ) (request : ModelRequest) (answer : Answer) (v : FacilityView)
    → HasAnswered s client number request answer v → LeavesClients s (due_with s client number request) v
answered-leaves s client number request answer v a =
    leaves s (timer_stopped s client request) (timer_started s client number request) answer v (refusal s client request) a

-- nothing is due with a timer that has some ticks left, if it is accepted
answered-quiet : (s : FacilityState) (client number left action : ℕ) (old : Option Timer) (answer : Answer) (v : FacilityView)
    (w : Option Reason) → (w ≡ None → 0 < left) → IsAnswered w old (Some (new_timer s client number left action)) s answer v
    → v.waiting ≡ []
answered-quiet s client number left action old answer v (Some reason) h a = ap (λ (u : FacilityView). u.waiting) a.1
answered-quiet s client number left action old answer v None h a =
    let some : 0 < left = h refl in
    ap (λ (u : FacilityView). u.waiting) a.1 ∙ ap (map (λ t. Expired t)) (due_when_later s (new_timer s client number left action) (omega arith))

-- so nothing waits after a request that is not for a tick
pub answered-waiting : (s : FacilityState) (client number : ℕ) (request : Request) (answer : Answer) (v : FacilityView)
    → HasAnswered s client number (model_of request) answer v → is_for_a_tick request ≡ false → v.waiting ≡ []
answered-waiting s client number (Requests.Start interval action) answer v a h =
    answered-quiet s client number interval action None answer v (start_refusal s interval)
    (λ n. (timely s interval (startable s interval n).unrefused).positive) a
answered-waiting s client number (Requests.StartAt deadline action) answer v a h = absurd (cc)
answered-waiting s client number (Requests.Stop handle) answer v a h =
    stop_waiting (name_refusal (timer_named s client (ByHandle handle))) (timer_named s client (ByHandle handle)) a
  where
    stop_waiting : (w : Option Reason) (old : Option Timer) → IsAnswered w old None s answer v → v.waiting ≡ []
    stop_waiting (Some reason) old a = ap (λ (u : FacilityView). u.waiting) a.1
    stop_waiting None old a = ap (λ (u : FacilityView). u.waiting) a.1
answered-waiting s client number (Requests.Restart handle interval action) answer v a h =
    let named : Option Timer = timer_named s client (ByHandle handle) in
    answered-quiet s client number interval action named answer v (restart_refusal s client (ByHandle handle) interval)
    (λ n. (timely s interval (neither (name_refusal named) (interval_refusal s interval) n).1).positive) a
answered-waiting s client number (Requests.RestartAt handle deadline action) answer v a h = absurd (cc)

-- the answer, and the state once the number is used up
step_answered : (s : FacilityState) (client number : ℕ) (request : ModelRequest) (answer : Answer) (v : FacilityView)
    → (w : Option Reason) → IsAnswered w (timer_stopped s client request) (timer_started s client number request) s answer v
    → step_by s (Asked client number request) (accepted s (Asked client number request) (place_in answer)) (verdict_on_request None w)
    ≡ answered client number answer (due_by s w (timer_started s client number request)) v.state
step_answered s client number request answer v (Some reason) a = rw (a.0, a.1) refl
step_answered s client number request answer v None a =
    let new : Option Timer = timer_started s client number request in
    let after : FacilityState = after_request (timer_stopped s client request) new (place_in answer) s in
    ap (λ (x : Answer). answered client number x (due_at_start s new) after) (sym a.0)
    ∙ ap (λ (u : FacilityView). answered client number answer (due_at_start s new) u.state) (sym a.1)

-- the request is taken once its number is used up
pub taken-answered : (s : FacilityState) (client number : ℕ) (request : Request) (answer : Answer) (v new : FacilityView)
    → not_taken s client number ≡ None → HasAnswered s client number (model_of request) answer v
    → new ≡ record v { state = with_number client number v.state } → IsTaken s client number request answer new
taken-answered s client number request answer v new n a e =
    let due : List Timer = due_with s client number (model_of request) in
    let waits : v.waiting ≡ map (λ t. Expired t) due = (answered-leaves s client number (model_of request) answer v a).waiting in
    let is : step s (event_of_request client number request) (place_in answer) ≡ answered client number answer due v.state =
    rw n (step_answered s client number (model_of request) answer v (refusal s client (model_of request)) a) in
    let wait_now : new.waiting ≡ map (λ t. Expired t) due = ap (λ (u : FacilityView). u.waiting) e ∙ waits in
    record {
      answered = ap (λ (st : StepResult). st.outs) is ∙ ap (λ os. Outs.Answered client number answer ∷ os)
          (sym (ap notice_outs wait_now ∙ map-map (λ notice. Outs.Notice notice) (λ t. Expired t) due));
      left = e ∙ ap (λ ns. let u : FacilityView = record { state = with_number client number v.state; waiting = ns } in u)
          (waits ∙ sym (notices_in-map (λ t. Expired t) due)) ∙ sym (ap view_after is);
    }

-- The verdict on an event, read from its outs; and events after the close, which hand nothing out and change nothing.

-- a closed facility refuses each event as such, but for a look at the state
pub verdict_closed : (s : FacilityState) (event : SingleEvent) → s.is_closed ≡ true → verdict s event ≡ closed_refusal event
unfolding not_taken tick_refusal
verdict_closed s Tick h = rw h refl
verdict_closed s Dump h = refl
verdict_closed s event h = rw h refl

-- From the outs.

told_answer : (client number place : ℕ) (old new : Option Timer) (due : List Timer) → (old ≡ None → new ≡ None → ⊥)
    → refusals_in (Outs.Answered client number (answer_to old new place) ∷ expiries due) ≡ []
told_answer client number place None None due some = absurd (some refl refl)
told_answer client number place (Some old) None due some = refusals_in-map (λ t. Expired t) due
told_answer client number place None (Some new) due some = refusals_in-map (λ t. Expired t) due
told_answer client number place (Some old) (Some new) due some = refusals_in-map (λ t. Expired t) due

told_request : (s : FacilityState) (client number : ℕ) (request : ModelRequest) (place : ℕ) (v : Option NotTaken) (w : Option Reason)
    → (w ≡ None → timer_stopped s client request ≡ None → timer_started s client number request ≡ None → ⊥)
    → refusals_in (step_by s (Asked client number request) (accepted s (Asked client number request) place) (verdict_on_request v w)).outs
    ≡ refusals_of (verdict_on_request v w)
told_request s client number request place (Some reason) w some = refl
told_request s client number request place None (Some reason) some = refl
told_request s client number request place None None some =
    told_answer client number place (timer_stopped s client request) (timer_started s client number request)
    (due_at_start s (timer_started s client number request)) (some refl)

told_tick : (s : FacilityState) (v : Option TickFault) → refusals_in (step_of_tick s v).outs ≡ refusals_of (verdict_on_tick v)
told_tick s (Some fault) = refl
told_tick s None = refusals_in-map (λ t. Expired t) (expired_next s)

-- the refusals among the outs of an event are those of the verdict on it
pub outs_verdict : (s : FacilityState) (event : SingleEvent) (place : ℕ)
    → refusals_in (step s event place).outs ≡ refusals_of (verdict s event)
outs_verdict s (Asked client number request) place =
    told_request s client number request place (not_taken s client number) (refusal s client request)
    (accepted-some s client number request)
outs_verdict s Tick place = told_tick s (tick_refusal s)
outs_verdict s Dump place = refusals_in-dumped (state_lines (saved_of s))
outs_verdict s event place = elim (either s.is_closed) [
  | inl h ↦ rw h refl
  | inr h ↦ rw h (search refusals_in-map)
]

-- After a close.

-- a step that hands nothing out and changes nothing
abbrev DoesNothing : FacilityState → StepResult → Type 0
DoesNothing s st = (notices_in st.outs ≡ []) × (st.state ≡ s)

step-closed : (s : FacilityState) (event : SingleEvent) (place : ℕ) → s.is_closed ≡ true → DoesNothing s (step s event place)
step-closed s event place h = subst (λ o. DoesNothing s (step_by s event (accepted s event place) o)) (sym (verdict_closed s event h))
    (idle event)
  where
    idle : (event : SingleEvent) → DoesNothing s (step_by s event (accepted s event place) (closed_refusal event))
    idle Tick = (refl, refl)
    idle Dump = (notices_in-dumped (state_lines (saved_of s)), refl)
    idle event = (refl, refl)

pub state_closed : (s : FacilityState) (ps : List PlacedEvent) → s.is_closed ≡ true → state_after s ps ≡ s
state_closed s [] h = refl
state_closed s (p ∷ ps) h = rw (step-closed s p.event p.place h).1 (state_closed s ps h)

pub none_after_close : (s : FacilityState) (ps : List PlacedEvent) → s.is_closed ≡ true → notices (history s ps) ≡ []
none_after_close s [] h = refl
none_after_close s (p ∷ ps) h =
    let st : StepResult = step s p.event p.place in
    let one : DoesNothing s st = step-closed s p.event p.place h in
    rw (notices_in-append st.outs (outs_of (history st.state ps)), one.0, one.1) (none_after_close s ps h)
