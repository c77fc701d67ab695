-- A timer that is stopped in the name of a client: the step, and the desk after it.
use Rattle.std.proofs.Common.{◌≡◌, ℕ, ◌+◌, ◌≤◌, List, [], ◌∷◌, length, get_or, refl, sym, ◌∙◌, ap, subst, inl, inr, arith}
use Rattle.std.specs.Prelude.{Option, Some, None, Ok, Err, Result, MatchResult, slice_get, slice_index, unwrap_or}
use Rattle.std.proofs.lemmas.List.{length-set}
use Rattle.std.proofs.lemmas.Option.{unwrap_or-slice_get}
use Rattle.timer_desk.specs.Types.{Timer, Handle, Answer, NotTaken}
use Rattle.timer_facility.specs.declared.request.Request.TheVariants as Requests
use Rattle.timer_facility.specs.declared.event.Out.TheVariants as Outs
use Rattle.timer_facility.specs.State.{FacilityState, number_of, pending_of, Name, ByHandle, Stop, SingleEvent, Asked}
use Rattle.timer_facility.specs.Verdict.{timer_named, verdict}
use Rattle.timer_facility.specs.Step.{StepResult, answered, answer_to, without_timer, step_by, step}
use Rattle.timer_facility.specs.Run.{notices_in}
use Rattle.timer_facility.specs.Facility.{FacilityView, with_nothing_waiting, view_after, notice_outs, place_in, IsTaken, WhyNotTaken, IsNotTaken}
use Rattle.timer_facility.proofs.HandedOverLemmas.{adds_stop}
use Rattle.timer_facility.proofs.StepLemmas.{by_verdict, step-not_taken}
use Rattle.timer_desk.specs.Inlet.{LineKind}
use Rattle.timer_desk.specs.Backlog.{BacklogState, notices_for}
use Rattle.timer_desk.specs.Desk.{DeskState, IsDesk}
use Rattle.timer_desk.specs.Settlement.{stop_step, stop_outs}
use Rattle.timer_desk.proofs.DeskLemmas.{desk_of, still}

-- The step.

-- a stop gets no place
no_place : (found : Option Timer) (place : ℕ) → answer_to found None place ≡ answer_to found None 0
no_place None place = refl
no_place (Some t) place = refl

placeless : (s : FacilityState) (client number : ℕ) (name : Name) (place : ℕ)
    → step s (Asked client number (Stop name)) place ≡ step s (Asked client number (Stop name)) 0
placeless s client number name place =
    let found : Option Timer = timer_named s client name in
    let event : SingleEvent = Asked client number (Stop name) in
    ap (λ answer. step_by s event (answered client number answer [] (without_timer found s)) (verdict s event)) (no_place found place)

-- the step is this one, and nothing waits after it
pub record IsStopStep (s : FacilityState) (client : ℕ) (handle : Handle) (result : Result Answer NotTaken)
    (new : FacilityView) : Type 0 where
  pub outs_are : (stop_step s client handle).outs ≡ stop_outs client (number_of s client) result
  pub left : new ≡ with_nothing_waiting (stop_step s client handle).state

taken_step : (s : FacilityState) (client : ℕ) (handle : Handle) (answer : Answer) (new : FacilityView)
    → IsTaken s client (number_of s client) (Requests.Stop handle) answer new → new.waiting ≡ []
    → IsStopStep s client handle (Ok answer) new
taken_step s client handle answer new t none =
    let same : step s (Asked client (number_of s client) (Stop (ByHandle handle))) (place_in answer) ≡ stop_step s client handle =
    placeless s client (number_of s client) (ByHandle handle) (place_in answer) in
    let outs : (stop_step s client handle).outs ≡ Outs.Answered client (number_of s client) answer ∷ [] =
    ap (λ (st : StepResult). st.outs) (sym same) ∙ t.answered
    ∙ ap (λ ns. Outs.Answered client (number_of s client) answer ∷ notice_outs ns) none in
    let quiet : view_after (stop_step s client handle) ≡ with_nothing_waiting (stop_step s client handle).state =
    ap (λ os. let v : FacilityView = record { state = (stop_step s client handle).state; waiting = notices_in os } in v) outs in
    record { outs_are = outs; left = t.left ∙ ap view_after same ∙ quiet }

not_taken_step : (s : FacilityState) (client : ℕ) (handle : Handle) (reason : NotTaken) (new : FacilityView)
    → WhyNotTaken s client (number_of s client) (Requests.Stop handle) reason → new ≡ with_nothing_waiting s
    → IsStopStep s client handle (Err reason) new
not_taken_step s client handle reason new (inl h) same =
    let e : stop_step s client handle ≡ record { outs = Outs.NotTaken client (number_of s client) reason ∷ []; state = s } =
    step-not_taken s client (number_of s client) (Stop (ByHandle handle)) 0 reason h in record {
      outs_are = ap (λ (st : StepResult). st.outs) e;
      left = same ∙ sym (ap (λ (st : StepResult). with_nothing_waiting st.state) e);
    }
not_taken_step s client handle reason new (inr h) same = absurd h.1.2

next_is : (numbers : List ℕ) (client : ℕ) (next : Option ℕ) → next ≡ slice_get numbers client
    → unwrap_or next 0 ≡ slice_index numbers client
next_is numbers client next e = ap (λ o. unwrap_or o 0) e ∙ unwrap_or-slice_get numbers client 0

-- what `take` ensures of the request under the client's next number
pub stop_is : (f : FacilityView) (client number : ℕ) (next : Option ℕ) (handle : Handle) (result : Result Answer NotTaken)
    (new : FacilityView) → f.waiting ≡ [] → next ≡ slice_get f.state.numbers client → number ≡ unwrap_or next 0
    → MatchResult result (λ answer. IsTaken f.state client number (Requests.Stop handle) answer new)
    (λ reason. IsNotTaken f client number (Requests.Stop handle) reason new) → new.waiting ≡ []
    → IsStopStep f.state client handle result new
stop_is f client number next handle (Ok answer) new q e m t none =
    taken_step f.state client handle answer new
    (subst (λ k. IsTaken f.state client k (Requests.Stop handle) answer new) (m ∙ next_is f.state.numbers client next e) t) none
stop_is f client number next handle (Err reason) new q e m n none =
    not_taken_step f.state client handle reason new
    (subst (λ k. WhyNotTaken f.state client k (Requests.Stop handle) reason) (m ∙ next_is f.state.numbers client next e) n.why)
    (n.left ∙ still f q)

-- The desk.

pub record HasFewer (s t : FacilityState) : Type 0 where
  pub as_many : length t.numbers ≡ length s.numbers
  pub fewer : (c : ℕ) → pending_of t c ≤ pending_of s c

stop_fewer : (s : FacilityState) (client number : ℕ) (name : Name) → HasFewer s (step s (Asked client number (Stop name)) 0).state
stop_fewer s client number name = by_verdict (λ st. HasFewer s st.state) s client number (Stop name) 0
    (λ reason. record { as_many = refl; fewer = λ c. omega arith })
    (λ reason taken. record { as_many = length-set s.numbers client (number + 1); fewer = λ c. omega arith })
    (λ taken ok. record {
      as_many = length-set s.numbers client (number + 1);
      fewer = λ c. (adds_stop s (timer_named s client name)).of_client c;
    })

module _ {I : Type 0} (kind : LineKind I) where
  pub stopped_desk : (f f' : FacilityView) (inlets : List I) (backlogs : List BacklogState) (client : ℕ) (handle : Handle)
      (result : Result Answer NotTaken) → IsDesk kind f inlets backlogs → IsStopStep f.state client handle result f'
      → IsDesk kind f' inlets backlogs
  stopped_desk f f' inlets backlogs client handle result d h =
      let less = stop_fewer f.state client (number_of f.state client) (ByHandle handle) in rw h.left (record {
        nothing_waits = refl;
        clients = d.clients ∙ sym less.as_many;
        kept = record {
          as_many = d.kept.as_many;
          room = λ c b l.
              let was : length (get_or backlogs c b).outbox + pending_of f.state c + notices_for c f.waiting ≤ (get_or backlogs c b).room =
              d.kept.room c b l in
              let fewer = less.fewer c in
              omega arith;
          held = d.kept.held;
        };
      })

pub stopped_desk_is : {I : Type 0} (f f' : FacilityView) (inlets : List I) (backlogs : List BacklogState) (client : ℕ) (handle : Handle)
    (result : Result Answer NotTaken) (d : DeskState I) → desk_of f inlets backlogs ≡ d → IsStopStep f.state client handle result f'
    → desk_of f' inlets backlogs ≡ record d { facility = (stop_step d.facility client handle).state }
stopped_desk_is {I} f f' inlets backlogs client handle result d e h =
    ap (λ (v : FacilityView). desk_of v inlets backlogs) h.left
    ∙ ap (λ (d : DeskState I). let new : DeskState I = record d { facility = (stop_step d.facility client handle).state } in new) e
