-- A tick, many ticks and a close are events of the owner.
use Rattle.std.proofs.Common.{◌≡◌, ℕ, zero, suc, ◌+◌, Bool, true, false, List, [], ◌∷◌, ◌++◌, length, map, refl, sym, ◌∙◌, ap, subst, arith, append-nil}
use Rattle.std.specs.Prelude.{◌==◌, ◌≤◌, cond, if◌then◌else◌, count_by, Option, Some, None, Ok, Err, Result, MatchResult, IfOk, OnOk, IfErr, OnErr, IsTrue, ◌↔◌}
use Rattle.std.proofs.lemmas.List.{length-map}
use Rattle.timer_desk.specs.Types.{Timer, Notice, TickFault, CloseFault, Served, Step, Done}
use Rattle.timer_base.specs.Pending.{timers_of}
use Rattle.timer_facility.specs.declared.request.Notice.TheVariants.{Expired, Returned}
use Rattle.timer_facility.specs.declared.request.CloseFault.TheVariants as CloseFaults
use Rattle.timer_facility.specs.declared.event.Out.TheVariants as Outs
use Rattle.timer_facility.specs.State.{FacilityState, SingleEvent, Tick, Close, pending_of}
use Rattle.timer_facility.specs.Verdict.{tick_refusal}
use Rattle.timer_facility.specs.Step.{StepResult, step, step_of_tick, step_of_close, expired_next}
use Rattle.timer_facility.specs.Run.{run, history, state_after, outs_of, notices, notices_in}
use Rattle.timer_facility.specs.Facility.{FacilityView, view_after, NoRoomToClose}
use Rattle.timer_facility.specs.HandedOver.{HandsOver}
use Rattle.timer_facility.specs.Ticked.{ticks, AreTicked}
use Rattle.timer_facility.specs.Owed.{timer_handed}
use Rattle.timer_facility.proofs.TimerLists.{notices_in-append}
use Rattle.timer_facility.proofs.PlayedTicks.{are_accepted, length-many}
use Rattle.timer_facility.proofs.HandedOverLemmas.{hands_over_tick, hands_over_close}
use Rattle.timer_desk.specs.declared.report.Served.TheVariants.{Idle, NoRoom, NoMemory, Did}
use Rattle.timer_desk.specs.declared.report.Step.TheVariants as Steps
use Rattle.timer_desk.specs.declared.report.Done.TheVariants as Dones
use Rattle.timer_desk.specs.Backlog.{notices_for}
use Rattle.timer_desk.specs.Report.{placed, events_in, outs_in, tick_outs, request_in, asked_in, step_in}
use Rattle.timer_desk.specs.Member.{IsRight, waiting_outs, is_notice, hands_out}
use Rattle.timer_desk.specs.Event.{IsSilent, IsEvent}
use Rattle.timer_desk.specs.Desk.{notices_of}
use Rattle.timer_desk.proofs.DeskLemmas.{still, none_for, quiet_member}

-- A single event of the model.

notices_back : (f : Timer → Notice) (ts : List Timer) → map (λ n. Outs.Notice n) (notices_in (map (λ t. Outs.Notice (f t)) ts))
    ≡ map (λ t. Outs.Notice (f t)) ts
notices_back f [] = refl
notices_back f (t ∷ ts) = ap (λ os. Outs.Notice (f t) ∷ os) (notices_back f ts)

-- An event that is one step: what it hands out waits then, was pending, and is no longer.
one_step : (first : Done) (event : SingleEvent) (f g : FacilityView) → f.waiting ≡ [] → g ≡ view_after (step f.state event 0)
    → HandsOver f.state (step f.state event 0) → length (step f.state event 0).state.numbers ≡ length f.state.numbers
    → ((c : ℕ) → IsSilent c first) → is_notice first ≡ false → hands_out first ≡ true → IsRight f.state first
    → events_in first ≡ placed event 0 ∷ []
    → outs_in first ++ map (λ (n : Notice). Outs.Notice n) (notices_in (step f.state event 0).outs) ≡ (step f.state event 0).outs
    → g.waiting ≡ notices_of f.state first → IsEvent first f g
one_step first event f g quiet is hands numbers silent event_is owner right one outs notices =
    let st : StepResult = step f.state event 0 in
    let long = length-map (notices_in st.outs) timer_handed in
    let all : length (notices_in st.outs) + length st.state.pending ≡ length f.state.pending = let a = hands.all in omega arith in record {
      silent = silent;
      member = quiet_member first f g quiet
          (ap (λ ps. (run f.state ps).outs) one ∙ append-nil st.outs ∙ sym outs ∙ ap (λ (v : FacilityView). outs_in first ++ waiting_outs v) (sym is))
          (ap (λ (v : FacilityView). v.state) is ∙ ap (λ ps. (run f.state ps).state) (sym one))
          event_is (λ e. absurd (let o = sym owner ∙ e in cc)) right;
      same_numbers = ap (λ (v : FacilityView). length v.state.numbers) is ∙ numbers;
      of_client = λ c. ap (λ (v : FacilityView). pending_of v.state c + notices_for c v.waiting) is ∙ hands.of_client c;
      all = ap (λ (v : FacilityView). length v.waiting + length v.state.pending) is ∙ all;
      notices = notices;
    }

-- A tick.

tick_outs_are : {X : Type 0} (s : FacilityState) (o : Option TickFault) (r : Result X TickFault)
    → MatchResult r (λ done. o ≡ None) (λ fault. o ≡ Some fault)
    → tick_outs r ++ map (λ n. Outs.Notice n) (notices_in (step_of_tick s o).outs) ≡ (step_of_tick s o).outs
tick_outs_are s None (Ok done) h = notices_back (λ t. Expired t) (expired_next s)
tick_outs_are s None (Err fault) h = absurd (cc)
tick_outs_are s (Some other) (Ok done) h = absurd (cc)
tick_outs_are s (Some other) (Err fault) h = let e : fault ≡ other = cc in ap (λ x. Outs.TickRefused x ∷ []) e

numbers_tick : (s : FacilityState) (o : Option TickFault) → length (step_of_tick s o).state.numbers ≡ length s.numbers
numbers_tick s None = refl
numbers_tick s (Some fault) = refl

pub event_of_tick : (f g : FacilityView) (r : Result (Unit {0}) TickFault) → f.waiting ≡ [] → g ≡ view_after (step f.state Tick 0)
    → MatchResult r (λ done. tick_refusal f.state ≡ None) (λ fault. tick_refusal f.state ≡ Some fault) → IsEvent (Dones.Ticked r) f g
event_of_tick f g r quiet is h =
    one_step (Dones.Ticked r) Tick f g quiet is (hands_over_tick f.state 0) (numbers_tick f.state (tick_refusal f.state))
    (λ c. record { no_request = refl; no_word = refl; none_flushed = refl; no_serve = λ served e. absurd (cc) })
    refl refl tt refl (tick_outs_are f.state (tick_refusal f.state) r h) (ap (λ (v : FacilityView). v.waiting) is)

-- Many ticks.

-- what the contract of the facility's `ticks` gives
pub record HasTicked (limit : ℕ) (f g : FacilityView) (r : Result ℕ TickFault) : Type 0 where
  pub ticked : IfOk r (λ passed. AreTicked limit passed f.state g)
  pub fault : MatchResult r (λ done. tick_refusal f.state ≡ None) (λ fault. tick_refusal f.state ≡ Some fault)
  pub unchanged : OnErr r (g ≡ f)

notices_for-append : (c : ℕ) (ns ms : List Notice) → notices_for c (ns ++ ms) ≡ notices_for c ns + notices_for c ms
notices_for-append c [] ms = omega arith
notices_for-append c (n ∷ ns) ms = let h = notices_for-append c ns ms in omega arith

-- so many ticks hand out what was pending
handed_by_ticks : (n : ℕ) (s : FacilityState) (c : ℕ)
    → pending_of (state_after s (ticks n)) c + notices_for c (notices (history s (ticks n))) ≡ pending_of s c
handed_by_ticks zero s c = omega arith
handed_by_ticks (suc n) s c =
    let st : StepResult = step s Tick 0 in
    let one : pending_of st.state c + notices_for c (notices_in st.outs) ≡ pending_of s c = (hands_over_tick s 0).of_client c in
    let rest = handed_by_ticks n st.state c in
    let all : notices_for c (notices (history s (ticks (suc n)))) ≡ notices_for c (notices_in st.outs)
    + notices_for c (notices (history st.state (ticks n))) =
    ap (notices_for c) (notices_in-append st.outs (outs_of (history st.state (ticks n))))
    ∙ notices_for-append c (notices_in st.outs) (notices (history st.state (ticks n))) in
    omega (arith, one, rest, all)

numbers_ticks : (n : ℕ) (s : FacilityState) → length (state_after s (ticks n)).numbers ≡ length s.numbers
numbers_ticks zero s = refl
numbers_ticks (suc n) s = numbers_ticks n (step s Tick 0).state ∙ numbers_tick s (tick_refusal s)

pub event_of_ticks : (limit : ℕ) (f g : FacilityView) (r : Result ℕ TickFault) → f.waiting ≡ [] → HasTicked limit f g r
    → IsEvent (Dones.Passed limit r) f g
event_of_ticks limit f g (Ok passed) quiet h =
    let a : AreTicked limit passed f.state g = h.ticked in record {
      silent = λ c. record { no_request = refl; no_word = refl; none_flushed = refl; no_serve = λ served e. absurd (cc) };
      member = quiet_member (Dones.Passed limit (Ok passed)) f g quiet
          (sym (are_accepted f.state passed a.accepted).outs ∙ ap (λ (v : FacilityView). waiting_outs v) (sym a.ticked))
          (ap (λ (v : FacilityView). v.state) a.ticked) refl (λ e. absurd (cc))
          (subst (λ (v : FacilityView). AreTicked limit passed f.state v) a.ticked a);
      same_numbers = ap (λ (v : FacilityView). length v.state.numbers) a.ticked ∙ numbers_ticks passed f.state;
      of_client = λ c. ap (λ (v : FacilityView). pending_of v.state c + notices_for c v.waiting) a.ticked
          ∙ handed_by_ticks passed f.state c;
      all = length-many limit passed f.state g a;
      notices = ap (λ (v : FacilityView). v.waiting) a.ticked;
    }
event_of_ticks limit f g (Err fault) quiet h =
    one_step (Dones.Passed limit (Err fault)) Tick f g quiet
    (h.unchanged ∙ still f quiet ∙ ap view_after (sym (ap (step_of_tick f.state) h.fault)))
    (hands_over_tick f.state 0) (numbers_tick f.state (tick_refusal f.state))
    (λ c. record { no_request = refl; no_word = refl; none_flushed = refl; no_serve = λ served e. absurd (cc) })
    refl refl tt refl (tick_outs_are {X = ℕ} f.state (tick_refusal f.state) (Err fault) h.fault)
    (ap (λ (v : FacilityView). v.waiting) h.unchanged ∙ quiet)

-- A close.

-- what the contract of the facility's `close` gives
pub record HasClosed (f f' : FacilityView) (r : Result ℕ CloseFault) : Type 0 where
  pub count : IfOk r (λ n. n ≡ length f.state.pending)
  pub open_before : OnOk r (f.state.is_closed ≡ false)
  pub closed : OnOk r (f' ≡ view_after (step f.state Close 0))
  pub fault : IfErr r (λ fault. (fault ≡ CloseFaults.Closed) ↔ IsTrue f.state.is_closed)
  pub room : IfErr r (NoRoomToClose f.state)
  pub unchanged : OnErr r (f' ≡ f)

close_outs_are : (s : FacilityState) (closed : Bool) (count : ℕ) → closed ≡ false → count ≡ length s.pending
    → Outs.Closed count ∷ map (λ n. Outs.Notice n) (notices_in (step_of_close s closed).outs) ≡ (step_of_close s closed).outs
close_outs_are s true count c n = absurd (cc)
close_outs_are s false count c n = ap (λ k. Outs.Closed k ∷ map (λ m. Outs.Notice m) (notices_in (step_of_close s false).outs)) n
    ∙ ap (λ os. Outs.Closed (length s.pending) ∷ os) (notices_back (λ t. Returned t) (timers_of s.pending))

is_open : (b : Bool) → (IsTrue b → ⊥) → b ≡ false
is_open true h = absurd (h (cc))
is_open false h = refl

numbers_close : (s : FacilityState) (closed : Bool) → length (step_of_close s closed).state.numbers ≡ length s.numbers
numbers_close s true = refl
numbers_close s false = refl

pub event_of_close : (f g : FacilityView) (r : Result ℕ CloseFault) → f.waiting ≡ [] → HasClosed f g r → IsEvent (Dones.Closed r) f g
event_of_close f g (Ok count) quiet h =
    one_step (Dones.Closed (Ok count)) Close f g quiet h.closed (hands_over_close f.state 0)
    (numbers_close f.state f.state.is_closed)
    (λ c. record { no_request = refl; no_word = refl; none_flushed = refl; no_serve = λ served e. absurd (cc) })
    refl refl tt refl (close_outs_are f.state f.state.is_closed count h.open_before h.count)
    (ap (λ (v : FacilityView). v.waiting) h.closed)
event_of_close f g (Err CloseFaults.Closed) quiet h =
    let closed : f.state.is_closed ≡ true = h.fault.0 refl in
    let stays : step f.state Close 0 ≡ step_of_close f.state true = ap (step_of_close f.state) closed in
    one_step (Dones.Closed (Err CloseFaults.Closed)) Close f g quiet (h.unchanged ∙ still f quiet ∙ ap view_after (sym stays))
    (hands_over_close f.state 0) (numbers_close f.state f.state.is_closed)
    (λ c. record { no_request = refl; no_word = refl; none_flushed = refl; no_serve = λ served e. absurd (cc) })
    refl refl tt refl
    (ap (λ (st : StepResult). Outs.CloseRefused ∷ map (λ (n : Notice). Outs.Notice n) (notices_in st.outs)) stays
    ∙ ap (λ (st : StepResult). st.outs) (sym stays))
    (ap (λ (v : FacilityView). v.waiting) h.unchanged ∙ quiet)
event_of_close f g (Err CloseFaults.OutOfMemory) quiet h =
    let no_notice : (c : ℕ) → notices_for c f.waiting ≡ 0 = λ c. none_for c f quiet in
    let none = ap (λ (ns : List Notice). length ns) quiet in
    subst (λ (v : FacilityView). IsEvent (Dones.Closed (Err CloseFaults.OutOfMemory)) f v) (sym h.unchanged) (record {
      silent = λ c. record { no_request = refl; no_word = refl; none_flushed = refl; no_serve = λ served e. absurd (cc) };
      member = quiet_member (Dones.Closed (Err CloseFaults.OutOfMemory)) f f quiet
          (ap (λ (ns : List Notice). map (λ (n : Notice). Outs.Notice n) ns) (sym quiet)) refl refl (λ e. quiet)
          (is_open f.state.is_closed (λ c. absurd (let same : CloseFaults.OutOfMemory ≡ CloseFaults.Closed = h.fault.1 c in cc)), h.room);
      same_numbers = refl;
      of_client = λ c. let n = no_notice c in omega arith;
      all = omega arith;
      notices = quiet;
    })

-- Steps of a turn.

abbrev pub one_if : Bool → ℕ
one_if b = cond b 1 0

abbrev pub is_serve_of : ℕ → Step → Bool
is_serve_of c (Steps.Serve client) = client == c
is_serve_of c step = false

few_requests : (b : Bool) (served : Served) → length (if b then request_in served else []) ≤ one_if b
few_requests true Idle = omega arith
few_requests true NoRoom = omega arith
few_requests true NoMemory = omega arith
few_requests true (Did numbered word) = omega arith
few_requests false served = omega arith

-- at most one request is done, by a serve
pub few_in : (c : ℕ) (d : Done) → length (asked_in c d) ≤ count_by (is_serve_of c) (step_in d)
few_in c (Dones.Served client served) = let few = few_requests (client == c) served in omega arith
few_in c (Dones.Ticked result) = omega arith
few_in c (Dones.Passed limit passed) = omega arith
few_in c (Dones.Closed result) = omega arith
few_in c (Dones.Noticed notice) = omega arith
few_in c (Dones.Flushed client count) = omega arith
