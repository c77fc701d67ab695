-- The notices of every run are what is owed for it.
use Rattle.std.proofs.Common.{◌≡◌, ◌<◌, ◌≤◌, ◌+◌, ℕ, zero, suc, true, false, List, [], ◌∷◌, ◌++◌, inl, inr, refl, sym, ◌∙◌, ap, subst, arith, append-nil, append_assoc}
use Rattle.std.specs.Prelude.{take, map, filter, Option, Some, None}
use Rattle.std.specs.List.{AllByRecursion}
use Rattle.std.proofs.lemmas.Bool.{cases_lt, or_right}
use Rattle.std.proofs.lemmas.Bool.Decides.{nat_tests}
use Rattle.timer_base.proofs.Basics.{either}
use Rattle.timer_base.specs.Order.{IsMember, AreDistinct, AreNumbered}
use Rattle.timer_base.proofs.OrderLaws.{All-weaken, filter_all, filter_none}
use Rattle.timer_facility.specs.Types.{Timer, Notice, StateLine, TickFault, Expired, Returned}
use Rattle.timer_base.specs.Pending.{timers_of}
use Rattle.timer_facility.specs.State.{FacilityState, IsSound, ModelRequest, action_of, SingleEvent, Asked, Tick, Close, Dump}
use Rattle.timer_facility.specs.Saved.{saved_of, state_lines}
use Rattle.timer_facility.specs.Verdict.{tick_refusal}
use Rattle.timer_facility.specs.Step.{StepResult, timer_stopped, expiries, timer_started, handle_of, answer_to, answered, due_at_start, with_timer, after_request, expired_next, step, step_of_tick, step_of_close}
use Rattle.timer_facility.specs.Run.{PlacedEvent, history, state_after, notices, notices_in, outs_of}
use Rattle.timer_facility.specs.Owed.{owed, started, accepted_starts, timers_in_order, timer_answered}
use Rattle.timer_facility.proofs.TimerLists.{or_false, timers_in_order-ordered, notices_in-map, timers_in-map, serials_told-map, closing-map, refusal-map, notices_in-append, notices_in-dumped, serials_told-dumped, closing-dumped}
use Rattle.timer_facility.proofs.VerdictLemmas.{takable, ticking}
use Rattle.timer_facility.proofs.StepLemmas.{by_verdict, stopped-among, IsNew, started-new, started-not_past, due_when_later, due_when_now}
use Rattle.timer_facility.proofs.OwedFold.{Reading, nothing_read, read_one, reading, and_then, then_nothing, nothing_then, then_then, reading_is, all_started, is_owed_at, is_left_at, owed_at_ticks, owed_is}
use Rattle.timer_facility.proofs.OwedKeeps.{Keeps, not_closed, not_owed, with_started, keeps-start, keeps-start_now, keeps-stop, keeps-tick, keeps-close, keeps-numbered}

-- the invariant between two events, after one with these outs
abbrev KeepsStep : FacilityState → Reading → List Notice → SingleEvent → StepResult → Type 0
KeepsStep s r ns event st = Keeps s (and_then r (read_one (record { event = event; outs = st.outs }))) (ns ++ notices_in st.outs) st.state

keeps_read : {s : FacilityState} {r r' : Reading} {ns ns' : List Notice} {c : FacilityState} → r' ≡ r → ns' ≡ ns → Keeps s r ns c
    → Keeps s r' ns' c
keeps_read e f k = rw (e, f) k

-- an event that says nothing of timers, ticks or a close keeps it
keeps_idle : {s : FacilityState} {r : Reading} {ns : List Notice} {c : FacilityState} → Keeps s r ns c
    → Keeps s (and_then r nothing_read) (ns ++ []) c
keeps_idle {r = r} {ns = ns} k = keeps_read (then_nothing r) (append-nil ns) k

-- the timer in an answer
timer_is : {c : FacilityState} {client number action : ℕ} {t : Timer} (place : ℕ) → IsNew c client number action t
    → timer_answered client number action (handle_of place t) t.deadline ≡ t
timer_is place i = rw (sym i.client_is, sym i.number_is, sym i.action_is) refl

-- a timer that is started: if it is due now, it is handed out at once
keeps_started : {s : FacilityState} {r : Reading} {ns : List Notice} {c : FacilityState} (place : ℕ) (t : Timer)
    → Keeps s r ns c → r.is_closed ≡ false → c.now ≤ t.deadline → t.serial ≡ c.next_serial
    → Keeps s (with_started r t) (ns ++ notices_in (expiries (due_at_start c (Some t)))) (with_timer (Some t) place c)
keeps_started {s} {r} {ns} {c} place t k o h fresh = elim (cases_lt c.now t.deadline) [
  | inl l ↦ subst (λ due. Keeps s (with_started r t) (ns ++ notices_in (expiries due)) (with_timer (Some t) place c))
      (sym (due_when_later c t l)) (keeps_read refl (append-nil ns) (keeps-start place t k o l fresh))
  | inr m ↦ subst (λ due. Keeps s (with_started r t) (ns ++ notices_in (expiries due)) (with_timer (Some t) place c))
      (sym (due_when_now c t m)) (keeps-start_now place t k o (omega arith) fresh)
]

-- an accepted request, by the timer that it stops and the one that it starts
keeps_request : (s : FacilityState) (r : Reading) (ns : List Notice) (c : FacilityState) (client number : ℕ) (request : ModelRequest)
    (old new : Option Timer) (place : ℕ)
    → ((t : Timer) → old ≡ Some t → IsMember t (timers_of c.pending))
    → ((t : Timer) → new ≡ Some t → IsNew c client number (action_of request) t)
    → ((t : Timer) → new ≡ Some t → c.now ≤ t.deadline)
    → Keeps s r ns c → r.is_closed ≡ false
    → KeepsStep s r ns (Asked client number request)
    (answered client number (answer_to old new place) (due_at_start c new) (after_request old new place c))
keeps_request s r ns c client number request None None place among is not_past k o =
    keeps_idle (keeps-numbered client number k)
keeps_request s r ns c client number request (Some old) None place among is not_past k o =
    keeps_read (reading_is (append-nil r.started) refl (omega arith) (or_false r.is_closed)) (append-nil ns)
    (keeps-numbered client number (keeps-stop old k o (among old refl)))
keeps_request s r ns c client number request None (Some t) place among is not_past k o =
    rw (
      timers_in-map client number (action_of request) (λ t. Expired t) (due_at_start c (Some t)),
      serials_told-map (λ t. Expired t) (due_at_start c (Some t)),
      closing-map (λ t. Expired t) (due_at_start c (Some t)),
    )
    (keeps_read (reading_is (ap (λ u. r.started ++ u ∷ []) (timer_is place (is t refl))) (append-nil r.stopped) (omega arith)
    (or_false r.is_closed)) refl (keeps-numbered client number (keeps_started place t k o (not_past t refl) (is t refl).serial_is)))
keeps_request s r ns c client number request (Some old) (Some t) place among is not_past k o =
    rw (
      timers_in-map client number (action_of request) (λ t. Expired t) (due_at_start c (Some t)),
      serials_told-map (λ t. Expired t) (due_at_start c (Some t)),
      closing-map (λ t. Expired t) (due_at_start c (Some t)),
    )
    (keeps_read (reading_is (ap (λ u. r.started ++ u ∷ []) (timer_is place (is t refl))) refl (omega arith) (or_false r.is_closed))
    refl (keeps-numbered client number
    (keeps_started place t (keeps-stop old k o (among old refl)) o (not_past t refl) (is t refl).serial_is)))

keeps_asked : (s : FacilityState) (r : Reading) (ns : List Notice) (c : FacilityState) (client number : ℕ) (request : ModelRequest)
    (place : ℕ) → Keeps s r ns c
    → KeepsStep s r ns (Asked client number request) (step c (Asked client number request) place)
keeps_asked s r ns c client number request place k =
    by_verdict (KeepsStep s r ns (Asked client number request)) c client number request place
    (λ reason. keeps_idle k)
    (λ reason taken. keeps_idle (keeps-numbered client number k))
    (λ taken ok. keeps_request s r ns c client number request (timer_stopped c client request)
    (timer_started c client number request) place (stopped-among c client request) (started-new c client number request)
    (started-not_past c client number request) k (not_closed k (takable c client number taken).is_open))

keeps_ticked : (s : FacilityState) (r : Reading) (ns : List Notice) (c : FacilityState) (v : Option TickFault) → tick_refusal c ≡ v
    → Keeps s r ns c → KeepsStep s r ns Tick (step_of_tick c v)
keeps_ticked s r ns c (Some fault) e k = keeps_idle k
keeps_ticked s r ns c None e k = rw (
  notices_in-map (λ t. Expired t) (expired_next c),
  serials_told-map (λ t. Expired t) (expired_next c),
  refusal-map (λ t. Expired t) (expired_next c),
  closing-map (λ t. Expired t) (expired_next c),
  append-nil r.started,
  append-nil r.stopped,
  or_false r.is_closed,
) (keeps-tick k (not_closed k (ticking c e).is_open))

-- the first close
keeps_closed : {s : FacilityState} {r : Reading} {ns : List Notice} {c : FacilityState} → Keeps s r ns c → c.is_closed ≡ false
    → KeepsStep s r ns Close (step_of_close c false)
keeps_closed {r = r} {c = c} k e =
    let no_tick : r.ticks + 0 ≡ r.ticks = omega arith in
    rw (
      notices_in-map (λ t. Returned t) (timers_of c.pending),
      serials_told-map (λ t. Returned t) (timers_of c.pending),
      append-nil r.started,
      append-nil r.stopped,
      no_tick,
      or_right r.is_closed true refl,
    ) (keeps-close k (not_closed k e))

keeps_step : (s : FacilityState) (r : Reading) (ns : List Notice) (c : FacilityState) (event : SingleEvent) (place : ℕ) → Keeps s r ns c
    → KeepsStep s r ns event (step c event place)
keeps_step s r ns c (Asked client number request) place k = keeps_asked s r ns c client number request place k
keeps_step s r ns c Tick place k = keeps_ticked s r ns c (tick_refusal c) refl k
keeps_step s r ns c Dump place k =
    let lines : List StateLine = state_lines (saved_of c) in
    rw (notices_in-dumped lines, serials_told-dumped lines, closing-dumped lines) (keeps_idle k)
keeps_step s r ns c event place k = elim (either c.is_closed) [
  | inl h ↦ rw h (keeps_idle (rw h at k))
  | inr h ↦ let now = rw h at k in rw h (search (keeps_closed, now))
]

-- and so does a whole run
keeps_run : (s : FacilityState) (r : Reading) (ns : List Notice) (c : FacilityState) (ps : List PlacedEvent) → Keeps s r ns c
    → Keeps s (and_then r (reading (history c ps))) (ns ++ notices (history c ps)) (state_after c ps)
keeps_run s r ns c [] k = keeps_idle k
keeps_run s r ns c (p ∷ ps) k =
    let st : StepResult = step c p.event p.place in
    let rest : List Notice = notices (history st.state ps) in
    let one : Reading = read_one (record { event = p.event; outs = st.outs }) in
    keeps_read (sym (then_then r one (reading (history st.state ps))))
    (ap (λ xs. ns ++ xs) (notices_in-append st.outs (outs_of (history st.state ps))) ∙ sym (append_assoc ns (notices_in st.outs) rest))
    (keeps_run s (and_then r one) (ns ++ notices_in st.outs) st.state ps (keeps_step s r ns c p.event p.place k))

left_at_first : (now : ℕ) (t : Timer) → now < t.deadline → is_left_at nothing_read now t ≡ true
left_at_first now t h = grind (arith, nat_tests)

keeps_first : (s : FacilityState) → IsSound s → Keeps s nothing_read [] s
keeps_first s i =
    let all : all_started s nothing_read ≡ timers_of s.pending = append-nil (timers_of s.pending) in
    let none : filter (is_owed_at nothing_read s.now) (all_started s nothing_read) ≡ [] =
    ap (filter (is_owed_at nothing_read s.now)) all ∙ filter_none (is_owed_at nothing_read s.now) (timers_of s.pending)
    (All-weaken (λ t. s.now < t.deadline) (λ t. is_owed_at nothing_read s.now t ≡ false) (timers_of s.pending)
    (λ t l. not_owed nothing_read s.now t l) i.later) in
    record {
      now_is = omega arith;
      told = sym (append-nil (owed_at_ticks s nothing_read 0) ∙ ap (λ ts. map (λ t. Expired t) (timers_in_order ts)) none);
      shut = λ h. absurd (cc);
      left = λ _. sym (ap (λ xs. timers_in_order (filter (is_left_at nothing_read s.now) xs)) all
          ∙ ap timers_in_order (filter_all (is_left_at nothing_read s.now) (timers_of s.pending)
          (All-weaken (λ t. s.now < t.deadline) (λ t. is_left_at nothing_read s.now t
          ≡ true) (timers_of s.pending) (left_at_first s.now) i.later))
          ∙ timers_in_order-ordered (timers_of s.pending) i.ordered i.distinct);
      distinct = rw all i.distinct;
      below = rw all i.below;
      stopped_below = tt;
      numbered = record { each = tt; next_is = omega arith };
      not_past = rw all (All-weaken (λ t. s.now < t.deadline) (λ t. s.now ≤ t.deadline) (timers_of s.pending)
          (λ t l. omega (arith, l)) i.later);
    }

pub keeps_history : (s : FacilityState) (ps : List PlacedEvent) → IsSound s
    → Keeps s (reading (history s ps)) (notices (history s ps)) (state_after s ps)
keeps_history s ps i = keeps_read (sym (nothing_then (reading (history s ps)))) refl (keeps_run s nothing_read [] s ps (keeps_first s i))

-- whatever the events and the places are, the notices of a run are what is owed for it
pub notices-history : (s : FacilityState) (ps : List PlacedEvent) → IsSound s → notices (history s ps) ≡ owed s (history s ps)
notices-history s ps i = (keeps_history s ps i).told ∙ sym (owed_is s (history s ps))

-- no two of the timers that were started have one serial
pub started-distinct : (s : FacilityState) (ps : List PlacedEvent) → IsSound s → AreDistinct (started s (history s ps))
started-distinct s ps i = (keeps_history s ps i).distinct

-- those started since have the next serials, in order
pub started-numbered : (s : FacilityState) (ps : List PlacedEvent) → IsSound s
    → AreNumbered s.next_serial (accepted_starts (history s ps)) (state_after s ps).next_serial
started-numbered s ps i = (keeps_history s ps i).numbered

-- none of them has its deadline before the beginning
pub started-not_before : (s : FacilityState) (ps : List PlacedEvent) → IsSound s
    → AllByRecursion (λ t. s.now ≤ t.deadline) (started s (history s ps))
started-not_before s ps i = (keeps_history s ps i).not_past

-- a prefix of a history is a history
pub take-history : (k : ℕ) (s : FacilityState) (ps : List PlacedEvent) → take k (history s ps) ≡ history s (take k ps)
take-history zero s ps = refl
take-history (suc k) s [] = refl
take-history (suc k) s (p ∷ ps) = ap (λ hs. record {
  event = p.event;
  outs = (step s p.event p.place).outs;
} ∷ hs) (take-history k (step s p.event p.place).state ps)

pub notices_take : (s : FacilityState) (ps : List PlacedEvent) (k : ℕ) → IsSound s
    → notices (take k (history s ps)) ≡ owed s (take k (history s ps))
notices_take s ps k i = rw (take-history k s ps) (notices-history s (take k ps) i)
