-- The clock after events, and the clients that there are not.
use Rattle.std.proofs.Common.{◌≡◌, ◌≤◌, ◌+◌, ℕ, Bool, true, false, ◌==◌, List, [], ◌∷◌, length, inl, inr, refl, sym, ap, subst, arith, ◌<◌, zero, suc, not, ◌∙◌}
use Rattle.std.specs.Prelude.{if◌then◌else◌, Option, Some, None, map, filter}
use Rattle.std.proofs.lemmas.Bool.Decides.{nat_tests}
use Rattle.std.proofs.lemmas.List.{length-set}
use Rattle.timer_base.proofs.Basics.{either}
use Rattle.timer_facility.specs.Types.{Timer, TickFault, Expired}
use Rattle.timer_facility.specs.declared.request.NotTaken.TheVariants as NotTakens
use Rattle.timer_facility.specs.State.{FacilityState, count_of, pending_of, ModelRequest, SingleEvent, Asked, Tick, Dump}
use Rattle.timer_facility.specs.Verdict.{tick_refusal}
use Rattle.timer_facility.specs.Step.{StepResult, with_number, timer_stopped, timer_started, after_request, expired_next, step, step_of_tick}
use Rattle.timer_facility.specs.Run.{PlacedEvent, history, state_after, notices, notices_in, outs_of}
use Rattle.timer_facility.specs.Owed.{accepted_ticks, ticks_by}
use Rattle.timer_facility.specs.HandedOver.{timers_handed}
use Rattle.timer_facility.proofs.VerdictLemmas.{not_taken-closed, not_taken-no_client}
use Rattle.timer_facility.proofs.StepLemmas.{by_verdict, step-not_taken}
use Rattle.timer_facility.proofs.HandedOverLemmas.{adds_at_most_one, hands_over_tick}
use Rattle.timer_facility.proofs.TimerLists.{refusal-map, notices_in-append, timers_of-filter}
use Rattle.std.specs.List.{AllByRecursion}
use Rattle.timer_base.proofs.OrderLaws.{All-filter, All-weaken}
use Rattle.timer_base.specs.Pending.{Entry, timers_of, is_due_at}
use Rattle.timer_base.proofs.TickLaws.{due_none}
use Rattle.timer_facility.specs.declared.event.Out.TheVariants as Outs
use Rattle.timer_facility.specs.Ticked.{ticks}

-- the tick and the number of clients are the same
record IsSameClock (s t : FacilityState) : Type 0 where
  now_is : t.now ≡ s.now
  clients_are : length t.numbers ≡ length s.numbers

clock_accepted : (s : FacilityState) (client number place : ℕ) (old new : Option Timer)
    → IsSameClock s (with_number client number (after_request old new place s))
clock_accepted s client number place old None = record { now_is = refl; clients_are = length-set s.numbers client (number + 1) }
clock_accepted s client number place old (Some new) = record { now_is = refl; clients_are = length-set s.numbers client (number + 1) }

clock_asked : (s : FacilityState) (client number : ℕ) (request : ModelRequest) (place : ℕ)
    → IsSameClock s (step s (Asked client number request) place).state
clock_asked s client number request place =
    by_verdict (λ st. IsSameClock s st.state) s client number request place
    (λ reason. record { now_is = refl; clients_are = refl })
    (λ reason taken. record { now_is = refl; clients_are = length-set s.numbers client (number + 1) })
    (λ taken ok. clock_accepted s client number place (timer_stopped s client request) (timer_started s client number request))

-- a request adds no client
pub clients-asked : (s : FacilityState) (client number : ℕ) (request : ModelRequest) (place : ℕ)
    → length (step s (Asked client number request) place).state.numbers ≡ length s.numbers
clients-asked s client number request place = (clock_asked s client number request place).clients_are

-- The clock.

now_ticked : (s : FacilityState) (o : Option TickFault) → (step_of_tick s o).state.now ≡ s.now + ticks_by Tick (step_of_tick s o).outs
now_ticked s (Some fault) = omega arith
now_ticked s None = ap (λ b. s.now + (if b then 0 else 1)) (sym (refusal-map (λ t. Expired t) (expired_next s)))

now_step : (s : FacilityState) (event : SingleEvent) (place : ℕ)
    → (step s event place).state.now ≡ s.now + ticks_by event (step s event place).outs
now_step s (Asked client number request) place = omega (arith, (clock_asked s client number request place).now_is)
now_step s Tick place = now_ticked s (tick_refusal s)
now_step s Dump place = omega arith
now_step s event place = elim (either s.is_closed) [ inl h ↦ rw h (omega arith) | inr h ↦ rw h (omega arith) ]

-- each accepted tick, and nothing else, brings the clock one tick on
pub now_run : (s : FacilityState) (ps : List PlacedEvent) → (state_after s ps).now ≡ s.now + accepted_ticks (history s ps)
now_run s [] = omega arith
now_run s (p ∷ ps) =
    omega (arith, now_step s p.event p.place, now_run (step s p.event p.place).state ps)

-- The clients that there are not.

not_among : (s : FacilityState) (client number : ℕ) (request : ModelRequest) (place : ℕ) → length s.numbers ≤ client → (b : Bool)
    → s.is_closed ≡ b → (step s (Asked client number request) place).state ≡ s
not_among s client number request place l true h =
    ap (λ (st : StepResult). st.state) (step-not_taken s client number request place NotTakens.Closed (not_taken-closed s client number h))
not_among s client number request place l false h =
    ap (λ (st : StepResult). st.state)
    (step-not_taken s client number request place NotTakens.NoClient (not_taken-no_client s client number h l))

-- no timer of this client, which there is not
record HasNone (client : ℕ) (s : FacilityState) : Type 0 where
  no_client : length s.numbers ≤ client
  none : pending_of s client ≡ 0

clients_ticked : (s : FacilityState) (o : Option TickFault) → length (step_of_tick s o).state.numbers ≡ length s.numbers
clients_ticked s (Some fault) = refl
clients_ticked s None = refl

none_asked : (s : FacilityState) (client c number : ℕ) (request : ModelRequest) (place : ℕ) → HasNone c s → (b : Bool) → (client == c) ≡ b
    → HasNone c (step s (Asked client number request) place).state
none_asked s client c number request place h true e =
    let same : client ≡ c = grind (arith, nat_tests) in
    let less : length s.numbers ≤ client = subst (λ k. length s.numbers ≤ k) (sym same) h.no_client in
    subst (λ t. HasNone c t) (sym (not_among s client number request place less s.is_closed refl)) h
none_asked s client c number request place h false e =
    let after : FacilityState = (step s (Asked client number request) place).state in
    let handed : ℕ = count_of c (timers_handed (step s (Asked client number request) place)) in
    let n : pending_of after c + handed ≤ pending_of s c + 0 =
    subst (λ b. pending_of after c + handed ≤ pending_of s c + (if b then 1 else 0)) e
    ((adds_at_most_one s client number request place).of_client c) in
    record {
      no_client = omega (arith, h.no_client, (clock_asked s client number request place).clients_are);
      none = omega (arith, h.none, n);
    }

none_step : (s : FacilityState) (c : ℕ) (event : SingleEvent) (place : ℕ) → HasNone c s → HasNone c (step s event place).state
none_step s c (Asked client number request) place h = none_asked s client c number request place h (client == c) refl
none_step s c Tick place h = record {
  no_client = omega (arith, h.no_client, clients_ticked s (tick_refusal s));
  none = omega (arith, h.none, (hands_over_tick s place).of_client c);
}
none_step s c Dump place h = h
none_step s c event place h = elim (either s.is_closed) [
  | inl e ↦ rw e (record { no_client = h.no_client; none = h.none })
  | inr e ↦ rw e (record { no_client = h.no_client; none = omega (arith, h.none) })
]

none_run : (s : FacilityState) (c : ℕ) (ps : List PlacedEvent) → HasNone c s → HasNone c (state_after s ps)
none_run s c [] h = h
none_run s c (p ∷ ps) h = none_run (step s p.event p.place).state c ps (none_step s c p.event p.place h)

-- if no timer of a client that does not exist is pending, none ever will be
pub pending_no_client : (s : FacilityState) (ps : List PlacedEvent) (client : ℕ) → length s.numbers ≤ client → pending_of s client ≡ 0
    → pending_of (state_after s ps) client ≡ 0
pending_no_client s ps client l h = (none_run s client ps (record { no_client = l; none = h })).none

-- Before the tick to wake up at, nothing is handed out.

-- each of these timers has its deadline at the tick or after it
abbrev AreFrom : ℕ → List Entry → Type 0
AreFrom tick es = AllByRecursion (λ entry. tick ≤ entry.timer.deadline) es

none_due : (tick n : ℕ) (es : List Entry) → AreFrom tick es → n < tick → filter (is_due_at n) (timers_of es) ≡ []
none_due tick n es a h = sym (timers_of-filter (is_due_at n) es)
    ∙ ap timers_of (due_none n es (All-weaken (λ e. tick ≤ e.timer.deadline) _ es (λ e from. omega (arith, from, h)) a))

-- a tick that hands nothing out, and leaves nothing to hand out before the tick
record IsQuiet (tick n : ℕ) (st : StepResult) : Type 0 where
  none : notices_in st.outs ≡ []
  from : AreFrom tick st.state.pending
  before : st.state.now + n < tick

quiet_tick : (tick n : ℕ) (s : FacilityState) (v : Option TickFault) → AreFrom tick s.pending → s.now + suc n < tick
    → IsQuiet tick n (step_of_tick s v)
quiet_tick tick n s (Some fault) a h = record { none = refl; from = a; before = omega arith }
quiet_tick tick n s None a h = record {
  none = ap (λ ts. notices_in (map (λ t. Outs.Notice (Expired t)) ts)) (none_due tick (s.now + 1) s.pending a (omega arith));
  from = All-filter (λ e. tick ≤ e.timer.deadline) _ (λ e. not (is_due_at (s.now + 1) e.timer)) s.pending (λ e _ l. l) a;
  before = omega arith;
}

pub quiet_ticks : (tick n : ℕ) (s : FacilityState) → AreFrom tick s.pending → s.now + n < tick → notices (history s (ticks n)) ≡ []
quiet_ticks tick zero s a h = refl
quiet_ticks tick (suc n) s a h =
    let st : StepResult = step_of_tick s (tick_refusal s) in
    let q : IsQuiet tick n st = quiet_tick tick n s (tick_refusal s) a h in
    let rest : notices (history st.state (ticks n)) ≡ [] = quiet_ticks tick n st.state q.from q.before in
    rw (notices_in-append st.outs (outs_of (history st.state (ticks n))), q.none) rest
