-- Ticks one after another.
use Rattle.std.proofs.Common.{zero, suc, ◌≡◌, ◌<◌, ◌≤◌, ◌+◌, ◌-◌, ℕ, false, List, [], ◌∷◌, ◌++◌, length, refl, sym, ◌∙◌, ap, subst, arith, append-nil, append_assoc, length-append, inl, inr}
use Rattle.std.specs.Prelude.{replicate, map, min, Some, None}
use Rattle.std.proofs.lemmas.Bool.{cases_eq}
use Rattle.std.proofs.lemmas.List.{map-append, replicate-append-replicate}
use Rattle.timer_base.proofs.Basics.{either}
use Rattle.timer_base.specs.Pending.{is_due_at}
use Rattle.timer_facility.specs.Types.{TickFault, Out, Expired}
use Rattle.timer_facility.specs.declared.event.Event.TheVariants as Events
use Rattle.timer_facility.specs.declared.event.Out.TheVariants as Outs
use Rattle.timer_facility.specs.State.{FacilityState, Tick}
use Rattle.timer_facility.specs.Verdict.{tick_refusal}
use Rattle.timer_facility.specs.Step.{StepResult, step, step_of_tick, accepted, expired_next}
use Rattle.timer_facility.specs.Run.{PlacedEvent, history, state_after, outs_of, notices, notices_in}
use Rattle.timer_facility.specs.Facility.{FacilityView}
use Rattle.timer_facility.proofs.PlayedLemmas.{outs_of-append, state_after-append}
use Rattle.timer_facility.proofs.TimerLists.{length-parts, length-notices, notices_in-append, outs-notices}
use Rattle.timer_facility.proofs.VerdictLemmas.{IsTicking, ticking, tick_refusal-none}
use Rattle.timer_facility.specs.Played.{ticks_left, AddsRun}
use Rattle.timer_facility.specs.Ticked.{a_tick, ticks, AreTicked}

-- n ticks were accepted, and their outs added
pub record HasTicked (s : FacilityState) (n : ℕ) (before outs : List Out) (after : FacilityState) : Type 0 where
  pub state : after ≡ state_after s (replicate n a_tick)
  pub added : outs ≡ before ++ outs_of (history s (replicate n a_tick))
  pub left : n + ticks_left after ≡ ticks_left s
  pub in_range : after.now ≤ after.last

-- no tick is left if one is refused
pub ticks_left-refused : (s : FacilityState) (fault : TickFault) → s.now ≤ s.last → tick_refusal s ≡ Some fault → ticks_left s ≡ 0
ticks_left-refused s fault i h = elim (either s.is_closed) [
  | inl k ↦ rw k refl
  | inr k ↦ elim (cases_eq s.now s.last) [
    | inl e ↦ rw k (omega (arith, e))
    | inr n ↦ absurd (let none : tick_refusal s ≡ None = tick_refusal-none s k n in cc)
  ]
]

ticks_left-open : (s : FacilityState) → s.is_closed ≡ false → ticks_left s ≡ s.last - s.now
ticks_left-open s h = rw h refl

-- an accepted tick leaves one fewer
pub ticks_left-accepted : (s : FacilityState) → s.now ≤ s.last → tick_refusal s ≡ None
    → (ticks_left s ≡ 1 + ticks_left (accepted s Tick 0).state) × (s.now + 1 ≤ s.last)
ticks_left-accepted s i h =
    let t : IsTicking s = ticking s h in (
      omega (arith, ticks_left-open s t.is_open, ticks_left-open (accepted s Tick 0).state t.is_open, t.before_last),
      omega (arith, t.before_last),
    )

-- one more tick at the end
pub state_after-ticks : (n : ℕ) (s : FacilityState) → state_after s (replicate (suc n) a_tick)
    ≡ (step (state_after s (replicate n a_tick)) Tick 0).state
state_after-ticks zero s = refl
state_after-ticks (suc n) s = state_after-ticks n (step s Tick 0).state

pub outs_of-ticks : (n : ℕ) (s : FacilityState) → outs_of (history s (replicate (suc n) a_tick))
    ≡ outs_of (history s (replicate n a_tick)) ++ (step (state_after s (replicate n a_tick)) Tick 0).outs
outs_of-ticks zero s = append-nil (step s Tick 0).outs
outs_of-ticks (suc n) s =
    ap (λ outs. (step s Tick 0).outs ++ outs) (outs_of-ticks n (step s Tick 0).state)
    ∙ sym (append_assoc (step s Tick 0).outs (outs_of (history (step s Tick 0).state (replicate n a_tick)))
    (step (state_after (step s Tick 0).state (replicate n a_tick)) Tick 0).outs)

-- after `k` more ticks
ticked_on : {s : FacilityState} {n : ℕ} {before outs : List Out} {c : FacilityState} → HasTicked s n before outs c → (k : ℕ)
    → (state_after c (ticks k) ≡ state_after s (ticks (n + k)))
    × (outs ++ outs_of (history c (ticks k)) ≡ before ++ outs_of (history s (ticks (n + k))))
ticked_on {s} {n} {before} {outs} {c} h k =
    let split : ticks (n + k) ≡ ticks n ++ ticks k = sym (replicate-append-replicate n k a_tick) in
    let so_far : List Out = outs_of (history s (ticks n)) in (
      rw (h.state, split, state_after-append s (ticks n) (ticks k)) refl,
      rw (h.added, h.state, split, outs_of-append s (ticks n) (ticks k))
          (append_assoc before so_far (outs_of (history (state_after s (ticks n)) (ticks k)))),
    )

-- `k` accepted ticks leave as many fewer
left_after : (c : FacilityState) (k : ℕ) → c.now ≤ c.last → ((j : ℕ) → j < k → tick_refusal (state_after c (ticks j)) ≡ None)
    → (k + ticks_left (state_after c (ticks k)) ≡ ticks_left c) × ((state_after c (ticks k)).now ≤ (state_after c (ticks k)).last)
left_after c zero i a = (omega arith, i)
left_after c (suc k) i a =
    let next : FacilityState = (step c Tick 0).state in
    let one : (ticks_left c ≡ 1 + ticks_left next) × (next.now ≤ next.last) =
    subst (λ (st : StepResult). (ticks_left c ≡ 1 + ticks_left st.state) × (st.state.now ≤ st.state.last))
    (sym (ap (step_of_tick c) (a 0 (omega arith)))) (ticks_left-accepted c i (a 0 (omega arith))) in
    let rest = left_after next k one.1 (λ j g. a (suc j) (omega arith)) in
    (omega (arith, one.0, rest.0), rest.1)

map-ticks : (n : ℕ) → map (λ (p : PlacedEvent). p.event) (replicate n a_tick) ≡ replicate n Tick
map-ticks zero = refl
map-ticks (suc n) = ap (λ es. Tick ∷ es) (map-ticks n)

AddsRun-ticks : {s : FacilityState} (count n : ℕ) {before outs : List Out} {after : FacilityState} → min count (ticks_left s + 1) ≡ n
    → after ≡ state_after s (ticks n) → outs ≡ before ++ outs_of (history s (ticks n)) → AddsRun s (Events.Ticks count) before outs after
AddsRun-ticks {s} count n h e o = record {
  more = outs_of (history s (ticks n));
  appended = o;
  runs = record {
    placed = ticks n;
    singles = (ticks n, [], sym (append-nil (ticks n)), map-ticks n ∙ ap (λ m. replicate m Tick) (sym h), refl);
    outs_are = refl;
    after_is = e;
  };
}

-- all ticks were accepted
pub AddsRun-all : {s : FacilityState} {count : ℕ} {before outs : List Out} {after : FacilityState} → HasTicked s count before outs after
    → AddsRun s (Events.Ticks count) before outs after
AddsRun-all {s} {count} h = AddsRun-ticks count count (omega (arith, h.left)) h.state h.added

-- the outs of an accepted tick are its notices
pub outs-accepted : (s : FacilityState) → tick_refusal s ≡ None
    → map (λ notice. Outs.Notice notice) (notices_in (step s Tick 0).outs) ≡ (step s Tick 0).outs
outs-accepted s h = rw h (outs-notices (λ t. Expired t) (expired_next s))

-- what an accepted tick hands out is no longer pending
pub length-accepted : (s : FacilityState) → tick_refusal s ≡ None
    → length (notices_in (step s Tick 0).outs) + length (step s Tick 0).state.pending ≡ length s.pending
length-accepted s h =
    rw h (omega (arith, length-notices (λ t. Expired t) (expired_next s), length-parts (is_due_at (s.now + 1)) s.pending))

-- Accepted ticks together: their outs are all notices, and what they hand out is no longer pending.
pub record AreAccepted (s : FacilityState) (n : ℕ) : Type 0 where
  pub outs : map (λ notice. Outs.Notice notice) (notices (history s (ticks n))) ≡ outs_of (history s (ticks n))
  pub counted : length (notices (history s (ticks n))) + length (state_after s (ticks n)).pending ≡ length s.pending

pub are_accepted : (s : FacilityState) (n : ℕ) → ((k : ℕ) → k < n → tick_refusal (state_after s (ticks k)) ≡ None) → AreAccepted s n
are_accepted s zero a = record { outs = refl; counted = omega arith }
are_accepted s (suc n) a =
    let i : AreAccepted s n = are_accepted s n (λ k h. a k (omega arith)) in
    let before : List Out = outs_of (history s (ticks n)) in
    let c : FacilityState = state_after s (ticks n) in
    let last : StepResult = step c Tick 0 in
    let accepted : tick_refusal c ≡ None = a n (omega arith) in
    let handed = notices_in-append before last.outs in
    record {
      outs = rw (
        outs_of-ticks n s,
        handed,
        map-append (λ notice. Outs.Notice notice) (notices_in before) (notices_in last.outs),
        i.outs,
        outs-accepted c accepted,
      ) refl;
      counted = rw (outs_of-ticks n s, state_after-ticks n s, handed)
          (omega (arith, i.counted, length-accepted c accepted, length-append (notices_in before) (notices_in last.outs)));
    }

-- `passed` more ticks, at once
pub HasTicked-many : {s : FacilityState} {n limit passed : ℕ} {before outs outs' : List Out} {c c' : FacilityState} {v : FacilityView}
    → HasTicked s n before outs c → AreTicked limit passed c v
    → outs' ≡ outs ++ map (λ notice. Outs.Notice notice) v.waiting → c' ≡ v.state → HasTicked s (n + passed) before outs' c'
HasTicked-many {s} {n} {limit} {passed} {before} {outs} {outs'} {c} {c'} {v} h t o e =
    let on = ticked_on h passed in
    let left = left_after c passed h.in_range t.accepted in
    record {
      state = rw (e, t.ticked) on.0;
      added = rw (o, t.ticked, (are_accepted c passed t.accepted).outs) on.1;
      left = rw (e, t.ticked) (omega (arith, h.left, left.0));
      in_range = rw (e, t.ticked) left.1;
    }

-- what they hand out is no longer pending
pub length-many : (limit passed : ℕ) (c : FacilityState) (v : FacilityView) → AreTicked limit passed c v
    → length v.waiting + length v.state.pending ≡ length c.pending
length-many limit passed c v t = rw t.ticked (are_accepted c passed t.accepted).counted

-- a refused tick after accepted ones
pub AddsRun-refused : {s : FacilityState} (count : ℕ) {n : ℕ} {before outs outs' : List Out} {c c' : FacilityState} {fault : TickFault}
    → HasTicked s n before outs c → n < count → tick_refusal c ≡ Some fault → c' ≡ c → outs' ≡ outs ++ Outs.TickRefused fault ∷ []
    → AddsRun s (Events.Ticks count) before outs' c'
AddsRun-refused {s} count {n} {before} {outs} {outs'} {c} {c'} {fault} h l r e o =
    let refused : step c Tick 0 ≡ step_of_tick c (Some fault) = ap (step_of_tick c) r in
    let on = ticked_on h 1 in
    AddsRun-ticks count (n + 1) (omega (arith, h.left, ticks_left-refused c fault h.in_range r, l))
    (e ∙ ap (λ (st : StepResult). st.state) (sym refused) ∙ on.0)
    (o ∙ ap (λ (st : StepResult). outs ++ (st.outs ++ [])) (sym refused) ∙ on.1)
