-- Many ticks that a wheel passes at once are that many single ticks.
use Rattle.std.proofs.Common.{◌≡◌, ◌<◌, ◌≤◌, ◌+◌, ◌-◌, ℕ, zero, suc, false, List, [], ◌∷◌, ◌++◌, length, refl, sym, ◌∙◌, ap, subst, arith}
use Rattle.std.specs.Prelude.{map, drop, min, None}
use Rattle.timer_base.specs.Pending.{Entry, timers_of}
use Rattle.timer_base.proofs.TickLaws.{after_ticks-now, after_ticks-last}
use Rattle.timer_base.specs.WheelState as Wheels
use Rattle.timer_facility.specs.Types.{Notice, Expired, Returned}
use Rattle.timer_facility.specs.State.{FacilityState, Tick}
use Rattle.timer_facility.specs.Verdict.{tick_refusal}
use Rattle.timer_facility.specs.Step.{StepResult, step}
use Rattle.timer_facility.specs.Run.{history, state_after, run, notices, notices_in, outs_of}
use Rattle.timer_facility.specs.Facility.{FacilityView, Fields, view_of, IsFacility, view_after}
use Rattle.timer_facility.specs.Ticked.{ticks, AreTicked}
use Rattle.timer_facility.proofs.TimerLists.{notices_in-append}
use Rattle.timer_facility.proofs.FacilityFields.{idle, agrees, view_is, view-tick, facility-tick}
use Rattle.timer_facility.proofs.PlayedTicks.{state_after-ticks, outs_of-ticks}
use Rattle.timer_facility.proofs.VerdictLemmas.{tick_refusal-none, ticking}

-- one more tick, if nothing was handed out before it
view-more : (s : FacilityState) (n : ℕ) → notices (history s (ticks n)) ≡ []
    → view_after (step (state_after s (ticks n)) Tick 0) ≡ view_after (run s (ticks (suc n)))
view-more s n h =
    let last : StepResult = step (state_after s (ticks n)) Tick 0 in
    let outs : notices (history s (ticks (suc n))) ≡ notices_in last.outs =
    rw (outs_of-ticks n s, notices_in-append (outs_of (history s (ticks n))) last.outs, h) refl in
    view_is (sym (state_after-ticks n s)) (sym outs)

-- the fields after `n` ticks of the wheel
abbrev after : ℕ → Fields → Fields
after n p = record p { wheel = Wheels.after_ticks n p.wheel }

-- `n` ticks of the wheel are `n` single ticks
record IsStretch (p : Fields) (n : ℕ) : Type 0 where
  parts : IsFacility (after n p)
  same_view : view_of (after n p) ≡ view_after (run (view_of p).state (ticks n))

-- a moment at which nothing was handed out and the next tick is accepted
record IsBetween (p : Fields) (n : ℕ) : Type 0 where
  quiet : notices (history (view_of p).state (ticks n)) ≡ []
  unrefused : tick_refusal (view_of (after n p)).state ≡ None
  accepted : tick_refusal (state_after (view_of p).state (ticks n)) ≡ None

between : (p : Fields) (n : ℕ) → IsStretch p n → drop p.handed p.returned ≡ [] → p.is_closed ≡ false
    → p.wheel.now + n < p.wheel.last_tick → (Wheels.after_ticks n p.wheel).due ≡ [] → IsBetween p n
between p n i r c l d =
    let none : (view_of (after n p)).waiting ≡ [] = rw (d, r) refl in
    let unrefused : tick_refusal (view_of (after n p)).state ≡ None = tick_refusal-none (view_of (after n p)).state c
    (λ e. absurd (omega (arith, after_ticks-now n p.wheel, after_ticks-last n p.wheel, e, l))) in
    record {
      quiet = sym (ap (λ (v : FacilityView). v.waiting) i.same_view) ∙ none;
      unrefused = unrefused;
      accepted = sym (ap (λ (v : FacilityView). tick_refusal v.state) i.same_view) ∙ unrefused;
    }

stretch : (p : Fields) (n : ℕ) → IsFacility p → (view_of p).waiting ≡ [] → p.is_closed ≡ false
    → p.wheel.now + n ≤ p.wheel.last_tick → ((k : ℕ) → k < n → (Wheels.after_ticks k p.wheel).due ≡ []) → IsStretch p n
stretch p zero a w c l d = record { parts = a; same_view = view_is refl w }
stretch p (suc n) a w c l d =
    let r : drop p.handed p.returned ≡ [] = (idle a refl w).none_returned in
    let i : IsStretch p n = stretch p n a w c (omega arith) (λ k h. d k (omega arith)) in
    let b : IsBetween p n = between p n i r c (omega arith) (d n (omega arith)) in
    record {
      parts = facility-tick i.parts (d n (omega arith)) refl;
      same_view = view-tick i.parts refl r b.unrefused refl
          ∙ ap (λ (v : FacilityView). view_after (step v.state Tick 0)) i.same_view
          ∙ view-more (view_of p).state n b.quiet;
    }

some_wait : (xs : List Entry) (ys : List Notice) → 0 < length xs → 0 < length (map (λ t. Expired t) (timers_of xs) ++ ys)
some_wait [] ys h = absurd (omega arith)
some_wait (x ∷ xs) ys h = omega arith

-- the facility after its wheel has passed ticks
pub record IsPassed (limit passed : ℕ) (p : Fields) (s : FacilityState) (w' : Wheels.WheelState) : Type 0 where
  pub parts : IsFacility (record p { wheel = w' })
  pub ticked : AreTicked limit passed s (view_of (record p { wheel = w' }))

pub passed_now : {p : Fields} {v : FacilityView} → IsFacility p → view_of p ≡ v → v.waiting ≡ [] → tick_refusal v.state ≡ None
    → (limit : ℕ) {most passed : ℕ} → most ≡ min limit (p.wheel.last_tick - p.wheel.now)
    → {w' : Wheels.WheelState} → Wheels.Advances most passed p.wheel w' → IsPassed limit passed p v.state w'
passed_now {p} {v} a e h unrefused limit {most} {passed} m {w'} t =
    let w : (view_of p).waiting ≡ [] = ap (λ (u : FacilityView). u.waiting) e ∙ h in
    let r : drop p.handed p.returned ≡ [] = (idle a refl w).none_returned in
    let c : p.is_closed ≡ false = sym (agrees a e).closed_is ∙ (ticking v.state unrefused).is_open in
    let some : 0 < passed = t.some in
    let at_most : passed ≤ most = t.at_most in
    let all : IsStretch p passed = stretch p passed a w c (omega arith) t.quiet in
    let at : (n : ℕ) → n < passed → IsBetween p n = λ n h. between p n
    (stretch p n a w c (omega arith) (λ k g. t.quiet k (omega arith))) r c (omega arith) (t.quiet n h) in
    let here : IsPassed limit passed p (view_of p).state (Wheels.after_ticks passed p.wheel) = record {
      parts = all.parts;
      ticked = record {
        some = some;
        at_most = omega arith;
        accepted = λ n h. (at n h).accepted;
        ticked = all.same_view;
        quiet = λ n h. (at n h).quiet;
        early = λ h. some_wait (Wheels.after_ticks passed p.wheel).due (map (λ t. Returned t) (drop p.handed p.returned))
            (subst (λ (u : Wheels.WheelState). 0 < length u.due) t.ticked (t.early (omega arith)));
      };
    } in
    subst (λ (u : FacilityView). IsPassed limit passed p u.state w') e
    (subst (IsPassed limit passed p (view_of p).state) (sym t.ticked) here)
