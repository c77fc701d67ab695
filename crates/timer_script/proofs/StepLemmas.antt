-- Ticks that are played in steps: a run of some ticks, and then of others, is a run of all of them.
use Rattle.std.proofs.Common.{◌≡◌, ◌<◌, ◌≤◌, ◌+◌, ◌-◌, ℕ, zero, suc, List, [], ◌∷◌, ◌++◌, refl, sym, ◌∙◌, ap, subst, arith, append-nil, append_assoc, inl, inr, ◌⊎◌, replicate, map, min, take, length, Option, Some, None, Result, Ok, Err, OnOk}
use Rattle.std.proofs.lemmas.List.{map-append, replicate-append-replicate}
use Rattle.std.proofs.lemmas.Grind.{flat_map-append}
use Rattle.std.proofs.Math.Seq.{take-append_seam}
use Rattle.timer_script.specs.Types.{TickFault, Event}
use Rattle.timer_facility.specs.declared.event.Event.TheVariants.{Ticks, TicksTo}
use Rattle.timer_facility.specs.State.{FacilityState, Tick}
use Rattle.timer_facility.specs.Verdict.{tick_refusal}
use Rattle.timer_facility.specs.Step.{step, step_of_tick}
use Rattle.timer_facility.specs.Run.{PlacedEvent, state_after}
use Rattle.timer_facility.specs.Played.{ticks_left, ArePlaced, IsRun}
use Rattle.timer_facility.proofs.PlayedTicks.{ticks_left-refused, ticks_left-accepted}
use Rattle.timer_facility.proofs.PlayedLemmas.{IsRun-join, IsRun-to}
use Rattle.timer_script.specs.Text.{out_line, lines_of}
use Rattle.timer_script.specs.ScriptRun.{AddsLines}
use Rattle.timer_script.specs.Decorator.{Decoration, IsLawful, HasGrown, HasGrownWithin, HasAnsweredWithin, HasGrownByAnswer}

-- ---- how many ticks are left

accepted : (s : FacilityState) (refusal : Option TickFault) → tick_refusal s ≡ refusal → s.now ≤ s.last → 1 ≤ ticks_left s
    → refusal ≡ None
accepted s None e i h = refl
accepted s (Some fault) e i h = let none = ticks_left-refused s fault i e in absurd (omega arith)

-- accepted ticks leave fewer
left_after : (n : ℕ) (s : FacilityState) (placed : List PlacedEvent) → map (λ p. p.event) placed ≡ replicate n Tick
    → n ≤ ticks_left s → s.now ≤ s.last
    → (n + ticks_left (state_after s placed) ≡ ticks_left s)
left_after zero s [] e h i = omega arith
left_after zero s (p ∷ placed) e h i = absurd (cc)
left_after (suc n) s [] e h i = absurd (cc)
left_after (suc n) s (p ∷ placed) e h i =
    let first : p.event ≡ Tick = cc in
    let rest : map (λ p. p.event) placed ≡ replicate n Tick = cc in
    let taken : tick_refusal s ≡ None = accepted s (tick_refusal s) refl i (omega arith) in
    let l = ticks_left-accepted s i taken in
    let after : FacilityState = (step_of_tick s None).state in
    let next : (step s p.event p.place).state ≡ after =
    ap (λ e. (step s e p.place).state) first ∙ ap (λ refusal. (step_of_tick s refusal).state) taken in
    let more = left_after n after placed rest (omega (arith, l.0)) l.1 in
    subst (λ c. suc n + ticks_left (state_after c placed) ≡ ticks_left s) (sym next) (omega (arith, l.0, more))

-- ---- ticks that join

placed_join : (s : FacilityState) (a b : ℕ) (placed : List PlacedEvent) → s.now ≤ s.last → a ≤ ticks_left s
    → ArePlaced s (Ticks a ∷ Ticks b ∷ []) placed → ArePlaced s (Ticks (a + b) ∷ []) placed
placed_join s a b placed i h p =
    let one : List PlacedEvent = p.0 in
    let m : FacilityState = state_after s one in
    let whole : min a (ticks_left s + 1) ≡ a = omega arith in
    let first : map (λ p. p.event) one ≡ replicate a Tick = p.3 ∙ ap (λ n. replicate n Tick) whole in
    let l : a + ticks_left m ≡ ticks_left s = left_after a s one first h i in
    let k : ℕ = min b (ticks_left m + 1) in
    let second : map (λ p. p.event) p.1 ≡ replicate k Tick =
    ap (map (λ p. p.event)) (p.4.2 ∙ ap (λ rest. p.4.0 ++ rest) p.4.4 ∙ append-nil p.4.0) ∙ p.4.3 in
    let count : a + k ≡ min (a + b) (ticks_left s + 1) = omega (arith, l) in (
      placed,
      [],
      sym (append-nil placed),
      rw (p.2, map-append (λ p. p.event) one p.1, first, second, replicate-append-replicate a k Tick, count),
      refl,
    )

answers_join : (A : Decoration) (d : IsLawful A) (s m t : FacilityState) (a b : ℕ) (x y : List ℕ) → s.now ≤ s.last
    → a ≤ ticks_left s → HasAnsweredWithin A s (Ticks a ∷ []) m x → HasAnsweredWithin A m (Ticks b ∷ []) t y
    → HasAnsweredWithin A s (Ticks (a + b) ∷ []) t (x ++ y)
answers_join A d s m t a b x y i h f g =
    let run = IsRun-join s m t (Ticks a ∷ []) (Ticks b ∷ []) f.outs g.outs f.runs g.runs in
    record {
      outs = f.outs ++ g.outs;
      runs = record {
        placed = run.placed;
        singles = placed_join s a b run.placed i h run.singles;
        outs_are = run.outs_are;
        after_is = run.after_is;
      };
      within = rw (flat_map-append out_line f.outs g.outs) (d.joined (lines_of f.outs) (lines_of g.outs) x y f.within g.within);
    }

-- ---- one step after another

pub grown_join : (a b c : List ℕ) → HasGrown a b → HasGrown b c → HasGrown a c
grown_join a b c f g = (f.0 ++ g.0, g.1 ∙ ap (λ w. w ++ g.0) f.1 ∙ append_assoc a f.0 g.0)

-- of the ticks of a line so many are left: either all were played, or what these still lead to, all lead to
pub record HasPlayedSteps (A : Decoration) (s : FacilityState) (count left : ℕ) (m : FacilityState) (old new : List ℕ) : Type 0 where
  pub whole : left ≡ 0 → HasGrownByAnswer A s (Ticks count ∷ []) m old new
  pub rest : 0 < left → (t : FacilityState) (text : List ℕ) → HasGrownByAnswer A m (Ticks left ∷ []) t new text
      → HasGrownByAnswer A s (Ticks count ∷ []) t old text
  pub kept : HasGrown old new

pub steps_none : (A : Decoration) (d : IsLawful A) (s : FacilityState) (count : ℕ) (text : List ℕ) → HasPlayedSteps A s count count s text text
steps_none A d s count text = record {
  whole = λ none.
      let least : 0 ≡ min count (ticks_left s + 1) = omega (arith, none) in
      let run : IsRun s (Ticks count ∷ []) [] s = record {
        placed = [];
        singles = ([], [], refl, ap (λ n. replicate n Tick) least, refl);
        outs_are = refl;
        after_is = refl;
      } in
      ([], sym (append-nil text), record { outs = []; runs = run; within = d.kept [] });
  rest = λ some t z h. h;
  kept = ([], sym (append-nil text));
}

pub steps_more : {A : Decoration} {s m : FacilityState} {count left : ℕ} {x y : List ℕ} (d : IsLawful A) (t : FacilityState) (n : ℕ)
    (z : List ℕ) → m.now ≤ m.last → 0 < left → n ≤ left → (n ≡ left) ⊎ (n ≤ ticks_left m) → HasPlayedSteps A s count left m x y
    → HasGrownByAnswer A m (Ticks n ∷ []) t y z → HasPlayedSteps A s count (left - n) t x z
steps_more {A} {s} {m} {count} {left} {x} {y} d t n z i some within accepted f g = record {
  whole = λ none.
      let all : n ≡ left = omega (arith, none) in f.rest some t z (subst (λ j. HasGrownByAnswer A m (Ticks j ∷ []) t y z) all g);
  rest = λ more u w h.
      let few : n ≤ ticks_left m = elim accepted [ inl all ↦ absurd (omega (arith, all, more)) | inr few ↦ few ] in
      let sum : n + (left - n) ≡ left = omega arith in
      f.rest some u w (subst (λ j. HasGrownByAnswer A m (Ticks j ∷ []) u y w) sum (
        g.0 ++ h.0,
        h.1 ∙ ap (λ v. v ++ h.0) g.1 ∙ append_assoc y g.0 h.0,
        answers_join A d m t u n (left - n) g.0 h.0 i few g.2 h.2,
      ));
  kept = grown_join x y z f.kept (g.0, g.1);
}

-- the answer to a step, and what is added after it
pub grown_answer : {E : Type 0} (A : Decoration) (d : IsLawful A) (result : Result Unit E) (s t : FacilityState)
    (events : List Event) (x y z : List ℕ) → AddsLines s events x y t → OnOk result (HasGrownWithin A y z)
    → OnOk result (HasGrownByAnswer A s events t x z)
grown_answer {E} A d (Err e) s t events x y z adds h = tt
grown_answer {E} A d (Ok u) s t events x y z adds h =
    let lines : List ℕ = lines_of adds.outs in (
      lines ++ h.0,
      h.1 ∙ ap (λ w. w ++ h.0) adds.lines ∙ append_assoc x lines h.0,
      record {
        outs = adds.outs;
        runs = adds.runs;
        within = subst (λ w. A.Within w (lines ++ h.0)) (append-nil lines) (d.joined lines [] lines h.0 (d.kept adds.outs) h.2);
      },
    )

-- ticks until a tick, as so many ticks
pub answered_to : {E : Type 0} (A : Decoration) (result : Result Unit E) (f s t : FacilityState) (tick now left : ℕ) (x y : List ℕ)
    → f ≡ s → now ≡ f.now → left ≡ tick - now → OnOk result (HasGrownByAnswer A s (Ticks left ∷ []) t x y)
    → OnOk result (HasGrownByAnswer A s (TicksTo tick ∷ []) t x y)
answered_to {E} A (Err e) f s t tick now left x y same at is h = tt
answered_to {E} A (Ok u) f s t tick now left x y same at is h =
    let count : left ≡ tick - s.now = is ∙ ap (λ n. tick - n) (at ∙ ap (λ (u : FacilityState). u.now) same) in
    let all : HasGrownByAnswer A s (Ticks (tick - s.now) ∷ []) t x y =
    subst (λ n. HasGrownByAnswer A s (Ticks n ∷ []) t x y) count h in
    (all.0, all.1, record { outs = all.2.outs; runs = IsRun-to tick all.2.runs; within = all.2.within })

-- the answer to an event that was played at once
pub kept_answer : {E : Type 0} (A : Decoration) (d : IsLawful A) (result : Result Unit E) (s t : FacilityState)
    (events : List Event) (x y : List ℕ) → OnOk result (AddsLines s events x y t) → OnOk result (HasGrownByAnswer A s events t x y)
kept_answer {E} A d (Err e) s t events x y h = tt
kept_answer {E} A d (Ok u) s t events x y h =
    (lines_of h.outs, h.lines, record { outs = h.outs; runs = h.runs; within = d.kept h.outs })

-- text that grew, cut back to where it was
pub cut_back : (text grown cut : List ℕ) → HasGrown text grown → cut ≡ take (length text) grown → cut ≡ text
cut_back text grown cut h e = e ∙ ap (take (length text)) h.1 ∙ take-append_seam text h.0
