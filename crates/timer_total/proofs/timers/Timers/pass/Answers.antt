use Rattle.std.proofs.Common.{◌≡◌, ◌≢◌, ◌+◌, ◌-◌, ◌<◌, ◌≤◌, ℕ, [], min, refl, ap, ◌∙◌, subst, arith, inl, inr}
use Rattle.std.proofs.lemmas.Bool.{cases_lt, ne_eqb}
use Rattle.timer_base.proofs.TickLaws.{after_ticks-now, after_ticks-last, after_ticks-serial}
use Rattle.timer_base.specs.Counts.{WheelCounts}
use Rattle.timer_base.specs.WheelState.{WheelState, after_ticks, Advances}
use Rattle.timer_total.specs.Ticks.{Passes, IsAdvanced}
use Rattle.timer_total.specs.TimersState.{TimersState, Counting, counts_of_ticks}
use Rattle.timer_total.proofs.timers.Timers.pass.Goals as goal

-- the clock is at its end if all that was left of it was passed
at_the_end : (passed : ℕ) (old new : WheelState) → new ≡ after_ticks passed old
    → passed ≡ old.last_tick - old.now
    → old.now ≤ old.last_tick → new.now ≡ new.last_tick
at_the_end passed old new t p b =
    let now : new.now ≡ old.now + passed = ap (λ (w : WheelState). w.now) t ∙ after_ticks-now passed old in
    let last : new.last_tick ≡ old.last_tick = ap (λ (w : WheelState). w.last_tick) t
    ∙ after_ticks-last passed old in
    omega arith

-- a wheel's advance by at most what is left of the clock
advanced : (most asked passed : ℕ) (old new : WheelState) → asked ≡ min most (old.last_tick - old.now) → 0 < asked
    → old.now ≤ old.last_tick → Advances asked passed old new → Passes most passed old new
advanced most asked passed old new least more b a =
    let low : passed ≤ asked = a.at_most in record {
      at_most = omega arith;
      some = λ h. a.some;
      ticked = a.ticked;
      quiet = a.quiet;
      early = λ h. elim (cases_lt passed asked) [
        | inl k ↦ inl (a.early k)
        | inr k ↦ inr (at_the_end passed old new a.ticked (omega arith) b)
      ];
    }

-- an advance passes at least one tick
counted_as : (count : Counting) (passed : ℕ) (old new : WheelState) (before after : WheelCounts) → 0 < passed
    → after ≡ count old new before → after ≡ counts_of_ticks count passed old new before
counted_as count passed old new before after some e =
    rw (ne_eqb passed 0 (let n : passed ≢ 0 = omega arith in n)) e

pub invariant_of-self : goal.invariant_of-self
invariant_of-self g c =
    let w = g.W.Wheel.state c.self.inside.wheel in let w' = g.W.Wheel.state c.advance.new.self in
    let same : w'.last_serial ≡ w.last_serial = ap (λ (u : WheelState). u.last_serial) c.advance.ensures.advances.ticked
    ∙ after_ticks-serial c.advance.result w in
    let low = c.self.invariant.serials in
    record { serials = omega arith; keeps_unowned = c.self.invariant.keeps_unowned }

pub returns : goal.returns
returns g c =
    let w = g.W.Wheel.state c.self.inside.wheel in let w' = g.W.Wheel.state c.advance.new.self in
    let passed = c.advance.result in
    let new : TimersState = record {
      wheel = w';
      counts = g.W.Wheel.counts c.advance.new.self;
      last_serial = c.self.inside.last_serial;
    } in
    let P : TimersState → Type 0 = λ s. s.wheel.due ≡ [] → c.args.ticks ≤ s.wheel.last_tick - s.wheel.now → (most : ℕ)
    → c.args.ticks ≡ min most (s.wheel.last_tick - s.wheel.now) → IsAdvanced g.W.Wheel.count_advance most passed s new in
    let some : 0 < c.args.ticks = c.requires.some in
    let in_range = (g.met.W.Wheel.well_formed c.self.inside.wheel).now_in_range in
    subst P c.self.view_is (λ none left most asked.
    let before : w.now < w.last_tick = omega arith in
    record {
      allowed = λ any. (none, before);
      passes = advanced most c.args.ticks passed w w' asked some in_range c.advance.ensures.advances;
      counted = counted_as g.W.Wheel.count_advance passed w w' (g.W.Wheel.counts c.self.inside.wheel)
          (g.W.Wheel.counts c.advance.new.self) c.advance.ensures.advances.some c.advance.ensures.counts;
      serial = refl;
    }) c.requires.nothing_due c.requires.left
