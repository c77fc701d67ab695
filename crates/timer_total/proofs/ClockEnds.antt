-- Why the clock does not advance, if it is at its end.
use Rattle.std.proofs.Common.{◌≡◌, ◌<◌, ◌≤◌, ℕ, List, [], ◌∷◌, refl, sym, ◌∙◌, ap, subst, inr, arith}
use Rattle.std.specs.List.{AllByRecursion}
use Rattle.timer_base.specs.Pending.{Entry, timers_of}
use Rattle.timer_base.specs.WheelState.{WheelState, IsPending, IsWellFormed}
use Rattle.timer_total.specs.declared.fault.AdvanceFault.TheVariants as tick
use Rattle.timer_total.specs.Refusals.{WhyNotTicked}
use Rattle.timer_total.specs.TimersState.{TimersState}

-- at the last tick nothing is pending

none_later : (last_tick now last_serial : ℕ) (entries : List Entry)
    → AllByRecursion (IsPending last_tick now last_serial) (timers_of entries) → now ≡ last_tick
    → entries ≡ []
none_later last_tick now last_serial [] a e = refl
none_later last_tick now last_serial (x ∷ xs) a e =
    absurd (let l : now < x.timer.deadline = a.0.later in let r : x.timer.deadline ≤ last_tick = a.0.in_range
    in omega arith)

none_pending : (w : WheelState) → IsWellFormed w → w.now ≡ w.last_tick → w.pending ≡ []
none_pending w f h = none_later w.last_tick w.now w.last_serial w.pending f.each h

pub at_end : (w : WheelState) (s : TimersState) → w ≡ s.wheel → IsWellFormed w → w.due ≡ [] → w.now ≡ w.last_tick
    → WhyNotTicked s tick.ClockEnd
at_end w s e f d h =
    let D : WheelState → Type 0 = λ u. u.due ≡ [] in
    let N : WheelState → Type 0 = λ u. u.now ≡ u.last_tick in
    inr (refl, subst D e d, subst N e h, sym (ap (λ (u : WheelState). u.pending) e) ∙ none_pending w f h)
