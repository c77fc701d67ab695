-- What a call did, as a call of a run.
use Rattle.std.proofs.Common.{ℕ, Bool, ◌≡◌, ◌+◌, ◌∙◌, sym, ap, subst, arith}
use Rattle.std.specs.Prelude.{None, if◌then◌else◌}
use Rattle.timer_base.proofs.HeldLaws.{none_removed}
use Rattle.timer_base.proofs.TickLaws.{after_ticks-now}
use Rattle.timer_base.specs.declared.timer.Handle.{Handle}
use Rattle.timer_base.specs.WheelState.{WheelState, held_at, after_removal}
use Rattle.timer_total.specs.Refusals.{left_until}
use Rattle.timer_total.specs.Ticks.{IsAdvanced}
use Rattle.timer_total.specs.TimersState.{TimersState, with_wheel}
use Rattle.timer_c.specs.declared.c_timers.CTimers.{CTimers}
use Rattle.timer_c.specs.Calls.{Does, advance_to, counts_kept, no_timers}
use Rattle.timer_c.specs.Frames.{IsOpen, with_timers}

-- an advance passed as many ticks as lie between the clocks before and after it
passed_by_clock : (most passed : ℕ) (old new : TimersState) → IsAdvanced counts_kept most passed old new
    → IsAdvanced counts_kept most (left_until new.wheel.now old) old new
passed_by_clock most passed old new advanced =
    let now : new.wheel.now ≡ old.wheel.now + passed =
    ap (λ (w : WheelState). w.now) advanced.passes.ticked ∙ after_ticks-now passed old.wheel in
    let ticks : passed ≡ left_until new.wheel.now old = omega arith in
    subst (λ (n : ℕ). IsAdvanced counts_kept most n old new) ticks advanced

pub advanced_to : (tick passed : ℕ) (t : CTimers) (new : TimersState) → IsOpen t
    → IsAdvanced counts_kept (left_until tick t.slot.state) passed t.slot.state new
    → Does (advance_to tick t (with_timers t new)) t (with_timers t new)
advanced_to tick passed t new is_open advanced =
    let state : Bool → TimersState → TimersState = λ is s. if is then s else no_timers t.last_serial in
    subst (λ (is : Bool). IsAdvanced counts_kept (left_until tick (state is t.slot.state))
    (left_until (state is new).wheel.now (state is t.slot.state)) (state is t.slot.state) (state is new))
    (sym is_open) (passed_by_clock (left_until tick t.slot.state) passed t.slot.state new advanced)

-- a stop that finds no timer changes nothing
pub none_stopped : (handle : Handle) (t : CTimers) (old new : TimersState) → with_timers t old ≡ t
    → held_at handle old.wheel ≡ None → new ≡ with_wheel (after_removal handle old.wheel) old → with_timers t new ≡ t
none_stopped handle t old new same none stopped =
    let kept : new ≡ old =
    stopped ∙ ap (λ (w : WheelState). with_wheel w old) (sym (none_removed handle old.wheel none)) in
    ap (with_timers t) kept ∙ same
