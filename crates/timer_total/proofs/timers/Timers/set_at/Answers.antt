use Rattle.std.proofs.Common.{◌≡◌, ℕ, inl, inr, subst, IfOk, None}
use Rattle.timer_base.specs.declared.timer.Handle.{Handle}
use Rattle.timer_base.proofs.HeldLaws.{none_removed}
use Rattle.timer_base.specs.WheelState.{WheelState, held_at}
use Rattle.timer_total.specs.declared.fault.RestartFault.{RestartFault}
use Rattle.timer_total.specs.declared.fault.RestartFault.TheVariants.{NotPending, ZeroInterval, TooLate, SerialsSpent}
use Rattle.timer_total.specs.Refusals.{interval_until, after_start_at, WhyNotRestarted}
use Rattle.timer_total.specs.TimersState.{TimersState, with_start}
use Rattle.timer_total.proofs.timers.Timers.set_at.Goals as goal

none_held : (handle : Handle) (interval : ℕ) (s : TimersState) (fault : RestartFault) → fault ≡ NotPending
    → WhyNotRestarted handle interval s fault → held_at handle s.wheel ≡ None
none_held handle interval s fault e (inl r) = r.1
none_held handle interval s fault e (inr (inl r)) = absurd (let f : fault ≡ ZeroInterval = r.0 in cc)
none_held handle interval s fault e (inr (inr (inl r))) = absurd (let f : fault ≡ TooLate = r.0 in cc)
none_held handle interval s fault e (inr (inr (inr r))) = absurd (let f : fault ≡ SerialsSpent = r.0 in cc)

-- a start where no timer was is a start where it was removed
pub returns-in-Err-NotPending-clause-set : goal.returns-in-Err-NotPending-clause-set
returns-in-Err-NotPending-clause-set g c =
    let s = c.args.self.now in
    let P : WheelState → Type 0 = λ w. IfOk c.start_at.result (λ made. c.start_at.new.self
    ≡ with_start g.W.Wheel.count_start (after_start_at made.place c.args.deadline c.args.action w s) s) in
    let Q : TimersState → Type 0 = λ u. IfOk c.start_at.result (λ made. c.start_at.new.self
    ≡ with_start g.W.Wheel.count_start (after_start_at made.place c.args.deadline c.args.action u.wheel u) u) in
    let none = none_held c.args.handle (interval_until c.args.deadline s) s c.in-Err-NotPending.field-0
    c.in-Err-NotPending.field-0-is c.in-Err-NotPending.ensures.fault in
    subst P (none_removed c.args.handle s.wheel none) (subst Q c.in-Err-NotPending.ensures.err c.start_at.ensures.started)
