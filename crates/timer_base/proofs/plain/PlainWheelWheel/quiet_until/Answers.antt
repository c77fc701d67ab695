use Rattle.std.proofs.Common.{◌≡◌, ℕ, sym, ◌∙◌, ap, subst, Option}
use Rattle.timer_base.specs.PlainState.{first_after, plain_state}
use Rattle.timer_base.specs.WellFormed.{plain_state-well_formed}
use Rattle.timer_base.specs.WakeUps.{IsQuietUntil, next_deadline}
use Rattle.timer_base.proofs.PlainJumps.{first_is_next, quiet_until_next}
use Rattle.timer_base.proofs.plain.PlainWheelWheel.quiet_until.Goals as goal

pub returns-clause-exact : goal.returns-clause-exact
returns-clause-exact c =
    let s = c.args.self.now in
    c.first_deadline.ensures ∙ ap (first_after s.now) c.as_slice.ensures.value ∙ first_is_next s.now s.last_serial s.timers.items

pub returns-clause-wake_up : goal.returns-clause-wake_up
returns-clause-wake_up c =
    let s = c.args.self.now in
    let w = plain_state s.now s.last_serial s.timers.items in
    let e : c.first_deadline.result ≡ next_deadline w.pending =
    c.first_deadline.ensures ∙ ap (first_after s.now) c.as_slice.ensures.value ∙ first_is_next s.now s.last_serial s.timers.items in
    let P : Option ℕ → Type 0 = λ o. IsQuietUntil o w.now w.pending in
    subst P (sym e) (quiet_until_next w (plain_state-well_formed s.now s.last_serial s.timers.items s.now_in_range s.serial_in_range
    s.rising s.kept))
