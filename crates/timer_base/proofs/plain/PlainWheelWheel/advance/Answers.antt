use Rattle.std.proofs.Common.{◌≡◌, ◌+◌, ◌-◌, ℕ, ◌∙◌, ap, refl, subst, sym}
use Rattle.timer_base.specs.WheelState.{WheelState, Advances, after_tick, with_room}
use Rattle.timer_base.specs.PlainState.{plain_state}
use Rattle.timer_base.proofs.TickLaws.{advances-with_room}
use Rattle.timer_base.proofs.PlainJumps.{jumped, due_skipped, state_skipped}
use Rattle.timer_base.proofs.PlainSteps.{none_of_them}
use Rattle.timer_base.proofs.plain.PlainWheelWheel.advance.Goals as goal

pub per_tick-requires-clause-nothing_due : goal.per_tick-requires-clause-nothing_due
per_tick-requires-clause-nothing_due c =
    let s = c.args.self.now in
    let n = c.skip.new.self in
    due_skipped s.now n.now (c.ticks_ahead-passed.result - 1) s.last_serial n.last_serial s.timers.items n.timers.items
    c.skip.ensures.now c.skip.ensures.timers c.ticks_ahead-passed.ensures.quiet

pub returns-clause-advances : goal.returns-clause-advances
returns-clause-advances c =
    let s = c.args.self.now in
    let n = c.skip.new.self in
    let ticks : ℕ = c.ticks_ahead-passed.result - 1 in
    let old : WheelState = with_room s.room (plain_state s.now s.last_serial s.timers.items) in
    let skipped : plain_state n.now n.last_serial n.timers.items ≡ plain_state (s.now + ticks) s.last_serial s.timers.items =
    state_skipped s.now n.now ticks s.last_serial n.last_serial s.timers.items n.timers.items
    c.skip.ensures.now c.skip.ensures.last_serial c.skip.ensures.timers in
    let room = ap (λ (r : ℕ). after_tick (with_room r (plain_state n.now n.last_serial n.timers.items))) c.skip.ensures.room in
    let ticked = c.per_tick.ensures.ticked ∙ (room ∙ ap (λ (w : WheelState). after_tick (with_room s.room w)) skipped) in
    let P : WheelState → Type 0 = Advances c.args.most c.ticks_ahead-passed.result old in
    subst P (sym ticked) (advances-with_room _ _ s.room _ _
    (jumped s.now s.last_serial c.args.most c.ticks_ahead-passed.result s.timers.items _ c.ticks_ahead-passed.ensures
    (none_of_them s.now s.last_serial s.timers.items c.requires.nothing_due) s.kept s.rising refl))
