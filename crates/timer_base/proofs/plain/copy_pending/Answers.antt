use Rattle.std.proofs.Common.{◌≡◌, ◌+◌, length, ap, arith, drop, sym, ◌∙◌, length-append}
use Rattle.std.specs.Prelude.{filter}
use Rattle.timer_base.specs.PlainState.{is_after}
use Rattle.timer_base.proofs.PlainSteps.{some_left}
use Rattle.timer_base.proofs.plain.copy_pending.Goals as goal

pub push_reserved-requires : goal.push_reserved-requires
push_reserved-requires c =
    let ts = c.args.timers.now in
    let left = filter (is_after c.args.tick) (drop c.loop-timer.timer-index ts) in
    let all = filter (is_after c.args.tick) ts in
    let whole : length c.loop-timer.pending.items + length left ≡ length c.args.pending.now.items + length all =
    sym (length-append c.loop-timer.pending.items left)
    ∙ (ap (λ us. length us) c.loop-timer.invariant.0 ∙ length-append c.args.pending.now.items all) in
    omega (
      arith,
      whole,
      c.requires,
      c.loop-timer.invariant.1,
      c.loop-timer.pending.ok,
      some_left c.args.tick c.loop-timer.timer-index ts _ c.loop-timer-test.true c.if-timer-tick.true,
    )
