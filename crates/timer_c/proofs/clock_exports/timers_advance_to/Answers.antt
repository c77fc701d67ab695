use Rattle.std.proofs.Common.{subst, arith}
use Rattle.timer_total.specs.Refusals.{left_until}
use Rattle.timer_total.specs.Ticks.{IsAdvanced}
use Rattle.timer_total.specs.TimersState.{TimersState}
use Rattle.timer_c.proofs.CallLemmas.{advanced_to}
use Rattle.timer_c.specs.Calls.{counts_kept}
use Rattle.timer_c.proofs.clock_exports.timers_advance_to.Goals as goal

pub returns-in-Ok-clause-call : goal.returns-in-Ok-clause-call
returns-in-Ok-clause-call c =
    let held = c.in-Some.ensures.held in
    let advanced = subst (λ (s : TimersState). IsAdvanced counts_kept (left_until c.args.tick s) c.in-Ok.field-0 s
    c.advance_to.new.self) held.1 c.in-Ok.ensures.passed in (
      λ ok. advanced_to c.args.tick c.in-Ok.field-0 c.args.t.now c.advance_to.new.self held.0 advanced,
      λ refused. absurd (omega arith),
    )
