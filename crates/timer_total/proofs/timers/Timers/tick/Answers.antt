use Rattle.std.proofs.Common.{◌≡◌, sym, ◌∙◌, ap}
use Rattle.timer_base.proofs.TickLaws.{not_due}
use Rattle.timer_total.specs.TimersState.{TimersState}
use Rattle.timer_total.proofs.ClockEnds.{at_end}
use Rattle.timer_total.proofs.timers.Timers.tick.Goals as goal

pub returns-then-now-last_tick-clause-fault : goal.returns-then-now-last_tick-clause-fault
returns-then-now-last_tick-clause-fault g c =
    let w = g.W.Wheel.state c.self.inside.wheel in
    let ends : w.now ≡ w.last_tick = sym c.now.ensures ∙ c.if-now-last_tick.true ∙ c.last_tick.ensures in
    at_end w c.args.self.now (ap (λ (s : TimersState). s.wheel) c.self.view_is) (g.met.W.Wheel.well_formed c.self.inside.wheel)
    (not_due w.due c.has_due.result c.has_due.ensures c.if-has_due.false) ends
