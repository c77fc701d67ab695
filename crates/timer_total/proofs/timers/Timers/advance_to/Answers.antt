use Rattle.std.proofs.Common.{◌≡◌, ◌-◌, ◌<◌, ap, sym, ◌∙◌, subst, arith, min}
use Rattle.timer_base.proofs.TickLaws.{not_due}
use Rattle.timer_total.specs.TimersState.{TimersState}
use Rattle.timer_total.proofs.ClockEnds.{at_end}
use Rattle.timer_total.proofs.timers.Timers.advance_to.Goals as goal

pub returns-then-now-last-clause-fault : goal.returns-then-now-last-clause-fault
returns-then-now-last-clause-fault g c =
    let w = g.W.Wheel.state c.self.inside.wheel in
    let ends : w.now ≡ w.last_tick = sym c.now-now.ensures ∙ c.if-now-last.true ∙ c.last_tick-last.ensures in
    let P : TimersState → Type 0 = λ s. 0 < c.args.tick - s.wheel.now in (
      subst P c.self.view_is (omega (arith, c.now-now.ensures, c.if-tick-now.false)),
      at_end w c.args.self.now (ap (λ (s : TimersState). s.wheel) c.self.view_is) (g.met.W.Wheel.well_formed c.self.inside.wheel)
          (not_due w.due c.has_due.result c.has_due.ensures c.if-has_due.false) ends,
    )

pub returns-clause-passed : goal.returns-clause-passed
returns-clause-passed g c =
    let now = c.now-now.result in
    let P : TimersState → Type 0 = λ s. c.min.result - now ≡ min (c.args.tick - s.wheel.now) (s.wheel.last_tick - s.wheel.now) in
    c.pass.ensures (c.args.tick - c.args.self.now.wheel.now)
    (subst P c.self.view_is (omega (arith, c.min.ensures, c.last_tick-last.ensures, c.now-now.ensures, c.if-tick-now.false)))
