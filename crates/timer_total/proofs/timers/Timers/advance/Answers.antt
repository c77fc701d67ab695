use Rattle.std.proofs.Common.{◌≡◌, ◌-◌, ◌<◌, ap, subst, arith, min}
use Rattle.timer_base.proofs.TickLaws.{not_due}
use Rattle.timer_total.specs.TimersState.{TimersState}
use Rattle.timer_total.proofs.ClockEnds.{at_end}
use Rattle.timer_total.proofs.timers.Timers.advance.Goals as goal

pub returns-then-left-eq0-clause-fault : goal.returns-then-left-eq0-clause-fault
returns-then-left-eq0-clause-fault g c =
    let w = g.W.Wheel.state c.self.inside.wheel in
    let f = g.met.W.Wheel.well_formed c.self.inside.wheel in
    let in_range = f.now_in_range in
    let left = c.if-left-eq0.true in
    let told_last = c.last_tick.ensures in
    let told_now = c.now.ensures in
    let asks = c.if-most-eq0.false in
    let ends : w.now ≡ w.last_tick = omega arith in
    let some : 0 < c.args.most = omega arith in (
      some,
      at_end w c.args.self.now (ap (λ (s : TimersState). s.wheel) c.self.view_is) f
          (not_due w.due c.has_due.result c.has_due.ensures c.if-has_due.false) ends,
    )

pub returns-clause-passed : goal.returns-clause-passed
returns-clause-passed g c =
    let P : TimersState → Type 0 = λ s. c.min.result ≡ min c.args.most (s.wheel.last_tick - s.wheel.now) in
    c.pass.ensures c.args.most (subst P c.self.view_is (omega (arith, c.min.ensures, c.last_tick.ensures, c.now.ensures)))
