use Rattle.std.proofs.Common.{◌≡◌, ◌-◌, sym, arith}
use Rattle.std.specs.Prelude.{min}
use Rattle.timer_facility.proofs.FacilityFields.{idle, before_end}
use Rattle.timer_facility.proofs.TickedLemmas.{passed_now}
use Rattle.timer_facility.proofs.facility.Facility.ticks.Goals as goal

pub advance-requires-clause-nothing_due : goal.advance-requires-clause-nothing_due
advance-requires-clause-nothing_due g c = (idle c.self.invariant.fields c.self.view_is c.requires.waiting).none_due

pub advance-requires-clause-some : goal.advance-requires-clause-some
advance-requires-clause-some g c = omega (
  arith,
  c.last_tick.ensures,
  c.now.ensures,
  c.min.ensures,
  c.requires.some,
  before_end c.self.invariant.fields c.self.view_is (g.met.W.Wheel.well_formed c.self.inside.wheel) (sym c.in_default.ensures),
)

pub invariant_of-self : goal.invariant_of-self
invariant_of-self g c =
    let w = g.W.Wheel.state c.self.inside.wheel in
    let most : c.min.result ≡ min c.args.limit (w.last_tick - w.now) = omega (arith, c.last_tick.ensures, c.now.ensures, c.min.ensures) in
    record {
      fields = (passed_now c.self.invariant.fields c.self.view_is c.requires.waiting (sym c.in_default.ensures) c.args.limit most
          c.advance.ensures.advances).parts;
      keeps_all = c.self.invariant.keeps_all;
    }

pub returns-clause-ticked : goal.returns-clause-ticked
returns-clause-ticked g c =
    let w = g.W.Wheel.state c.self.inside.wheel in
    let most : c.min.result ≡ min c.args.limit (w.last_tick - w.now) = omega (arith, c.last_tick.ensures, c.now.ensures, c.min.ensures) in
    (passed_now c.self.invariant.fields c.self.view_is c.requires.waiting (sym c.in_default.ensures) c.args.limit most
    c.advance.ensures.advances).ticked
