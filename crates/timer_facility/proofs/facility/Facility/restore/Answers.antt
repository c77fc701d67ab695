use Rattle.std.proofs.Common.{◌∙◌, ap, vec_capacity}
use Rattle.timer_facility.specs.Types.{Config}
use Rattle.timer_facility.specs.Restored.{restored}
use Rattle.timer_facility.proofs.RestoredLemmas.{is_restored, facility-restored, view-restored, recorded-restored, few-restored}
use Rattle.timer_facility.proofs.facility.Facility.restore.Goals as goal

pub invariant_of-facility : goal.invariant_of-facility
invariant_of-facility g c =
    let is = is_restored c.in_ok-start_all.ensures.started c.in_ok-start_all.ensures.read c.requires.unused c.requires.now c.requires.limits
    c.config-config.ensures.config c.config-config.ensures.in_range in
    record {
      fields = rw (c.next_serial.ensures, c.is_closed.ensures)
          (facility-restored is c.numbers_of.ensures c.counts_of.ensures c.new.ensures.items (vec_capacity c.new.result));
      keeps_all = c.requires.keeps;
    }

pub returns-clause-state : goal.returns-clause-state
returns-clause-state g c =
    let is = is_restored c.in_ok-start_all.ensures.started c.in_ok-start_all.ensures.read c.requires.unused c.requires.now c.requires.limits
    c.config-config.ensures.config c.config-config.ensures.in_range in
    rw (c.next_serial.ensures, c.is_closed.ensures)
    (view-restored is c.counts_of.result c.numbers_of.ensures c.new.result.items (vec_capacity c.new.result))
    ∙ ap (λ (k : Config). restored k (g.W.Wheel.state c.args.wheel).last_tick c.args.saved.now.saved) c.config-config.ensures.config

pub returns-clause-handles : goal.returns-clause-handles
returns-clause-handles g c =
    let is = is_restored c.in_ok-start_all.ensures.started c.in_ok-start_all.ensures.read c.requires.unused c.requires.now c.requires.limits
    c.config-config.ensures.config c.config-config.ensures.in_range in
    rw (c.next_serial.ensures, c.is_closed.ensures)
    (recorded-restored is c.numbers_of.result c.counts_of.result c.new.result.items (vec_capacity c.new.result))

pub returns-clause-few : goal.returns-clause-few
returns-clause-few g c =
    let is = is_restored c.in_ok-start_all.ensures.started c.in_ok-start_all.ensures.read c.requires.unused c.requires.now c.requires.limits
    c.config-config.ensures.config c.config-config.ensures.in_range in
    few-restored is
