use Rattle.std.proofs.Common.{◌∙◌, ◌<◌, ap, sym, subst, vec_capacity}
use Rattle.timer_facility.specs.Facility.{with_nothing_waiting}
use Rattle.timer_facility.specs.State.{opened}
use Rattle.timer_facility.specs.Types.{Config}
use Rattle.timer_facility.proofs.FacilityFields.{view-open, facility-open}
use Rattle.timer_facility.proofs.facility.Facility.open.Goals as goal

pub returns : goal.returns
returns g c =
    let w = g.W.Wheel.state c.args.wheel in
    view-open w c.config-config.result c.new.result.items (vec_capacity c.new.result) c.requires.pending c.requires.due
    (c.requires.now ∙ ap (λ (k : Config). k.first_tick) (sym c.config-config.ensures.config))
    c.config-config.ensures.in_range.few_clients c.new.ensures.items
    ∙ ap (λ (k : Config). with_nothing_waiting (opened k w.last_tick w.layout)) c.config-config.ensures.config

pub invariant_of-result : goal.invariant_of-result
invariant_of-result g c =
    let k = c.config-config.result in
    record {
      fields = facility-open (g.W.Wheel.state c.args.wheel) k c.new.result.items (vec_capacity c.new.result) c.config-config.ensures.in_range
          c.requires.pending c.requires.due
          (subst (λ (d : Config). (g.W.Wheel.state c.args.wheel).last_serial < d.first_serial)
          (sym c.config-config.ensures.config) c.requires.serial) c.new.ensures.items;
      keeps_all = c.requires.keeps;
    }
