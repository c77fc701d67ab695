use Rattle.std.proofs.Common.{◌∙◌, ap, sym, subst}
use Rattle.timer_total.specs.TimersState.{TimersState}
use Rattle.timer_wheels.specs.HeldPlaces.{IsAlone}
use Rattle.timer_c.specs.Outcomes.{base_handle}
use Rattle.timer_c.specs.declared.layout.CHandle.{CHandle}
use Rattle.timer_c.proofs.read_exports.timers_each.Goals as goal

pub returns-clause-alone : goal.returns-clause-alone
returns-clause-alone c = λ yes.
    let wheel = c.wheel.ensures.state ∙ ap (λ (s : TimersState). s.wheel) c.in-Some.ensures.held.1 in
    subst (λ (handle : CHandle). IsAlone (base_handle handle) c.args.t.now.held.slot.state.wheel) (sym c.to_c_handle.ensures)
    (subst (IsAlone c.in-Some-held_from.found) wheel c.in-Some-held_from.ensures.alone)
