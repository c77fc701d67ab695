use Rattle.std.proofs.Common.{arith}
use Rattle.std.specs.Prelude.{ℕ}
use Rattle.timer_facility.specs.Restored.{limits_of, IsConfigured}
use Rattle.timer_facility.specs.Savable.{IsWithin}
use Rattle.timer_facility.specs.State.{opened}
use Rattle.timer_facility.specs.declared.config.Config.{Config}
use Rattle.timer_script.specs.Types.{FacilityState}
use Rattle.timer_script.proofs.state_laws.whatever_came_a_dump_goes_on.Goals as goal

-- a facility fits into its own limits
own_limits : {config : Config} {last : ℕ} {s : FacilityState} → IsConfigured config last s → IsWithin (limits_of config last) s
own_limits c = record {
  few_clients = omega (arith, c.clients_are);
  few_timers = omega (arith, c.capacity_is);
  in_time = omega (arith, c.last_is);
}

pub returns-clause-read : goal.returns-clause-read
returns-clause-read c = λ config last layout events outs dump s after in_range tick clock small r d.
    let kept = c.each_run_leaves_a_sound_state.ensures in
    let first = kept.opened config last layout in_range tick clock in
    let savable = c.each_run_leaves_a_savable_state.ensures.run (opened config last layout) s events outs
    (c.each_run_leaves_a_savable_state.ensures.opened config last layout in_range tick) small r in
    c.no_dump_is_refused.ensures.read (limits_of config last) s after dump (kept.run (opened config last layout) s events outs first.0 r) savable
    (own_limits (kept.configured config last (opened config last layout) s events outs first.0 first.1 r)) d

pub returns-clause-goes_on : goal.returns-clause-goes_on
returns-clause-goes_on c = λ config last layout events outs dump limits s after t saved in_range tick clock small r d text same.
    let kept = c.each_run_leaves_a_sound_state.ensures in
    let first = kept.opened config last layout in_range tick clock in
    let savable = c.each_run_leaves_a_savable_state.ensures.run (opened config last layout) s events outs
    (c.each_run_leaves_a_savable_state.ensures.opened config last layout in_range tick) small r in
    c.a_dump_that_is_read_goes_on.ensures config last limits s after t dump saved (kept.run (opened config last layout) s events outs first.0 r) savable
    (kept.configured config last (opened config last layout) s events outs first.0 first.1 r) d text same
