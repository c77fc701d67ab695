use Rattle.std.proofs.Common.{◌≡◌, sym, subst, rules}
use Rattle.timer_base.proofs.HeldLaws.{none_removed}
use Rattle.timer_base.specs.WheelState.{WheelState}
use Rattle.timer_c.specs.Calls.{c_counters}
use Rattle.timer_c.specs.Outcomes.{base_handle}
use Rattle.timer_c.specs.declared.layout.CHandle.{CHandle}
use Rattle.timer_runs.specs.Runs.{IsCall, SetAt}
use Rattle.timer_total.specs.Refusals.{after_start_at}
use Rattle.timer_total.specs.TimersState.{with_start}
use Rattle.timer_wheels.specs.hier.HierWheel.{with_counted_start}
use Rattle.timer_c.proofs.ways.set_new.Goals as goal

-- a start where no timer was is a start where it was removed
pub returns-in-Ok : goal.returns-in-Ok
returns-in-Ok c = record {
  made = λ ok.
      let old = c.args.timers.now in let handle = base_handle c.args.handle.now in let made = c.in-Ok.made in
      let set = subst (λ (w : WheelState). c.start_at-started.new.self ≡ with_start with_counted_start
      (after_start_at made.place c.args.deadline c.args.action w old) old)
      (none_removed handle old.wheel c.requires) c.in-Ok.ensures.started in
      subst (λ (h : CHandle). IsCall c_counters (SetAt handle c.args.deadline c.args.action (base_handle h)) old c.start_at-started.new.self)
      (sym c.to_c_handle.ensures) (c.in-Ok.ensures.in_order, c.in-Ok.ensures.named, set);
  refused = search rules;
  kept = search rules;
}
