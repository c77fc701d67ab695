use Rattle.std.proofs.Common.{refl, sym, ap, arith}
use Rattle.timer_c.specs.Calls.{state_of}
use Rattle.timer_c.proofs.CallLemmas.{none_stopped}
use Rattle.timer_c.proofs.exports.timers_stop.Goals as goal

pub returns-in-None-clause-call : goal.returns-in-None-clause-call
returns-in-None-clause-call c = (
  λ ok. absurd (omega arith),
  λ refused. ap state_of (none_stopped c.from_c_handle.result c.args.t.now c.in-Some.timers.now c.stop.new.self c.in-Some.ensures.same
      (sym c.in-None.ensures.timer) c.in-None.ensures.stopped),
)

pub returns-in-None-clause-kept : goal.returns-in-None-clause-kept
returns-in-None-clause-kept c = λ refused. (
  none_stopped c.from_c_handle.result c.args.t.now c.in-Some.timers.now c.stop.new.self c.in-Some.ensures.same
      (sym c.in-None.ensures.timer) c.in-None.ensures.stopped,
  refl,
)
