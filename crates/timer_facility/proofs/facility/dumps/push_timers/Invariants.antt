use Rattle.std.proofs.Common.{◌≡◌, ◌+◌, ◌++◌, map, take, vec_len}
use Rattle.std.specs.Prelude.{vec_capacity}
use Rattle.timer_facility.specs.declared.event.Out.TheVariants as Outs
use Rattle.timer_facility.specs.Saved.{timer_lines}
use Rattle.timer_facility.proofs.facility.dumps.push_timers.Given as goal

-- the lines so far
abbrev pub invariant-loop-timer : goal.invariant-loop-timer
invariant-loop-timer l = record {
  items : l.outs.items ≡ l.fn.outs.items ++ map (λ line. Outs.Dumped line) (timer_lines (take l.timer-index l.timers));
  len : vec_len l.outs ≡ vec_len l.fn.outs + l.timer-index;
  capacity : vec_capacity l.outs ≡ vec_capacity l.fn.outs;
}
