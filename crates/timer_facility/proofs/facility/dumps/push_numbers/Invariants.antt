use Rattle.std.proofs.Common.{◌≡◌, ◌+◌, ◌++◌, map, take, vec_len}
use Rattle.std.specs.Prelude.{vec_capacity}
use Rattle.timer_facility.specs.declared.event.Out.TheVariants as Outs
use Rattle.timer_facility.specs.Saved.{number_lines}
use Rattle.timer_facility.proofs.facility.dumps.push_numbers.Given as goal

-- the lines so far
abbrev pub invariant-loop-client : goal.invariant-loop-client
invariant-loop-client l = record {
  items : l.outs.items ≡ l.fn.outs.items ++ map (λ line. Outs.Dumped line) (number_lines 0 (take l.client l.numbers));
  len : vec_len l.outs ≡ vec_len l.fn.outs + l.client;
  capacity : vec_capacity l.outs ≡ vec_capacity l.fn.outs;
}
