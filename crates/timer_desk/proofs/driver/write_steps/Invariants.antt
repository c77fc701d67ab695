use Rattle.std.proofs.Common.{◌≡◌, ◌≤◌, ◌+◌, ◌*◌, ◌++◌, length, map, vec_len}
use Rattle.std.specs.Prelude.{vec_capacity}
use Rattle.std.specs.List.{filter, range_with_len}
use Rattle.timer_desk.specs.declared.report.Step.TheVariants.{Serve, Flush}
use Rattle.timer_desk.specs.Driver.{is_served}
use Rattle.timer_desk.proofs.driver.write_steps.Given as goal

abbrev pub invariant-loop-client : goal.invariant-loop-client
invariant-loop-client l = record {
  serves : l.steps.items ≡ map Serve (filter (is_served l.goal l.progress) (range_with_len 0 l.client));
  capacity : 2 * length l.progress + 1 ≤ vec_capacity l.steps;
  len : vec_len l.steps ≤ l.client;
}

abbrev pub invariant-loop-client-2 : goal.invariant-loop-client-2
invariant-loop-client-2 l = record {
  flushes : l.steps.items ≡ map Serve (filter (is_served l.goal l.progress) (range_with_len 0 (length l.progress)))
      ++ map Flush (range_with_len 0 l.client);
  capacity : 2 * length l.progress + 1 ≤ vec_capacity l.steps;
  len : vec_len l.steps ≤ length l.progress + l.client;
}
