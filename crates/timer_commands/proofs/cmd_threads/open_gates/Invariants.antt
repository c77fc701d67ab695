use Rattle.std.proofs.Common.{◌≡◌, ◌≤◌, vec_len, vec_capacity}
use Rattle.timer_commands.proofs.cmd_threads.open_gates.Given as goal

abbrev pub invariant-loop : goal.invariant-loop
invariant-loop l = record {
  len : vec_len l.gates ≡ l.counter;
  capacity : l.clients ≤ vec_capacity l.gates;
}
