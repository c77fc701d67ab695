use Rattle.std.proofs.Common.{◌≡◌, ◌≤◌, vec_len}
use Rattle.std.specs.Prelude.{replicate, vec_capacity}
use Rattle.timer_desk.specs.Backlog.{empty_backlog}
use Rattle.timer_desk.proofs.constructor.empty_backlogs.Given as goal

abbrev pub invariant-loop : goal.invariant-loop
invariant-loop l = record {
  made : l.backlogs.items ≡ replicate l.counter (empty_backlog l.room);
  len : vec_len l.backlogs ≡ l.counter;
  capacity : l.clients ≤ vec_capacity l.backlogs;
}
