use Rattle.std.proofs.Common.{◌≡◌}
use Rattle.timer_desk.specs.Desk.{clients_of}
use Rattle.timer_desk_c.specs.Rounds.{HasFlushedFirst}
use Rattle.timer_desk_c.proofs.rounds.flush_each.Given as goal

-- the clients so far were flushed
abbrev pub invariant-loop-client : goal.invariant-loop-client
invariant-loop-client g l = record {
  done : HasFlushedFirst l.client l.busy l.fn.desk l.desk;
  all : l.client-end ≡ clients_of l.fn.desk;
}
