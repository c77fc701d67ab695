use Rattle.std.proofs.Common.{◌≡◌}
use Rattle.timer_desk.specs.Desk.{clients_of}
use Rattle.timer_desk_c.proofs.RoundLemmas.{IsDropping}
use Rattle.timer_desk_c.proofs.rounds.drop_each.Given as goal

-- the clients so far were looked at, and the clients are the same
abbrev pub invariant-loop-client : goal.invariant-loop-client
invariant-loop-client g l = record {
  done : IsDropping l.client l.dropped l.fn.desk l.desk;
  all : l.client-end ≡ clients_of l.fn.desk;
}
