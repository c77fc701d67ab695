use Rattle.std.proofs.Common.{◌≡◌}
use Rattle.timer_desk.specs.Desk.{clients_of}
use Rattle.timer_desk_c.specs.Rounds.{HasServedFirst}
use Rattle.timer_desk_c.proofs.rounds.serve_all.Given as goal

-- the clients so far were served
abbrev pub invariant-loop-client : goal.invariant-loop-client
invariant-loop-client g l = record {
  done : HasServedFirst l.fn.most l.client l.busy l.starved l.fn.desk l.desk;
  all : l.client-end ≡ clients_of l.fn.desk;
}
