use Rattle.timer_desk_c.proofs.RoundLemmas.{IsServing}
use Rattle.timer_desk_c.proofs.rounds.serve_up_to.Given as goal

-- each serve so far did a request
abbrev pub invariant-loop : goal.invariant-loop
invariant-loop g l = record {
  serving : IsServing l.fn.client l.counter l.busy l.fn.desk l.desk;
}
