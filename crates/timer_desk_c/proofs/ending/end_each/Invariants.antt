use Rattle.std.proofs.Common.{◌≡◌, ◌<◌, length}
use Rattle.std.specs.Prelude.{IfSome}
use Rattle.timer_desk_c.proofs.EndingLemmas.{IsEnding}
use Rattle.timer_desk_c.proofs.ending.end_each.Given as goal

-- the clients so far were tried, and what is left was refused
abbrev pub invariant-loop-client : goal.invariant-loop-client
invariant-loop-client g l = record {
  done : IsEnding l.lives l.client l.left l.fn.desk l.desk l.fn.lines l.lines;
  refused : IfSome l.left (λ left. 0 < left.status);
  all : l.client-end ≡ length l.fn.lines;
}
