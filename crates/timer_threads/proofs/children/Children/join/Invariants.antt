use Rattle.std.proofs.Common.{◌+◌, ◌≤◌, vec_len}
use Rattle.std.specs.Prelude.{vec_capacity}
use Rattle.timer_threads.proofs.ThreadLemmas.{LeadsTo}
use Rattle.timer_threads.proofs.children.Children.join.Given as goal

-- there is room for what the threads that are left will leave
abbrev pub invariant-loop-child : goal.invariant-loop-child
invariant-loop-child g l = record {
  leads : LeadsTo l.fn.self.threads.items l.rest.rest.items l.left.items;
  room : l.rest.rest.len + vec_len l.left ≤ vec_capacity l.left;
}

abbrev pub decreases-loop-child : goal.decreases-loop-child
decreases-loop-child g l = l.rest.rest.len
