use Rattle.std.proofs.Common.{◌≡◌, ◌≤◌, ◌-◌}
use Rattle.timer_desk_c.proofs.StoppingLemmas.{IsStopping}
use Rattle.timer_desk_c.proofs.stopping.stop_each.Given as goal

-- the client's timers at the places so far were stopped, and nothing but the facility has changed
abbrev pub invariant-loop-handle : goal.invariant-loop-handle
invariant-loop-handle l = record {
  stopping : IsStopping l.fn.client l.place l.fn.desk.facility l.desk.facility;
  only : l.desk ≡ record l.fn.desk { facility = l.desk.facility };
  place_in_range : l.place ≤ 4294967296;
}

abbrev pub decreases-loop-handle : goal.decreases-loop-handle
decreases-loop-handle l = 4294967296 - l.place
