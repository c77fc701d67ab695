use Rattle.std.proofs.Common.{◌≡◌, ◌<◌, ◌≤◌, ◌+◌, ◌-◌, [], length, vec_len}
use Rattle.std.specs.Prelude.{vec_capacity}
use Rattle.timer_facility.specs.Handles.{HandleList, AreRecorded}
use Rattle.timer_facility.proofs.PlayedTicks.{HasTicked}
use Rattle.timer_facility.proofs.handing_out.pass_ticks.Given as goal

-- the ticks so far were accepted, and there is room for a notice of each timer still pending
abbrev pub invariant-loop-left : goal.invariant-loop-left
invariant-loop-left g l = record {
  few : l.left ≤ l.count;
  run : HasTicked l.initial.facility.state (l.count - l.left) l.initial.outs.items l.outs.items l.facility.state;
  waiting : l.facility.waiting ≡ [];
  room : vec_len l.outs + length l.facility.state.pending < vec_capacity l.outs;
  handles : (handles : HandleList) → AreRecorded handles l.initial.facility.state → AreRecorded handles l.facility.state;
}

abbrev pub decreases-loop-left : goal.decreases-loop-left
decreases-loop-left g l = l.left
