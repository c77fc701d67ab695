use Rattle.std.proofs.Common.{◌≡◌, ◌≤◌, ◌+◌, ◌-◌, ◌*◌, vec_len}
use Rattle.timer_desk.specs.Desk.{clients_of}
use Rattle.timer_desk.specs.Driver.{all_left}
use Rattle.timer_desk.proofs.DriverLemmas.{IsDriving}
use Rattle.timer_desk.proofs.driver.drive.Given as goal

-- the turns so far are those of a drive, and just the last `idle` made no progress
abbrev pub invariant-loop-idle : goal.invariant-loop-idle
invariant-loop-idle g l = record {
  driving : IsDriving g.I.Inlet.kind l.goal l.limit l.fn.desk l.desk l.progress.items l.idle;
  clients : vec_len l.progress ≡ clients_of l.desk;
  within : l.idle ≤ l.limit;
}

-- a turn with progress leaves less to do, and any other brings the limit nearer
abbrev pub decreases-loop-idle : goal.decreases-loop-idle
decreases-loop-idle g l = all_left l.goal l.progress.items * (l.limit + 1) + (l.limit - l.idle)
