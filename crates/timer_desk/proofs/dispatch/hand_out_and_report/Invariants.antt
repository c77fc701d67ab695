use Rattle.std.proofs.Common.{◌≡◌, ◌≤◌, ◌+◌, ◌++◌, length, map, vec_len}
use Rattle.std.specs.Prelude.{vec_capacity}
use Rattle.timer_desk.specs.declared.report.Done.TheVariants.{Noticed}
use Rattle.timer_desk.specs.Backlog.{HasRoomForNotices, with_notices}
use Rattle.timer_desk.proofs.dispatch.hand_out_and_report.Given as goal

-- handing out the rest leads to where handing out all leads
abbrev pub invariant-loop-notice : goal.invariant-loop-notice
invariant-loop-notice g l = record {
  state : l.facility.state ≡ l.fn.facility.state;
  clients : vec_len l.backlogs ≡ vec_len l.fn.backlogs;
  noted : with_notices l.facility.waiting l.backlogs.items ≡ with_notices l.fn.facility.waiting l.fn.backlogs.items;
  room : HasRoomForNotices l.backlogs.items l.facility;
  report : l.report.items ++ map Noticed l.facility.waiting ≡ l.fn.report.items ++ map Noticed l.fn.facility.waiting;
  capacity : vec_capacity l.report ≡ vec_capacity l.fn.report;
  len : vec_len l.report + length l.facility.waiting ≡ vec_len l.fn.report + length l.fn.facility.waiting;
  fits : vec_len l.report + length l.facility.waiting ≤ vec_capacity l.report;
}

abbrev pub decreases-loop-notice : goal.decreases-loop-notice
decreases-loop-notice g l = length l.facility.waiting
