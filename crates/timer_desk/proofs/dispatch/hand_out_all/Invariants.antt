use Rattle.std.proofs.Common.{◌≡◌, length, vec_len}
use Rattle.timer_desk.specs.Backlog.{HasRoomForNotices, with_notices}
use Rattle.timer_desk.proofs.dispatch.hand_out_all.Given as goal

-- handing out the rest leads to where handing out all leads
abbrev pub invariant-loop : goal.invariant-loop
invariant-loop g l = record {
  state : l.facility.state ≡ l.fn.facility.state;
  clients : vec_len l.backlogs ≡ vec_len l.fn.backlogs;
  noted : with_notices l.facility.waiting l.backlogs.items ≡ with_notices l.fn.facility.waiting l.fn.backlogs.items;
  room : HasRoomForNotices l.backlogs.items l.facility;
}

abbrev pub decreases-loop : goal.decreases-loop
decreases-loop g l = length l.facility.waiting
