use Rattle.std.proofs.Common.{◌≡◌, ◌≤◌, ◌+◌, ◌-◌, ◌*◌, length, take, vec_len}
use Rattle.std.specs.Prelude.{vec_capacity}
use Rattle.timer_desk.specs.Desk.{clients_of, ReportHolds}
use Rattle.timer_desk.specs.Report.{steps_of}
use Rattle.timer_desk.proofs.desk.Desk.turn.Given as goal

-- the report so far is that of the steps so far, and has room for the rest
abbrev pub invariant-loop-step : goal.invariant-loop-step
invariant-loop-step g l = record {
  holds : ReportHolds g.I.Inlet.kind l.report.items l.fn.self l.self;
  clients : clients_of l.self ≡ clients_of l.fn.self;
  steps : steps_of l.report.items ≡ take l.step-index l.steps;
  fits : vec_len l.report + length l.self.facility.pending + 2 * (length l.steps - l.step-index) ≤ vec_capacity l.report;
}
