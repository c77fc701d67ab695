use Rattle.std.proofs.Common.{ap, subst, sym, arith, ◌∙◌}
use Rattle.std.proofs.lemmas.Grind.{flat_map-append, common_steps}
use Rattle.std.proofs.lemmas.List.{take_all}
use Rattle.timer_facility.specs.State.{IsSound}
use Rattle.timer_desk.specs.Desk.{DeskState, ReportHolds}
use Rattle.timer_desk.specs.Report.{step_in}
use Rattle.timer_desk.proofs.Members.{joined_reports, are_owed}
use Rattle.timer_desk.proofs.desk.Desk.turn.Goals as goal

pub loop-step-preserved : goal.loop-step-preserved
loop-step-preserved g c =
    let was = c.loop-step.invariant in
    let adds = c.step.ensures.adds in
    let split = flat_map-append step_in c.loop-step.report.items adds.more in record {
      holds = subst (λ report. ReportHolds g.I.Inlet.kind report c.args.self.now c.step.new.self) (sym adds.added)
          (joined_reports g.I.Inlet.kind c.loop-step.report.items adds.more c.args.self.now c.loop-step.self c.step.new.self was.holds
          adds.holds);
      clients = adds.holds.same_clients ∙ was.clients;
      steps = grind (arith, common_steps, split, was.steps, adds.added, adds.step);
      fits = omega (arith, was.fits, c.step.ensures.room, c.step.ensures.capacity);
    }

pub returns-clause-ok : goal.returns-clause-ok
returns-clause-ok g c =
    let was = c.loop-step.invariant in
    let sound = subst IsSound (ap (λ (d : DeskState g.row.I.Denot). d.facility) c.self.view_is) c.pending.ensures.sound in record {
      holds = was.holds;
      steps_are = was.steps ∙ take_all c.loop-step.step-index c.args.steps.now
          (let end = c.loop-step.auto.step-index-end in let test = c.loop-step-test.false in omega arith);
      owed = are_owed g.I.Inlet.kind c.loop-step.report.items c.args.self.now c.loop-step.self was.holds
          (λ placed k. c.notices_are_owed.ensures c.args.self.now.facility placed k sound);
    }
