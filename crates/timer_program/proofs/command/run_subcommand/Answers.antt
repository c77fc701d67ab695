use Rattle.timer_program.proofs.command.run_subcommand.Goals as goal

-- the channels after the subcommand, before an error of it is reported
pub returns-in-Run : goal.returns-in-Run
returns-in-Run g c = rw c.in-Run.is (
  record { streams = c.run_verb-ended.new.streams; faults = c.run_verb-ended.new.faults },
  c.run_verb-ended.result,
  c.run_verb-ended.ensures,
  c.end_call.ensures,
)

pub returns-in-Check : goal.returns-in-Check
returns-in-Check g c = rw c.in-Check.is (c.check_script-ended.new.streams, c.check_script-ended.result, c.check_script-ended.ensures, c.end_call-in-Check.ensures)
