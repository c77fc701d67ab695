use Rattle.std.proofs.Common.{refl}
use Rattle.timer_program.proofs.command.command.Goals as goal

-- what the arguments were read as was done
pub returns-in-Ok : goal.returns-in-Ok
returns-in-Ok g c = (
  c.run_call-ending.result.0,
  c.status.ensures,
  record {
    read = c.read_arguments.result;
    called = c.read_arguments.ensures.call;
    file = c.read_arguments.ensures.file;
    state = c.read_arguments.ensures.state;
    journal = c.read_arguments.ensures.journal;
    asked = c.read_arguments.ensures.text;
    done = rw c.in-Ok.is c.run_call-ending.ensures;
  },
)

pub returns-in-Err : goal.returns-in-Err
returns-in-Err g c = (
  c.end_unplayed-ending.result,
  c.status-in-Err.ensures,
  record {
    read = c.read_arguments.result;
    called = c.read_arguments.ensures.call;
    file = c.read_arguments.ensures.file;
    state = c.read_arguments.ensures.state;
    journal = c.read_arguments.ensures.journal;
    asked = c.read_arguments.ensures.text;
    done = rw c.in-Err.is (refl, c.end_unplayed-ending.ensures);
  },
)
