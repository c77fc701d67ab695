use Rattle.std.proofs.Common.{codes}
use Rattle.timer_program.proofs.OptionLemmas.{path_given}
use Rattle.timer_program.proofs.arguments.calls.parsed.Goals as goal

-- a file that is given was found, and only `serve` looks for one
pub returns-clause-state : goal.returns-clause-state
returns-clause-state g c = path_given g.S.AsStr.text c.args.arguments.now (codes "--state=") c.args.name.now c.in-Some-subcommand_of.subcommand
    c.path_of.result c.in_ok-state.state c.in-Some-subcommand_of.ensures.name c.path_of.ensures.serve c.in_ok-state.ensures.given
    c.in_ok-state.ensures.among

pub returns-clause-journal : goal.returns-clause-journal
returns-clause-journal g c = path_given g.S.AsStr.text c.args.arguments.now (codes "--journal=") c.args.name.now c.in-Some-subcommand_of.subcommand
    c.path_of-2.result c.in_ok-journal.journal c.in-Some-subcommand_of.ensures.name c.path_of-2.ensures.serve
    c.in_ok-journal.ensures.given c.in_ok-journal.ensures.among
