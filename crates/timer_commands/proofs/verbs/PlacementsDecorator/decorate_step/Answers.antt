use Rattle.std.proofs.Common.{[], sym, append-nil}
use Rattle.timer_commands.specs.IndentedLaws.{adds_nothing}
use Rattle.timer_commands.proofs.verbs.PlacementsDecorator.decorate_step.Goals as goal

pub returns-else-covers-clause-added : goal.returns-else-covers-clause-added
returns-else-covers-clause-added g c = ([], sym (append-nil c.args.text.now.items), adds_nothing 32)
