use Rattle.std.proofs.Common.{[], sym, append-nil}
use Rattle.timer_script.proofs.decorator.Decorator.decorate_step.Goals as goal

-- nothing is added
pub returns-clause-added : goal.returns-clause-added
returns-clause-added g c = ([], sym (append-nil c.args._text.now.items), (g.met.Self.Decorator.is_lawful c.args.self.now).kept [])
