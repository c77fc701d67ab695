use Rattle.std.proofs.Common.{refl, ap, ◌∙◌, ◌∷◌, []}
use Rattle.timer_journal.specs.Host.{Refused, are_usable}
use Rattle.timer_journal.proofs.Steps.{held_push, left_push, usable-append, one_fault}
use Rattle.timer_journal.proofs.host.HostFileDevice.read.Goals as goal

pub returns-in-None-clause-same : goal.returns-in-None-clause-same
returns-in-None-clause-same c = held_push c.args.self.now.past.steps c.refused.new.self.steps Refused c.refused.ensures

pub returns-in-None-clause-crash : goal.returns-in-None-clause-crash
returns-in-None-clause-crash c = λ f left. left_push c.args.self.now.past.steps c.refused.new.self.steps Refused c.refused.ensures f left

pub returns-in-None-clause-usable : goal.returns-in-None-clause-usable
returns-in-None-clause-usable c = ap are_usable c.refused.ensures ∙ usable-append c.args.self.now.past.steps (Refused ∷ []) c.requires

pub returns-in-None-clause-cause : goal.returns-in-None-clause-cause
returns-in-None-clause-cause c = one_fault _ _ _ _ c.args.self.now.past.steps c.refused.new.self.steps Refused refl refl c.refused.ensures refl
