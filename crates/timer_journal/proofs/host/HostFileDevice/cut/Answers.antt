use Rattle.std.proofs.Common.{refl, ap, ◌∙◌, ◌∷◌, []}
use Rattle.timer_journal.specs.Host.{Cut, CutInPart, are_usable}
use Rattle.timer_journal.proofs.Steps.{held_push, left_push, usable-append, no_fault, one_fault}
use Rattle.timer_journal.proofs.host.HostFileDevice.cut.Goals as goal

pub returns-in-Ok-clause-cut : goal.returns-in-Ok-clause-cut
returns-in-Ok-clause-cut c = held_push c.args.self.now.past.steps c.cut.new.self.steps (Cut c.args.len) c.cut.ensures

pub returns-in-Ok-clause-crash : goal.returns-in-Ok-clause-crash
returns-in-Ok-clause-crash c = λ f left. left_push c.args.self.now.past.steps c.cut.new.self.steps (Cut c.args.len) c.cut.ensures f left

pub returns-in-Ok-clause-usable : goal.returns-in-Ok-clause-usable
returns-in-Ok-clause-usable c = ap are_usable c.cut.ensures ∙ usable-append c.args.self.now.past.steps ((Cut c.args.len) ∷ []) c.requires.usable

pub returns-in-Ok-clause-cause : goal.returns-in-Ok-clause-cause
returns-in-Ok-clause-cause c = no_fault _ _ _ _ c.args.self.now.past.steps c.cut.new.self.steps (Cut c.args.len) refl refl c.cut.ensures refl (λ f. absurd cc) (λ f. absurd cc)

pub returns-in-Err-clause-crash : goal.returns-in-Err-clause-crash
returns-in-Err-clause-crash c = λ f left. left_push c.args.self.now.past.steps c.cut_in_part.new.self.steps (CutInPart c.args.len) c.cut_in_part.ensures f left

pub returns-in-Err-clause-usable : goal.returns-in-Err-clause-usable
returns-in-Err-clause-usable c = ap are_usable c.cut_in_part.ensures ∙ usable-append c.args.self.now.past.steps ((CutInPart c.args.len) ∷ []) c.requires.usable

pub returns-in-Err-clause-cause : goal.returns-in-Err-clause-cause
returns-in-Err-clause-cause c = one_fault _ _ _ _ c.args.self.now.past.steps c.cut_in_part.new.self.steps (CutInPart c.args.len) refl refl c.cut_in_part.ensures refl
