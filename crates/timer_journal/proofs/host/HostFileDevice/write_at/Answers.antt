use Rattle.std.proofs.Common.{rules, refl, ap, ◌∙◌, ◌∷◌, []}
use Rattle.timer_journal.specs.Host.{Wrote, WroteInPart, are_usable}
use Rattle.timer_journal.proofs.Steps.{held_push, left_push, usable-append, no_fault, write_failed}
use Rattle.timer_journal.proofs.host.HostFileDevice.write_at.Goals as goal

pub returns-in-Ok-clause-written : goal.returns-in-Ok-clause-written
returns-in-Ok-clause-written c = held_push c.args.self.now.past.steps c.wrote.new.self.steps (Wrote c.args.at c.args.bytes.now) c.wrote.ensures

pub returns-in-Ok-clause-crash : goal.returns-in-Ok-clause-crash
returns-in-Ok-clause-crash c = λ f left. left_push c.args.self.now.past.steps c.wrote.new.self.steps (Wrote c.args.at c.args.bytes.now) c.wrote.ensures f left

pub returns-in-Ok-clause-usable : goal.returns-in-Ok-clause-usable
returns-in-Ok-clause-usable c = ap are_usable c.wrote.ensures ∙ usable-append c.args.self.now.past.steps ((Wrote c.args.at c.args.bytes.now) ∷ []) c.requires.usable

pub returns-in-Ok-clause-cause : goal.returns-in-Ok-clause-cause
returns-in-Ok-clause-cause c = no_fault _ _ _ _ c.args.self.now.past.steps c.wrote.new.self.steps (Wrote c.args.at c.args.bytes.now) refl refl c.wrote.ensures refl (λ f. absurd cc) (λ f. absurd cc)

pub returns-in-Err-clause-crash : goal.returns-in-Err-clause-crash
returns-in-Err-clause-crash c = λ f left. left_push c.args.self.now.past.steps c.wrote_in_part.new.self.steps (WroteInPart c.args.at c.args.bytes.now) c.wrote_in_part.ensures f left

pub returns-in-Err-clause-usable : goal.returns-in-Err-clause-usable
returns-in-Err-clause-usable c = ap are_usable c.wrote_in_part.ensures ∙ usable-append c.args.self.now.past.steps ((WroteInPart c.args.at c.args.bytes.now) ∷ []) c.requires.usable

-- This names no step, so that the proof fails of the step that was noted, and not of its name.
pub returns-in-Err-clause-cause : goal.returns-in-Err-clause-cause
returns-in-Err-clause-cause c = write_failed _ _ _ c.args.at c.args.bytes.now (search rules)
