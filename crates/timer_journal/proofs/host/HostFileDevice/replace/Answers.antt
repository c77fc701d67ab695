use Rattle.std.proofs.Common.{inl, inr, refl}
use Rattle.timer_journal.specs.Host.{Replaced, RenameFailed, NotReplaced}
use Rattle.timer_journal.proofs.Steps.{held_push, left_push, no_fault, one_fault}
use Rattle.timer_journal.proofs.host.HostFileDevice.replace.Goals as goal

pub returns-in-Err-clause-crash : goal.returns-in-Err-clause-crash
returns-in-Err-clause-crash c = λ f left. inl (left_push c.args.self.now.past.steps c.not_replaced.new.self.steps NotReplaced c.not_replaced.ensures f left)

pub returns-in-Err-clause-cause : goal.returns-in-Err-clause-cause
returns-in-Err-clause-cause c = one_fault _ _ _ _ c.args.self.now.past.steps c.not_replaced.new.self.steps NotReplaced refl refl c.not_replaced.ensures refl

pub returns-in-Ok-rename_over-clause-replaced : goal.returns-in-Ok-rename_over-clause-replaced
returns-in-Ok-rename_over-clause-replaced c = held_push c.args.self.now.past.steps c.replaced.new.self.steps (Replaced c.args.bytes.now) c.replaced.ensures

pub returns-in-Ok-rename_over-clause-durable : goal.returns-in-Ok-rename_over-clause-durable
returns-in-Ok-rename_over-clause-durable c = λ f left. left_push c.args.self.now.past.steps c.replaced.new.self.steps (Replaced c.args.bytes.now) c.replaced.ensures f left

pub returns-in-Ok-rename_over-clause-crash : goal.returns-in-Ok-rename_over-clause-crash
returns-in-Ok-rename_over-clause-crash c = λ f left. inr (left_push c.args.self.now.past.steps c.replaced.new.self.steps (Replaced c.args.bytes.now) c.replaced.ensures f left)

pub returns-in-Ok-rename_over-clause-cause : goal.returns-in-Ok-rename_over-clause-cause
returns-in-Ok-rename_over-clause-cause c = no_fault _ _ _ _ c.args.self.now.past.steps c.replaced.new.self.steps (Replaced c.args.bytes.now) refl refl c.replaced.ensures refl (λ f. absurd cc) (λ f. absurd cc)

pub returns-in-Err-rename_over-clause-crash : goal.returns-in-Err-rename_over-clause-crash
returns-in-Err-rename_over-clause-crash c = λ f left. left_push c.args.self.now.past.steps c.rename_failed.new.self.steps (RenameFailed c.args.bytes.now) c.rename_failed.ensures f left

pub returns-in-Err-rename_over-clause-cause : goal.returns-in-Err-rename_over-clause-cause
returns-in-Err-rename_over-clause-cause c = one_fault _ _ _ _ c.args.self.now.past.steps c.rename_failed.new.self.steps (RenameFailed c.args.bytes.now) refl refl c.rename_failed.ensures refl
