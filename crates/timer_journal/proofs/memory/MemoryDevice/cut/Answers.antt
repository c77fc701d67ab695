use Rattle.std.proofs.Common.{List, refl, subst}
use Rattle.timer_journal.specs.Host.{left_after}
use Rattle.timer_journal.specs.Memory.{steps_of}
use Rattle.timer_journal.specs.declared.memory.Change.{Change}
use Rattle.timer_journal.specs.declared.memory.Change.TheVariants.{Shorter}
use Rattle.timer_journal.proofs.Crashes.{same_cut}
use Rattle.timer_journal.proofs.Past.{held_more, left_more, passes_more}
use Rattle.timer_journal.proofs.memory.MemoryDevice.cut.Goals as goal

pub returns-in_err-push-clause-crash : goal.returns-in_err-push-clause-crash
returns-in_err-push-clause-crash c = λ f left.
    (f, subst (λ (l : List Change). left_after (steps_of c.args.self.now.first.items l) f) c.in_err-push.ensures.items left, same_cut c.args.len f)

pub returns-clause-cut : goal.returns-clause-cut
returns-clause-cut c = held_more c.args.self.now _ (Shorter c.args.len) c.in_ok-push.ensures.items

pub returns-clause-crash : goal.returns-clause-crash
returns-clause-crash c = λ f left. left_more c.args.self.now _ (Shorter c.args.len) c.in_ok-push.ensures.items f left

pub returns-clause-time : goal.returns-clause-time
returns-clause-time c = passes_more c.args.self.now _ (Shorter c.args.len) refl c.in_ok-push.ensures.items
