use Rattle.std.proofs.Common.{◌≡◌, inr, refl, ◌∙◌, rules}
use Rattle.timer_journal.specs.declared.memory.Change.TheVariants.{Replaced}
use Rattle.timer_journal.proofs.Past.{held_more, left_more, passes_more}
use Rattle.timer_journal.proofs.memory.MemoryDevice.replace.Goals as goal

pub returns-clause-replaced : goal.returns-clause-replaced
returns-clause-replaced c =
    let copied : c.in_ok-bytes.bytes.items ≡ c.args.bytes.now = search rules in
    held_more c.args.self.now _ (Replaced c.in_ok-bytes.bytes) c.in_ok-push.ensures.items ∙ copied

pub returns-clause-durable : goal.returns-clause-durable
returns-clause-durable c = λ f left.
    let copied : c.in_ok-bytes.bytes.items ≡ c.args.bytes.now = search rules in
    left_more c.args.self.now _ (Replaced c.in_ok-bytes.bytes) c.in_ok-push.ensures.items f left ∙ copied

pub returns-clause-crash : goal.returns-clause-crash
returns-clause-crash c = λ f left.
    let copied : c.in_ok-bytes.bytes.items ≡ c.args.bytes.now = search rules in
    inr (left_more c.args.self.now _ (Replaced c.in_ok-bytes.bytes) c.in_ok-push.ensures.items f left ∙ copied)

pub returns-clause-time : goal.returns-clause-time
returns-clause-time c = passes_more c.args.self.now _ (Replaced c.in_ok-bytes.bytes) refl c.in_ok-push.ensures.items
