use Rattle.std.proofs.Common.{◌≡◌, ℕ, List, length, refl, ◌∙◌, ap, subst, rules}
use Rattle.timer_journal.specs.Device.{overwritten, Torn}
use Rattle.timer_journal.specs.Host.{held_after}
use Rattle.timer_journal.specs.Memory.{steps_of}
use Rattle.timer_journal.specs.declared.memory.Change.TheVariants.{Written}
use Rattle.timer_journal.proofs.Past.{held_more, left_more, passes_more}
use Rattle.timer_journal.proofs.memory.MemoryDevice.write_at.Goals as goal

pub returns-clause-written : goal.returns-clause-written
returns-clause-written c =
    let file = c.args.self.now in
    let copied : c.in_ok-bytes.bytes.items ≡ c.args.bytes.now = search rules in
    held_more file _ (Written c.args.at c.in_ok-bytes.bytes) c.in_ok-push.ensures.items
    ∙ ap (overwritten (held_after (steps_of file.first.items file.changes.items)) c.args.at) copied

pub returns-clause-crash : goal.returns-clause-crash
returns-clause-crash c = λ f left.
    let copied : c.in_ok-bytes.bytes.items ≡ c.args.bytes.now = search rules in
    let was = left_more c.args.self.now _ (Written c.args.at c.in_ok-bytes.bytes) c.in_ok-push.ensures.items f left in
    (was.0, was.1, subst (λ (l : List ℕ). Torn c.args.at (length l) was.0 f) copied was.2)

pub returns-clause-time : goal.returns-clause-time
returns-clause-time c = passes_more c.args.self.now _ (Written c.args.at c.in_ok-bytes.bytes) refl c.in_ok-push.ensures.items
