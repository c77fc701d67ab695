use Rattle.std.proofs.Common.{refl}
use Rattle.timer_journal.specs.declared.memory.Change.TheVariants.{Synced}
use Rattle.timer_journal.proofs.Past.{held_more, left_more, passes_more}
use Rattle.timer_journal.proofs.memory.MemoryDevice.sync.Goals as goal

pub returns-clause-durable : goal.returns-clause-durable
returns-clause-durable c = λ f left. (left_more c.args.self.now _ Synced c.in_ok-push.ensures.items f left).1

pub returns-clause-same : goal.returns-clause-same
returns-clause-same c = held_more c.args.self.now _ Synced c.in_ok-push.ensures.items

pub returns-clause-crash : goal.returns-clause-crash
returns-clause-crash c = λ f left. (left_more c.args.self.now _ Synced c.in_ok-push.ensures.items f left).0

pub returns-clause-time : goal.returns-clause-time
returns-clause-time c = passes_more c.args.self.now _ Synced refl c.in_ok-push.ensures.items
