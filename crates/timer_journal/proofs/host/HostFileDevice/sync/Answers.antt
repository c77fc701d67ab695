use Rattle.std.proofs.Common.{refl}
use Rattle.timer_journal.specs.Host.{LostSync, Synced}
use Rattle.timer_journal.proofs.Steps.{held_push, left_push, no_fault, one_fault}
use Rattle.timer_journal.proofs.host.HostFileDevice.sync.Goals as goal

pub returns-in-Ok-clause-durable : goal.returns-in-Ok-clause-durable
returns-in-Ok-clause-durable c = λ f left. (left_push c.args.self.now.past.steps c.synced.new.self.steps Synced c.synced.ensures f left).1

pub returns-in-Ok-clause-same : goal.returns-in-Ok-clause-same
returns-in-Ok-clause-same c = held_push c.args.self.now.past.steps c.synced.new.self.steps Synced c.synced.ensures

pub returns-in-Ok-clause-crash : goal.returns-in-Ok-clause-crash
returns-in-Ok-clause-crash c = λ f left. (left_push c.args.self.now.past.steps c.synced.new.self.steps Synced c.synced.ensures f left).0

pub returns-in-Ok-clause-cause : goal.returns-in-Ok-clause-cause
returns-in-Ok-clause-cause c = no_fault _ _ _ _ c.args.self.now.past.steps c.synced.new.self.steps Synced refl refl c.synced.ensures refl (λ f. absurd cc) (λ f. absurd cc)

pub returns-in-Err-clause-same : goal.returns-in-Err-clause-same
returns-in-Err-clause-same c = held_push c.args.self.now.past.steps c.lost_sync.new.self.steps LostSync c.lost_sync.ensures

pub returns-in-Err-clause-crash : goal.returns-in-Err-clause-crash
returns-in-Err-clause-crash c = λ f left. left_push c.args.self.now.past.steps c.lost_sync.new.self.steps LostSync c.lost_sync.ensures f left

pub returns-in-Err-clause-cause : goal.returns-in-Err-clause-cause
returns-in-Err-clause-cause c = one_fault _ _ _ _ c.args.self.now.past.steps c.lost_sync.new.self.steps LostSync refl refl c.lost_sync.ensures refl
