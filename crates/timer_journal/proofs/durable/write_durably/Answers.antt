use Rattle.std.proofs.Common.{length}
use Rattle.timer_journal.specs.Device.{Torn}
use Rattle.timer_journal.proofs.Moments.{stepped, synced}
use Rattle.timer_journal.proofs.Crashes.{same_write}
use Rattle.timer_journal.proofs.durable.write_durably.Goals as goal

pub returns-in_err-write_at-clause-any_moment : goal.returns-in_err-write_at-clause-any_moment
returns-in_err-write_at-clause-any_moment g c = stepped g.D.Device.moment g.D.Device.left_since g.D.Device.may_leave g.met.D.Device.begins_now c.args.device.now c.write_at.new.self
    (g.D.Device.seen c.args.device.now) (Torn c.args.at (length c.args.bytes.now)) c.requires.durable (same_write _ _ _) c.write_at.ensures.time c.write_at.ensures.crash

pub returns-clause-any_moment : goal.returns-clause-any_moment
returns-clause-any_moment g c = synced g.D.Device.moment g.D.Device.left_since g.D.Device.may_leave g.met.D.Device.begins_now c.args.device.now c.write_at.new.self
    (g.D.Device.seen c.args.device.now) (Torn c.args.at (length c.args.bytes.now)) c.requires.durable (same_write _ _ _) c.write_at.ensures.time c.write_at.ensures.crash
    c.sync.new.self c.sync.ensures.time c.sync.ensures.crash
