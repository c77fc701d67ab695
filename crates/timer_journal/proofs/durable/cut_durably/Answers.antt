use Rattle.timer_journal.specs.Device.{Shortened}
use Rattle.timer_journal.proofs.Moments.{stepped, synced}
use Rattle.timer_journal.proofs.Crashes.{same_cut}
use Rattle.timer_journal.proofs.durable.cut_durably.Goals as goal

pub returns-in_err-cut-clause-any_moment : goal.returns-in_err-cut-clause-any_moment
returns-in_err-cut-clause-any_moment g c = stepped g.D.Device.moment g.D.Device.left_since g.D.Device.may_leave g.met.D.Device.begins_now c.args.device.now c.cut.new.self
    (g.D.Device.seen c.args.device.now) (Shortened c.args.len) c.requires.durable (same_cut _ _) c.cut.ensures.time c.cut.ensures.crash

pub returns-clause-any_moment : goal.returns-clause-any_moment
returns-clause-any_moment g c = synced g.D.Device.moment g.D.Device.left_since g.D.Device.may_leave g.met.D.Device.begins_now c.args.device.now c.cut.new.self
    (g.D.Device.seen c.args.device.now) (Shortened c.args.len) c.requires.durable (same_cut _ _) c.cut.ensures.time c.cut.ensures.crash
    c.sync.new.self c.sync.ensures.time c.sync.ensures.crash
