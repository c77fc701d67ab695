use Rattle.std.proofs.Common.{◌≡◌}
use Rattle.timer_journal.proofs.Moments.{called}
use Rattle.timer_journal.proofs.recovery.read_kept.Goals as goal

pub returns-in_err-bytes-clause-any_moment : goal.returns-in_err-bytes-clause-any_moment
returns-in_err-bytes-clause-any_moment g c =
    called g.D.Device.moment g.D.Device.left_since g.D.Device.may_leave g.met.D.Device.begins_now c.args.device.now c.read.new.self (λ f. f ≡ g.D.Device.seen c.args.device.now)
    c.read.ensures.time c.requires.durable (λ f now. c.requires.durable f (c.read.ensures.crash f now))

pub returns-in_err-lines-clause-any_moment : goal.returns-in_err-lines-clause-any_moment
returns-in_err-lines-clause-any_moment g c =
    called g.D.Device.moment g.D.Device.left_since g.D.Device.may_leave g.met.D.Device.begins_now c.args.device.now c.read.new.self (λ f. f ≡ g.D.Device.seen c.args.device.now)
    c.read.ensures.time c.requires.durable (λ f now. c.requires.durable f (c.read.ensures.crash f now))

pub returns-clause-any_moment : goal.returns-clause-any_moment
returns-clause-any_moment g c =
    called g.D.Device.moment g.D.Device.left_since g.D.Device.may_leave g.met.D.Device.begins_now c.args.device.now c.read.new.self (λ f. f ≡ g.D.Device.seen c.args.device.now)
    c.read.ensures.time c.requires.durable (λ f now. c.requires.durable f (c.read.ensures.crash f now))
