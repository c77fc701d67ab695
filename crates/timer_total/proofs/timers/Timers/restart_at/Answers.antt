use Rattle.std.proofs.Common.{rules}
use Rattle.timer_total.specs.Refusals.{interval_until, IsAt, WhyNotStarted}
use Rattle.timer_total.proofs.timers.Timers.restart_at.Goals as goal

pub returns-in-Err-clause-fault : goal.returns-in-Err-clause-fault
returns-in-Err-clause-fault g c =
    let interval = interval_until c.args.deadline c.args.self.now in
    let held : IsAt c.args.handle c.args.self.now = search rules in
    let why : WhyNotStarted interval c.args.self.now c.in-Err.fault = search rules in
    c.restart_fault.ensures c.args.handle interval c.args.self.now held why

pub returns-in-Err-admit_at-clause-fault : goal.returns-in-Err-admit_at-clause-fault
returns-in-Err-admit_at-clause-fault g c =
    let interval = interval_until c.args.deadline c.args.self.now in
    let held : IsAt c.args.handle c.args.self.now = search rules in
    let why : WhyNotStarted interval c.args.self.now c.in-Err-admit_at.fault = search rules in
    c.restart_fault-in-Err-admit_at.ensures c.args.handle interval c.args.self.now held why
