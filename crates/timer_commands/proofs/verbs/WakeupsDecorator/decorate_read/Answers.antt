use Rattle.std.proofs.Common.{refl}
use Rattle.std.proofs.lemmas.Result.{on_ok_weaker}
use Rattle.timer_commands.specs.Wakeups.{wakeup_line}
use Rattle.timer_commands.proofs.verbs.WakeupsDecorator.decorate_read.Goals as goal

pub returns-clause-added : goal.returns-clause-added
returns-clause-added g c = on_ok_weaker c.push_wakeup.result
    (λ is. (wakeup_line c.quiet_until.result, is, (c.quiet_until.result, c.quiet_until.ensures.quiet, refl))) c.push_wakeup.ensures.text

pub returns-clause-wakeup : goal.returns-clause-wakeup
returns-clause-wakeup g c = on_ok_weaker c.push_wakeup.result
    (λ is. (c.quiet_until.result, c.quiet_until.ensures.wakes, is)) c.push_wakeup.ensures.text
