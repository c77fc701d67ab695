use Rattle.std.proofs.Common.{◌≡◌, sym, ◌∙◌, Some, None}
use Rattle.timer_base.specs.PlainState.{first_after}
use Rattle.timer_base.proofs.PlainJumps.{jump-none, jump-some, first_is_next}
use Rattle.timer_base.proofs.PlainSteps.{all_after, none_of_them}
use Rattle.timer_base.proofs.plain.PlainWheel.ticks_ahead.Goals as goal

pub returns-in-Some : goal.returns-in-Some
returns-in-Some c =
    let s = c.args.self.now in
    let first : first_after s.now s.timers.items ≡ Some c.in-Some.deadline =
    first_is_next s.now s.last_serial s.timers.items ∙ sym c.in-Some.ensures.exact in
    jump-some s.now c.args.most c.min.result c.in-Some.deadline s.timers.items c.requires.some
    (all_after s.now s.last_serial s.timers.items s.kept (none_of_them s.now s.last_serial s.timers.items c.requires.nothing_due))
    first c.in-Some.ensures.wake_up.later c.min.ensures

pub returns-in-None : goal.returns-in-None
returns-in-None c =
    let s = c.args.self.now in
    let first : first_after s.now s.timers.items ≡ None = first_is_next s.now s.last_serial s.timers.items ∙ sym c.in-None.ensures.exact in
    jump-none s.now c.args.most s.timers.items c.requires.some
    (all_after s.now s.last_serial s.timers.items s.kept (none_of_them s.now s.last_serial s.timers.items c.requires.nothing_due)) first
