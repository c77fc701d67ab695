use Rattle.std.proofs.Common.{ap, arith}
use Rattle.timer_wheels.specs.Types.{WheelState}
use Rattle.timer_wheels.proofs.lazy_lemmas.FilingCounts.{same_left}
use Rattle.timer_wheels.proofs.lazy.files.Files.expire.Goals as goal

pub invariant_of-self-clause-few_starts : goal.invariant_of-self-clause-few_starts
invariant_of-self-clause-few_starts g c =
    omega (arith, ap (λ (u : WheelState). u.last_serial) c.expire.ensures.rest, c.args.self.now.few_starts)

pub invariant_of-self-clause-paid : goal.invariant_of-self-clause-paid
invariant_of-self-clause-paid g c =
    let w = c.args.self.now in
    omega (arith, same_left w.files c.expire.new.self c.expire.ensures.frame.tick c.expire.ensures.lists, w.paid)
