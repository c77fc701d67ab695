use Rattle.std.proofs.Common.{◌≡◌, ◌+◌, ◌-◌, ℕ, ap, subst, arith}
use Rattle.timer_base.specs.WheelState.{IsPassing}
use Rattle.timer_wheels.specs.Buckets.{state_of}
use Rattle.timer_wheels.specs.declared.lazy.files.FilingCounts.{FilingCounts}
use Rattle.timer_wheels.proofs.lazy_lemmas.Leaps.{passing_advances}
use Rattle.timer_wheels.proofs.lazy.files.Files.advance.Goals as goal

pub skip_to-requires-clause-ahead : goal.skip_to-requires-clause-ahead
skip_to-requires-clause-ahead g c = c.is_quiet_to.ensures c.if-is_quiet_to.true

pub returns-then-is_quiet_to-clause-advances : goal.returns-then-is_quiet_to-clause-advances
returns-then-is_quiet_to-clause-advances g c =
    let b = c.args.self.now.buckets in
    let most = c.args.most in
    let new = state_of c.skip_to.new.self.buckets in
    let n : b.tick + most - b.tick ≡ most = omega arith in
    passing_advances most (state_of b) new c.requires.some (subst (λ (x : ℕ). IsPassing x (state_of b) new) n c.skip_to.ensures.passing)

pub returns-then-is_quiet_to-clause-counted : goal.returns-then-is_quiet_to-clause-counted
returns-then-is_quiet_to-clause-counted g c =
    omega (arith, ap (λ (n : FilingCounts). n.filings) c.skip_to.ensures.counts, c.skip_to.ensures.left)
