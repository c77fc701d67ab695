use Rattle.std.proofs.Common.{◌≡◌, ◌≤◌, ◌/◌, ◌%◌, ℕ, subst}
use Rattle.timer_wheels.specs.Types.{Table}
use Rattle.timer_wheels.specs.Digits.{lowest_radix}
use Rattle.timer_wheels.specs.Occupied.{bit_of}
use Rattle.timer_wheels.specs.Tables.{radices}
use Rattle.timer_wheels.proofs.lazy_lemmas.Leaps.{quiet_to}
use Rattle.timer_wheels.proofs.lazy.leaps.is_quiet_by.Goals as goal

pub returns : goal.returns
returns g c = λ yes.
    let w = c.args.files.now in
    let end = c.args.end in
    quiet_to w.files end
    (subst (λ (t : Table). end / lowest_radix (radices t) ≡ w.buckets.tick / lowest_radix (radices t)) c.requires (c.is_clear_to.ensures.within yes))
    (subst (λ (t : Table). (s : ℕ) → s ≤ end % lowest_radix (radices t) → bit_of w.occupied s ≡ 0) c.requires (c.is_clear_to.ensures.clear yes))
