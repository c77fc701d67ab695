use Rattle.std.proofs.Common.{◌≡◌, ◌≤◌, ◌+◌, ◌/◌, ◌%◌, ℕ, subst, sym}
use Rattle.timer_wheels.specs.Types.{Ghosts, Table}
use Rattle.timer_wheels.specs.Digits.{lowest_radix}
-- made by tools/facts: variants in proofs
use Rattle.timer_wheels.specs.declared.table.Table.TheVariants.{Wide, Clock, Small}
use Rattle.timer_wheels.specs.declared.hier.wheels.Wheels.{Wheels}
use Rattle.timer_wheels.specs.hier.Leap.{AreNotVisitedBefore}
use Rattle.timer_wheels.specs.Occupied.{bit_of}
use Rattle.timer_wheels.specs.Tables.{radices}
use Rattle.timer_wheels.proofs.hier_lemmas.Leaps.{quiet_to}
use Rattle.timer_wheels.proofs.hier.wheels.Wheels.is_quiet_to.Goals as goal

abbrev IsWithin : {N : Type 0} {kept : Ghosts N} → Wheels N kept → ℕ → Table → Type 0
IsWithin w end t = end / lowest_radix (radices t) ≡ w.buckets.tick / lowest_radix (radices t)

abbrev IsClear : {N : Type 0} {kept : Ghosts N} → Wheels N kept → ℕ → Table → Type 0
IsClear w end t = (s : ℕ) → s ≤ end % lowest_radix (radices t) → bit_of w.occupied s ≡ 0

quiet_by : {N : Type 0} {kept : Ghosts N} (w : Wheels N kept) (end : ℕ) (t : Table) → w.table ≡ t → IsWithin w end t → IsClear w end t
    → AreNotVisitedBefore (radices w.table) w.buckets.slots w.buckets.tick (end + 1) w.buckets.links.lists
quiet_by w end t e a b = quiet_to w.hier end (subst (IsWithin w end) (sym e) a) (subst (IsClear w end) (sym e) b)

-- made by tools/facts: answers of quiet tables
pub returns-in-Wide-clause-not_before : goal.returns-in-Wide-clause-not_before
returns-in-Wide-clause-not_before g c = λ yes. quiet_by c.args.self.now c.args.end Wide c.in-Wide.is
    (c.is_clear_to.ensures.within yes) (c.is_clear_to.ensures.clear yes)

pub returns-in-Clock-clause-not_before : goal.returns-in-Clock-clause-not_before
returns-in-Clock-clause-not_before g c = λ yes. quiet_by c.args.self.now c.args.end Clock c.in-Clock.is
    (c.is_clear_to-in-Clock.ensures.within yes) (c.is_clear_to-in-Clock.ensures.clear yes)

pub returns-in-Small-clause-not_before : goal.returns-in-Small-clause-not_before
returns-in-Small-clause-not_before g c = λ yes. quiet_by c.args.self.now c.args.end Small c.in-Small.is
    (c.is_clear_to-in-Small.ensures.within yes) (c.is_clear_to-in-Small.ensures.clear yes)
