use Rattle.std.proofs.Common.{◌≡◌, sym, subst}
use Rattle.std.specs.Prelude.{None}
use Rattle.timer_facility.specs.Saved.{ReadState, head_fault}
use Rattle.timer_facility.proofs.StateLines.{lines_after, next_head, read-head, lines-head}
use Rattle.timer_facility.proofs.saved.SavedState.begin.Goals as goal

pub invariant_of-self : goal.invariant_of-self
invariant_of-self c = read-head c.args.is_closed c.self.invariant (next_head _ c.args.now c.args.next_serial
    (subst (λ (r : ReadState). head_fault r c.args.now c.args.next_serial ≡ None) (sym c.self.view_is) c.requires))

pub returns-clause-line : goal.returns-clause-line
returns-clause-line c = lines_after _ c.self.view_is (lines-head c.args.is_closed c.self.invariant (next_head _ c.args.now c.args.next_serial
    (subst (λ (r : ReadState). head_fault r c.args.now c.args.next_serial ≡ None) (sym c.self.view_is) c.requires)))

pub returns-clause-read : goal.returns-clause-read
returns-clause-read c = read-head c.args.is_closed c.self.invariant (next_head _ c.args.now c.args.next_serial
    (subst (λ (r : ReadState). head_fault r c.args.now c.args.next_serial ≡ None) (sym c.self.view_is) c.requires))
