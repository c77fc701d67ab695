use Rattle.std.proofs.Common.{◌≡◌, ◌∷◌, ◌++◌, [], List, ◌∙◌, ap, sym, subst}
use Rattle.std.specs.Prelude.{None}
use Rattle.timer_facility.specs.Types.{StateLine}
use Rattle.timer_facility.specs.Saved.{ReadState, line_fault, lines_read}
use Rattle.timer_facility.proofs.StateLines.{lines_after, next_number, next_timer, next_end, read-number, read-timer, lines-number, lines-timer, lines-end}
use Rattle.timer_facility.proofs.saved.SavedState.push.Goals as goal

-- no fault of the line, as one of its kind
as_one : {r s : ReadState} {line kind : StateLine} → r ≡ s → line ≡ kind → line_fault s line ≡ None → line_fault r kind ≡ None
as_one {r} {s} {line} e f h = subst (λ (l : StateLine). line_fault r l ≡ None) f (subst (λ (u : ReadState). line_fault u line ≡ None) (sym e) h)

-- the lines with the one of this kind, as those with the line
as_line : {r s : ReadState} {line kind : StateLine} {lines : List StateLine} → r ≡ s → line ≡ kind → lines ≡ lines_read r ++ kind ∷ []
    → lines ≡ lines_read s ++ line ∷ []
as_line {s = s} {kind = kind} {lines = lines} e f h = subst (λ (l : StateLine). lines ≡ lines_read s ++ l ∷ []) (sym f) (lines_after kind e h)

pub invariant_of-self : goal.invariant_of-self
invariant_of-self c = rw c.in_ok-push-in-Number.ensures.items (read-number c.self.invariant
    (next_number _ c.in-Number.client c.in-Number.next (as_one c.self.view_is c.in-Number.is c.requires)))

pub invariant_of-self-in-Pending : goal.invariant_of-self-in-Pending
invariant_of-self-in-Pending c = rw c.in_ok-push-in-Pending.ensures.items (read-timer c.self-in-Pending.invariant
    (next_timer _ c.in-Pending.timer (as_one c.self-in-Pending.view_is c.in-Pending.is c.requires)))

pub returns-in-Open-clause-ok : goal.returns-in-Open-clause-ok
returns-in-Open-clause-ok c = c.begin.ensures.line ∙ ap (λ (l : StateLine). lines_read c.args.self.now ++ l ∷ []) (sym c.in-Open.is)

pub returns-in-Closed-clause-ok : goal.returns-in-Closed-clause-ok
returns-in-Closed-clause-ok c =
    c.begin-in-Closed.ensures.line ∙ ap (λ (l : StateLine). lines_read c.args.self.now ++ l ∷ []) (sym c.in-Closed.is)

pub returns-in_ok-push-in-Number-clause-ok : goal.returns-in_ok-push-in-Number-clause-ok
returns-in_ok-push-in-Number-clause-ok c = as_line c.self.view_is c.in-Number.is (rw c.in_ok-push-in-Number.ensures.items (lines-number
    (next_number _ c.in-Number.client c.in-Number.next (as_one c.self.view_is c.in-Number.is c.requires))))

pub returns-in_ok-push-in-Pending-clause-ok : goal.returns-in_ok-push-in-Pending-clause-ok
returns-in_ok-push-in-Pending-clause-ok c = as_line c.self-in-Pending.view_is c.in-Pending.is
    (rw c.in_ok-push-in-Pending.ensures.items (lines-timer
    (next_timer _ c.in-Pending.timer (as_one c.self-in-Pending.view_is c.in-Pending.is c.requires))))

pub returns-in-End-clause-ok : goal.returns-in-End-clause-ok
returns-in-End-clause-ok c = as_line c.self-in-End.view_is c.in-End.is
    (lines-end (next_end _ c.in-End.pending (as_one c.self-in-End.view_is c.in-End.is c.requires)))

pub returns-in-Open-clause-read : goal.returns-in-Open-clause-read
returns-in-Open-clause-read c = c.begin.ensures.read

pub returns-in-Closed-clause-read : goal.returns-in-Closed-clause-read
returns-in-Closed-clause-read c = c.begin-in-Closed.ensures.read

pub returns-in_ok-push-in-Number-clause-read : goal.returns-in_ok-push-in-Number-clause-read
returns-in_ok-push-in-Number-clause-read c = rw c.in_ok-push-in-Number.ensures.items (read-number c.self.invariant
    (next_number _ c.in-Number.client c.in-Number.next (as_one c.self.view_is c.in-Number.is c.requires)))

pub returns-in_ok-push-in-Pending-clause-read : goal.returns-in_ok-push-in-Pending-clause-read
returns-in_ok-push-in-Pending-clause-read c = rw c.in_ok-push-in-Pending.ensures.items (read-timer c.self-in-Pending.invariant
    (next_timer _ c.in-Pending.timer (as_one c.self-in-Pending.view_is c.in-Pending.is c.requires)))
