use Rattle.std.proofs.Common.{◌≡◌, ◌++◌, ◌∷◌, [], ◌-◌, ℕ, List, codes, sym, ◌∙◌, ap, subst, append_assoc, Result, Ok, Err, OnOk}
use Rattle.timer_facility.specs.declared.saved.StateLine.{StateLine}
use Rattle.timer_script.specs.Text.{numbers, state_line}
use Rattle.timer_script.proofs.text.push_state_line.Goals as goal

on_ok : {T E P Q : Type 0} (result : Result T E) → (P → Q) → OnOk result P → OnOk result Q
on_ok (Ok x) f h = f h
on_ok (Err e) f h = h

-- a line after a text
as_one : (before word rest end : List ℕ) → ((before ++ word) ++ rest) ++ end ≡ before ++ ((word ++ rest) ++ end)
as_one before word rest end = append_assoc (before ++ word) rest end ∙ append_assoc before word (rest ++ end)
    ∙ ap (λ bytes. before ++ bytes) (sym (append_assoc word rest end))

pub returns-in-Open-clause-text : goal.returns-in-Open-clause-text
returns-in-Open-clause-text c =
    let before : List ℕ = c.args.text.now.items in
    let said : ℕ → List ℕ = λ used. numbers (c.in-Open.now ∷ used ∷ []) in
    subst (λ (line : StateLine). OnOk c.push_line.result (c.push_line.new.out.items ≡ before ++ state_line line)) (sym c.in-Open.is)
    (on_ok c.push_line.result (λ h. h ∙ as_one before (codes "state open") (said (c.in-Open.next_serial - 1)) (codes "\n"))
    (subst (λ used. OnOk c.push_line.result (c.push_line.new.out.items ≡ ((before ++ codes "state open") ++ said used) ++ codes "\n"))
    c.saturating_sub.ensures c.push_line.ensures.text))
