use Rattle.std.proofs.Common.{◌++◌, ◌∷◌, codes, ap, sym, ◌∙◌}
use Rattle.timer_durable.proofs.Preambles.{other_options_why}
use Rattle.timer_durable.proofs.Splitting.{same_behind}
use Rattle.timer_durable.proofs.beginning.after_first_line.Goals.{in-Some-after-2+in_default-after-3, in_default-after-2}
use Rattle.timer_durable.proofs.beginning.after_first_line.Goals as goal

pub returns-in_default-after-clause-fault : goal.returns-in_default-after-clause-fault
returns-in_default-after-clause-fault c = (
  (c.in-Some.rest.now, c.in-Some.ensures.some),
  λ rest is. c.in_default-after.ensures.none rest (same_behind (codes "timers-journal ") c.in-Some.rest.now _ (sym c.in-Some.ensures.some ∙ is)),
)

pub returns-clause-fault : goal.returns-clause-fault
returns-clause-fault c =
    other_options_why c.args.options.now c.args.text.now c.in-Some-after.rest.now c.other_options.result
    (c.in-Some.ensures.some ∙ ap (λ t. codes "timers-journal " ++ t) c.in-Some-after.ensures.some)
    (λ r is. elim c.match-after-3.branch [
      | in-Some-after-2+in_default-after-3 w ↦ w.in_default-after-3.ensures.none r (same_behind c.args.options.now _ (10 ∷ r) (sym w.in-Some-after-2.ensures.some ∙ is))
      | in_default-after-2 w ↦ w.in_default-after-2.ensures.none (10 ∷ r) is
    ])
    c.other_options.ensures
