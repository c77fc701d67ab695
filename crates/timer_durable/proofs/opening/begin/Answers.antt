use Rattle.std.proofs.Common.{◌++◌, ap, sym, ◌∙◌, append-nil}
use Rattle.std.specs.List.{concat}
use Rattle.timer_durable.specs.Beginning.{preamble_of}
use Rattle.timer_durable.specs.Opening.{at_first}
use Rattle.timer_durable.proofs.opening.begin.Goals as goal

pub returns-clause-begun : goal.returns-clause-begun
returns-clause-begun g c =
    ap concat c.in_ok-begin_anew.ensures.acknowledged.2 ∙ append-nil _ ∙ c.deref-2.ensures.value ∙ c.in_ok-text.ensures.text
    ∙ ap (preamble_of c.args.options.now at_first) c.deref.ensures.value ∙ sym (append-nil _)
    ∙ ap (λ l. preamble_of c.args.options.now at_first c.args.state.items ++ l) (sym c.new.ensures.items)
