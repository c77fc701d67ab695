use Rattle.std.proofs.Common.{sym, ◌∙◌}
use Rattle.std.proofs.lemmas.Result.{on_ok_weaker}
use Rattle.timer_commands.proofs.PictureLemmas.{node_rounds, node_alone}
use Rattle.timer_commands.proofs.render.lists.push_node.Goals as goal

pub returns-then-has_rounds-clause-node : goal.returns-then-has_rounds-clause-node
returns-then-has_rounds-clause-node c = on_ok_weaker c.push_number-then-has_rounds.result
    (node_rounds c.args.naming c.args.node _ _ _ (sym c.has_rounds.ensures ∙ c.if-has_rounds.true) c.in_ok-push_number.ensures.text)
    c.push_number-then-has_rounds.ensures.text

pub returns-else-has_rounds-clause-node : goal.returns-else-has_rounds-clause-node
returns-else-has_rounds-clause-node c = node_alone c.args.naming c.args.node _ _ (sym c.has_rounds.ensures ∙ c.if-has_rounds.false)
    c.in_ok-push_number.ensures.text
