use Rattle.std.proofs.Common.{sym, ◌∙◌}
use Rattle.timer_wheels.proofs.hier_lemmas.MigrationLoop.{front_of, never_none, deadline_is}
use Rattle.timer_wheels.proofs.walks.front_deadline.Goals as goal

pub returns-in_err-node : goal.returns-in_err-node
returns-in_err-node g c = absurd (never_none (front_of c.args.list c.in_ok-key.key c.args.links.now.lists c.requires
    (sym c.in_ok-key.was ∙ c.front.ensures) c.lemma_keys_unique.ensures) (sym c.in_err-node.was ∙ c.get.ensures))

pub returns : goal.returns
returns g c = deadline_is (front_of c.args.list c.in_ok-key.key c.args.links.now.lists c.requires
    (sym c.in_ok-key.was ∙ c.front.ensures) c.lemma_keys_unique.ensures) c.in_ok-node.node (sym c.in_ok-node.was ∙ c.get.ensures)
