use Rattle.std.proofs.Common.{sym, ◌∙◌}
use Rattle.timer_wheels.proofs.hier_lemmas.MigrationLoop.{front_of, front_timer_is, is_in_use}
use Rattle.timer_wheels.proofs.walks.front_timer.Goals as goal

pub node-requires : goal.node-requires
node-requires g c = is_in_use (front_of c.args.list c.in_ok-key.key c.args.links.now.lists c.requires
    (sym c.in_ok-key.was ∙ c.front.ensures) c.lemma_keys_unique.ensures)

pub returns : goal.returns
returns g c = front_timer_is c.args.list c.in_ok-key.key c.args.links.now.lists c.requires
    (sym c.in_ok-key.was ∙ c.front.ensures) c.lemma_keys_unique.ensures c.node.result c.node.ensures
