use Rattle.std.proofs.Common.{sym, ◌∙◌}
use Rattle.timer_wheels.proofs.hier_lemmas.MigrationLoop.{front_of, second_of, no_second_timer, second_timer_is, is_in_use}
use Rattle.timer_wheels.proofs.walks.second_timer.Goals as goal

pub next-requires : goal.next-requires
next-requires g c = is_in_use (front_of c.args.list c.in_ok-first.first c.args.links.now.lists c.requires
    (sym c.in_ok-first.was ∙ c.front.ensures) c.lemma_keys_unique.ensures)

pub returns-in_err-key : goal.returns-in_err-key
returns-in_err-key g c = c.from_residual-in_err-key.ensures ∙ no_second_timer c.args.list c.in_ok-first.first c.args.links.now.lists
    c.requires (sym c.in_ok-first.was ∙ c.front.ensures) c.next.result c.next.ensures c.in_err-key.was

pub node-requires : goal.node-requires
node-requires g c = is_in_use (second_of c.args.list c.in_ok-first.first c.args.links.now.lists c.requires
    (sym c.in_ok-first.was ∙ c.front.ensures) c.next.result c.next.ensures c.in_ok-key.key c.lemma_keys_unique.ensures c.in_ok-key.was)

pub returns : goal.returns
returns g c = second_timer_is c.args.list c.in_ok-first.first c.args.links.now.lists c.requires
    (sym c.in_ok-first.was ∙ c.front.ensures) c.next.result c.next.ensures c.in_ok-key.key c.lemma_keys_unique.ensures c.in_ok-key.was
    c.node.result c.node.ensures
