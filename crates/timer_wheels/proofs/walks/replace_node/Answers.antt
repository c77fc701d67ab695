use Rattle.timer_links.specs.Lists.{node_at}
use Rattle.timer_links.proofs.LinksCalls.{held, some_is}
use Rattle.timer_wheels.proofs.bucket_lemmas.ReplaceLemmas.{alone_before, now_under, mid_in_range, replaced}
use Rattle.timer_wheels.proofs.walks.replace_node.Goals as goal

pub move_back-requires-clause-used : goal.move_back-requires-clause-used
move_back-requires-clause-used g c = some_is (node_at c.args.key c.set_node.new.self.lists) c.args.node
    (now_under c.args.key c.args.list c.args.node c.args.links.now.lists c.set_node.new.self.lists
    (held (node_at c.args.key c.args.links.now.lists) c.requires.used) c.lemma_keys_unique.ensures c.set_node.ensures.set
    c.lemma_keys_unique-2.ensures)

pub move_back-requires-clause-list : goal.move_back-requires-clause-list
move_back-requires-clause-list g c = mid_in_range c.args.key c.args.list c.args.node c.args.links.now.lists c.set_node.new.self.lists
    (held (node_at c.args.key c.args.links.now.lists) c.requires.used) c.lemma_keys_unique.ensures c.set_node.ensures.set
    c.lemma_keys_unique-2.ensures
    c.requires.list

pub returns-clause-replaced : goal.returns-clause-replaced
returns-clause-replaced g c = replaced c.args.key c.args.list c.args.node c.args.links.now.lists c.set_node.new.self.lists
    (held (node_at c.args.key c.args.links.now.lists) c.requires.used) c.lemma_keys_unique.ensures c.set_node.ensures.set
    c.lemma_keys_unique-2.ensures
    c.move_back.new.self.lists c.move_back.ensures.moved

pub returns-clause-emptied : goal.returns-clause-emptied
returns-clause-emptied g c = alone_before c.args.key c.args.node c.args.links.now.lists c.set_node.new.self.lists c.move_back.result
    c.set_node.ensures.set c.move_back.ensures.emptied
