use Rattle.std.proofs.Common.{arith}
use Rattle.timer_links.specs.Types.{INDEXES}
use Rattle.timer_links.specs.Links.{nodes_of}
use Rattle.timer_links.proofs.Room.{few_values}
use Rattle.timer_links.proofs.UniqueLists.{opened}
use Rattle.timer_links.proofs.links.Links.lemma_countable.Goals as goal

pub returns : goal.returns
returns g c =
    let nodes = nodes_of g.N.Kept.node_of c.self.inside.nodes in
    let h = opened g.N.Kept.node_of _ _ _ c.self.inside.nodes c.self.inside.neighbours c.args.self.now c.self.view_is c.self.invariant in
    omega (arith, h.total, few_values nodes.slots 0 INDEXES (λ key some. omega (arith, h.reached key some, h.numbered)))
