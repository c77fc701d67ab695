use Rattle.std.proofs.Common.{sym}
use Rattle.timer_links.proofs.UniqueLists.{opened}
use Rattle.timer_links.proofs.KeptNodes.{contained}
use Rattle.timer_links.proofs.LinksCalls.{unused, is_missing}
use Rattle.timer_links.proofs.links.Links.unlink.Goals as goal

pub returns-then-not-contains-clause-node : goal.returns-then-not-contains-clause-node
returns-then-not-contains-clause-node g c =
    let h = opened g.N.Kept.node_of _ _ _ c.self.inside.nodes c.self.inside.neighbours c.args.self.now c.self.view_is c.self.invariant in
    sym (unused _ _ _ _ h c.args.key
    (λ i. c.if-not-contains.ensures.1 (contained g.N.Kept.node_of c.self.inside.nodes c.args.key i)))

pub returns-then-not-contains-clause-taken : goal.returns-then-not-contains-clause-taken
returns-then-not-contains-clause-taken g c =
    let h = opened g.N.Kept.node_of _ _ _ c.self.inside.nodes c.self.inside.neighbours c.args.self.now c.self.view_is c.self.invariant in
    sym (is_missing _ _ _ _ h c.args.key (unused _ _ _ _ h c.args.key
    (λ i. c.if-not-contains.ensures.1 (contained g.N.Kept.node_of c.self.inside.nodes c.args.key i))))
