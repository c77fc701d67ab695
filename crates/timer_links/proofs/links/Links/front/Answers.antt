use Rattle.std.proofs.Common.{ap, sym}
use Rattle.timer_links.specs.Lists.{first_key}
use Rattle.timer_links.proofs.UniqueLists.{opened}
use Rattle.timer_links.proofs.LinksCalls.{root_alone, root_leads}
use Rattle.timer_links.proofs.links.Links.front.Goals as goal

pub overflow_sub-result : goal.overflow_sub-result
overflow_sub-result g c =
    let h = opened g.N.Kept.node_of _ _ _ c.self.inside.nodes c.self.inside.neighbours c.args.self.now c.self.view_is c.self.invariant in
    (root_leads _ _ _ _ h c.args.list c.index.result.now c.requires c.index.ensures c.if-after-list.false).0

pub returns-then-after-list : goal.returns-then-after-list
returns-then-after-list g c =
    let h = opened g.N.Kept.node_of _ _ _ c.self.inside.nodes c.self.inside.neighbours c.args.self.now c.self.view_is c.self.invariant in
    sym (ap first_key ((root_alone _ _ _ _ h c.args.list c.index.result.now c.requires c.index.ensures).0 c.if-after-list.true))

pub returns-else-after-list : goal.returns-else-after-list
returns-else-after-list g c =
    let h = opened g.N.Kept.node_of _ _ _ c.self.inside.nodes c.self.inside.neighbours c.args.self.now c.self.view_is c.self.invariant in
    (root_leads _ _ _ _ h c.args.list c.index.result.now c.requires c.index.ensures c.if-after-list.false).1
