use Rattle.timer_links.proofs.UniqueLists.{opened}
use Rattle.timer_links.proofs.LinksCalls.{first_used}
use Rattle.timer_links.proofs.links.Links.used_front.Goals as goal

pub returns-clause-used : goal.returns-clause-used
returns-clause-used g c =
    let h = opened g.N.Kept.node_of _ _ _ c.self.inside.nodes c.self.inside.neighbours c.args.self.now c.self.view_is c.self.invariant in
    first_used _ _ _ _ c.args.list _ h c.requires c.front.ensures
