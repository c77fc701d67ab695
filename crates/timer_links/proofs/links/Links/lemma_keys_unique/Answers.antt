use Rattle.timer_links.proofs.UniqueLists.{opened}
use Rattle.timer_links.proofs.Rings.{apart}
use Rattle.timer_links.proofs.links.Links.lemma_keys_unique.Goals as goal

pub returns : goal.returns
returns g c =
    let h = opened g.N.Kept.node_of _ _ _ c.self.inside.nodes c.self.inside.neighbours c.args.self.now c.self.view_is c.self.invariant in
    apart _ _ _ h.rings h.many
