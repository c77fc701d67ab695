use Rattle.std.proofs.Common.{◌∙◌, ap, refl}
use Rattle.timer_links.specs.Ring.{key_of}
use Rattle.timer_links.specs.Types.{Neighbours}
use Rattle.timer_links.proofs.UniqueLists.{opened}
use Rattle.timer_links.proofs.LinksCalls.{used, next_key, read_node}
use Rattle.timer_links.proofs.links.Links.next.Goals as goal

pub returns : goal.returns
returns g c l front node rest b e =
    let h = opened g.N.Kept.node_of _ _ _ c.self.inside.nodes c.self.inside.neighbours c.args.self.now c.self.view_is c.self.invariant in
    let r = read_node _ _ _ _ h c.args.key c.self.inside.neighbours.items _ (used _ _ _ _ h c.args.key c.requires) refl c.index.ensures in
    c.key_at.ensures ∙ (ap (λ (x : Neighbours). key_of c.self.inside.lists x.after) r.is
    ∙ next_key _ _ _ _ h c.args.key l front node rest b e)
