use Rattle.std.proofs.Common.{refl, arith}
use Rattle.timer_links.proofs.UniqueLists.{opened, lists_are, stands}
use Rattle.timer_links.proofs.Room.{room_stays, ready_kept}
use Rattle.timer_links.proofs.KeptNodes.{kept_at, linked_set}
use Rattle.timer_links.proofs.LinksCalls.{seat, node_set}
use Rattle.timer_links.proofs.links.Links.set_node.Goals as goal

pub invariant_of-self : goal.invariant_of-self
invariant_of-self g c =
    let f = g.N.Kept.node_of in
    let h = opened f _ _ _ c.self.inside.nodes c.self.inside.neighbours c.args.self.now c.self.view_is c.self.invariant in
    let at = seat _ _ _ _ h c.args.key _ (kept_at f c.self.inside.nodes c.args.key c.index_mut.result.now c.index_mut.ensures.value) in
    (stands _ _ _ _ c.self.inside.neighbours _ (linked_set f _ c.self.inside.nodes _ _ c.args.key c.keep.result c.args.node c.keep.ensures
    (node_set _ _ _ _ h c.args.key at.l at.front _ c.args.node at.rest at.in_range at.at))
    (room_stays _ _ _ _ _ _ c.self.invariant.1 refl refl) (ready_kept _ _ _ _ _ _ c.self.invariant.2 (omega arith) (omega arith))).invariant

pub returns-clause-set : goal.returns-clause-set
returns-clause-set g c l front was rest b e =
    let f = g.N.Kept.node_of in
    let h = opened f _ _ _ c.self.inside.nodes c.self.inside.neighbours c.args.self.now c.self.view_is c.self.invariant in
    lists_are _ _ _ _ (linked_set f _ c.self.inside.nodes _ _ c.args.key c.keep.result c.args.node c.keep.ensures (node_set _ _ _ _ h c.args.key l front was c.args.node rest b e))
