use Rattle.std.proofs.Common.{◌∙◌, ◌++◌, ◌∷◌, ap, refl, arith, slice_set}
use Rattle.timer_links.specs.Types.{Node}
use Rattle.timer_links.proofs.UniqueLists.{opened, lists_are, stands}
use Rattle.timer_links.proofs.Room.{room_stays, ready_kept}
use Rattle.timer_links.proofs.KeptNodes.{kept_at, linked_set}
use Rattle.timer_links.proofs.LinksCalls.{seat, node_set, node_was}
use Rattle.timer_links.proofs.links.Links+Node.set_rounds.Goals as goal

abbrev same_node : Node → Node
same_node node = node

pub invariant_of-self : goal.invariant_of-self
invariant_of-self c =
    let h = opened same_node _ _ _ c.self.inside.nodes c.self.inside.neighbours c.args.self.now c.self.view_is c.self.invariant in
    let f = seat _ _ _ _ h c.args.key _ (kept_at same_node c.self.inside.nodes c.args.key c.index_mut.result.now c.index_mut.ensures.value) in
    let node : Node = record c.index_mut.result.now { rounds = c.args.rounds } in
    (stands _ _ _ _ c.self.inside.neighbours _
    (linked_set same_node _ c.self.inside.nodes _ _ c.args.key node node refl
    (node_set _ _ _ _ h c.args.key f.l f.front _ node f.rest f.in_range f.at))
    (room_stays _ _ _ _ _ _ c.self.invariant.1 refl refl) (ready_kept _ _ _ _ _ _ c.self.invariant.2 (omega arith) (omega arith))).invariant

pub returns-clause-set : goal.returns-clause-set
returns-clause-set c l front node rest b e =
    let h = opened same_node _ _ _ c.self.inside.nodes c.self.inside.neighbours c.args.self.now c.self.view_is c.self.invariant in
    let new : Node = record c.index_mut.result.now { rounds = c.args.rounds } in
    lists_are _ _ _ _ (linked_set same_node _ c.self.inside.nodes _ _ c.args.key new new refl (node_set _ _ _ _ h c.args.key l front node new rest b e))
    ∙ ap (λ (x : Node). slice_set c.args.self.now.lists l (front ++ (c.args.key, record x { rounds = c.args.rounds }) ∷ rest))
    (node_was _ _ _ _ h c.args.key l front node c.index_mut.result.now rest b e (kept_at same_node c.self.inside.nodes c.args.key c.index_mut.result.now c.index_mut.ensures.value))
