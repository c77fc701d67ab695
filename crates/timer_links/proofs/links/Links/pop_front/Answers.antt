use Rattle.std.proofs.Common.{◌≡◌, ◌∷◌, ◌∙◌, sym, ap, map, None}
use Rattle.std.specs.Vec.{with_items}
use Rattle.timer_base.proofs.Basics.{some_same}
use Rattle.timer_links.specs.Types.{Node, Neighbours}
use Rattle.timer_links.specs.Lists.{without_key}
use Rattle.timer_links.specs.Links.{nodes_of}
use Rattle.timer_links.proofs.UniqueLists.{opened, Stands, written}
use Rattle.timer_links.proofs.KeptNodes.{kept_at, updates, one_less}
use Rattle.timer_links.proofs.LinksCalls.{read_node, joins_as, unlinked, front_of}
use Rattle.timer_links.proofs.links.Links.pop_front.Given.{Over}
use Rattle.timer_links.proofs.links.Links.pop_front.Goals as goal

pub join-requires-clause-back : goal.join-requires-clause-back
join-requires-clause-back g c =
    let h = opened g.N.Kept.node_of _ _ _ c.self.inside.nodes c.self.inside.neighbours c.args.self.now c.self.view_is c.self.invariant in
    let f = front_of _ _ _ _ c.args.list c.in_ok-key.key h c.requires (sym c.in_ok-key.ensures.key) in
    (read_node _ _ _ _ h c.in_ok-key.key _ _ f.used c.as_mut_slice.ensures.value c.index.ensures).after

now : (g : Over) (c : goal.After-node g) → Stands c.self.inside.lists c.self.inside.room c.self.inside.ready (nodes_of g.N.Kept.node_of c.remove-kept.new.self)
    (with_items c.self.inside.neighbours c.join.new.neighbours) (map (without_key c.in_ok-key.key) c.args.self.now.lists)
now g c =
    let h = opened g.N.Kept.node_of _ _ _ c.self.inside.nodes c.self.inside.neighbours c.args.self.now c.self.view_is c.self.invariant in
    let f = front_of _ _ _ _ c.args.list c.in_ok-key.key h c.requires (sym c.in_ok-key.ensures.key) in
    let r = read_node _ _ _ _ h c.in_ok-key.key _ _ f.used c.as_mut_slice.ensures.value c.index.ensures in
    written _ _ _ _ _ _ _ _ c.self.invariant.1 c.self.invariant.2 c.remove-kept.ensures.capacity
    (c.join.ensures.size ∙ c.as_mut_slice.ensures.len) (unlinked _ _ _ _ h _ _ c.in_ok-key.key f.used (updates g.N.Kept.node_of c.self.inside.nodes c.remove-kept.new.self c.in_ok-key.key None c.remove-kept.ensures.updates)
    (one_less g.N.Kept.node_of c.self.inside.nodes c.remove-kept.new.self c.remove-kept.ensures.len) (joins_as _ _ _ _ _ _ _ r.same f.before (ap (λ (x : Neighbours). x.after) r.is) c.join.ensures))

pub invariant_of-self : goal.invariant_of-self
invariant_of-self g c = (now g c).invariant

pub returns-clause-popped : goal.returns-clause-popped
returns-clause-popped g c =
    let h = opened g.N.Kept.node_of _ _ _ c.self.inside.nodes c.self.inside.neighbours c.args.self.now c.self.view_is c.self.invariant in
    let f = front_of _ _ _ _ c.args.list c.in_ok-key.key h c.requires (sym c.in_ok-key.ensures.key) in
    let same : f.node ≡ c.node.result = some_same _ _ (sym f.held
    ∙ kept_at g.N.Kept.node_of c.self.inside.nodes c.in_ok-key.key c.remove-kept.result c.remove-kept.ensures.value) ∙ sym c.node.ensures in
    (f.rest, f.is ∙ ap (λ (x : Node). (c.in_ok-key.key, x) ∷ f.rest) same, (now g c).value ∙ f.without)
