use Rattle.std.proofs.Common.{ℕ, ◌∙◌, sym, subst, map, Option, None}
use Rattle.std.specs.Vec.{with_items}
use Rattle.timer_links.specs.Lists.{without_key, IsAloneIn}
use Rattle.timer_links.specs.Links.{nodes_of}
use Rattle.timer_links.proofs.UniqueLists.{opened, Stands, written}
use Rattle.timer_links.proofs.KeptNodes.{kept_at, updates, one_less}
use Rattle.timer_links.proofs.LinksCalls.{some_is, read_node, joins_read, unlinked, is_alone_in}
use Rattle.timer_links.proofs.links.Links.take.Given.{Over}
use Rattle.timer_links.proofs.links.Links.take.Goals as goal

pub join-requires : goal.join-requires
join-requires g c =
    let h = opened g.N.Kept.node_of _ _ _ c.self.inside.nodes c.self.inside.neighbours c.args.self.now c.self.view_is c.self.invariant in
    let r = read_node _ _ _ _ h c.args.key _ _ (some_is _ _ (kept_at g.N.Kept.node_of c.self.inside.nodes c.args.key c.remove-kept.result c.remove-kept.ensures.value)) c.as_mut_slice.ensures.value
    c.index-neighbours.ensures in
    record { front = r.before; back = r.after; numbered = rw c.as_mut_slice.ensures.value h.numbered }

now : (g : Over) (c : goal.After-only_neighbour g) → Stands c.self.inside.lists c.self.inside.room c.self.inside.ready (nodes_of g.N.Kept.node_of c.remove-kept.new.self)
    (with_items c.self.inside.neighbours c.join.new.neighbours) (map (without_key c.args.key) c.args.self.now.lists)
now g c =
    let h = opened g.N.Kept.node_of _ _ _ c.self.inside.nodes c.self.inside.neighbours c.args.self.now c.self.view_is c.self.invariant in
    let i = some_is _ _ (kept_at g.N.Kept.node_of c.self.inside.nodes c.args.key c.remove-kept.result c.remove-kept.ensures.value) in
    let r = read_node _ _ _ _ h c.args.key _ _ i c.as_mut_slice.ensures.value c.index-neighbours.ensures in
    written _ _ _ _ _ _ _ _ c.self.invariant.1 c.self.invariant.2 c.remove-kept.ensures.capacity
    (c.join.ensures.size ∙ c.as_mut_slice.ensures.len) (unlinked _ _ _ _ h _ _ c.args.key i (updates g.N.Kept.node_of c.self.inside.nodes c.remove-kept.new.self c.args.key None c.remove-kept.ensures.updates)
    (one_less g.N.Kept.node_of c.self.inside.nodes c.remove-kept.new.self c.remove-kept.ensures.len) (joins_read _ _ _ _ _ r c.join.ensures))

pub invariant_of-self : goal.invariant_of-self
invariant_of-self g c = (now g c).invariant

pub returns-clause-taken : goal.returns-clause-taken
returns-clause-taken g c = (now g c).value

pub returns-clause-emptied : goal.returns-clause-emptied
returns-clause-emptied g c =
    let h = opened g.N.Kept.node_of _ _ _ c.self.inside.nodes c.self.inside.neighbours c.args.self.now c.self.view_is c.self.invariant in
    let r = read_node _ _ _ _ h c.args.key _ _ (some_is _ _ (kept_at g.N.Kept.node_of c.self.inside.nodes c.args.key c.remove-kept.result c.remove-kept.ensures.value)) c.as_mut_slice.ensures.value
    c.index-neighbours.ensures in
    let P : Option ℕ → Type 0 = IsAloneIn c.args.key c.args.self.now.lists in
    subst P (sym c.only_neighbour.ensures) (is_alone_in _ _ _ _ h c.args.key _ r.is)
