use Rattle.std.proofs.Common.{◌≡◌, ℕ, ◌∙◌, refl, sym, subst, Option, Some}
use Rattle.std.specs.Vec.{with_items}
use Rattle.timer_links.specs.Types.{Node}
use Rattle.timer_links.specs.Lists.{node_at, moved_back, IsAloneIn}
use Rattle.timer_links.specs.Links.{nodes_of}
use Rattle.timer_links.proofs.UniqueLists.{opened, Stands, written}
use Rattle.timer_links.proofs.LinksCalls.{used, held, read_node, joins_read, back_after, moved, size_last, is_alone_in}
use Rattle.timer_links.proofs.links.Links.move_back.Given.{Over}
use Rattle.timer_links.proofs.links.Links.move_back.Goals as goal

pub join-requires : goal.join-requires
join-requires g c =
    let h = opened g.N.Kept.node_of _ _ _ c.self.inside.nodes c.self.inside.neighbours c.args.self.now c.self.view_is c.self.invariant in
    let r = read_node _ _ _ _ h c.args.key _ _ (used _ _ _ _ h c.args.key c.requires.used) c.as_mut_slice-neighbours.ensures.value
    c.index.ensures in
    record { front = r.before; back = r.after; numbered = rw c.as_mut_slice-neighbours.ensures.value h.numbered }

pub join_last-requires-clause-last : goal.join_last-requires-clause-last
join_last-requires-clause-last g c =
    let h = opened g.N.Kept.node_of _ _ _ c.self.inside.nodes c.self.inside.neighbours c.args.self.now c.self.view_is c.self.invariant in
    let r = read_node _ _ _ _ h c.args.key _ _ (used _ _ _ _ h c.args.key c.requires.used) c.as_mut_slice-neighbours.ensures.value
    c.index.ensures in
    back_after _ _ _ _ h _ _ _ c.args.list c.requires.list r.low (joins_read _ _ _ _ _ r c.join.ensures)

now : (g : Over) (c : goal.After-only_neighbour g) (node : Node) → node_at c.args.key c.args.self.now.lists ≡ Some node
    → Stands c.self.inside.lists c.self.inside.room c.self.inside.ready (nodes_of g.N.Kept.node_of c.self.inside.nodes)
    (with_items c.self.inside.neighbours c.join_last.new.neighbours) (moved_back c.args.key c.args.list node c.args.self.now.lists)
now g c node e =
    let h = opened g.N.Kept.node_of _ _ _ c.self.inside.nodes c.self.inside.neighbours c.args.self.now c.self.view_is c.self.invariant in
    let r = read_node _ _ _ _ h c.args.key _ _ (used _ _ _ _ h c.args.key c.requires.used) c.as_mut_slice-neighbours.ensures.value
    c.index.ensures in
    written _ _ _ _ _ _ _ _ c.self.invariant.1 c.self.invariant.2 refl
    (size_last _ _ _ _ c.join_last.ensures ∙ (c.join.ensures.size ∙ c.as_mut_slice-neighbours.ensures.len))
    (moved _ _ _ _ h _ _ c.args.key c.args.list node (h.held c.args.key ∙ e) c.requires.list
    (joins_read _ _ _ _ _ r c.join.ensures) c.join_last.ensures)

pub invariant_of-self : goal.invariant_of-self
invariant_of-self g c = let x = held _ c.requires.used in (now g c x.node x.is).invariant

pub returns-clause-moved : goal.returns-clause-moved
returns-clause-moved g c node e = (now g c node e).value

pub returns-clause-emptied : goal.returns-clause-emptied
returns-clause-emptied g c =
    let h = opened g.N.Kept.node_of _ _ _ c.self.inside.nodes c.self.inside.neighbours c.args.self.now c.self.view_is c.self.invariant in
    let r = read_node _ _ _ _ h c.args.key _ _ (used _ _ _ _ h c.args.key c.requires.used) c.as_mut_slice-neighbours.ensures.value
    c.index.ensures in
    let P : Option ℕ → Type 0 = IsAloneIn c.args.key c.args.self.now.lists in
    subst P (sym c.only_neighbour.ensures) (is_alone_in _ _ _ _ h c.args.key _ r.is)
