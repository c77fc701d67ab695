use Rattle.std.proofs.Common.{◌∙◌, sym, ap, refl}
use Rattle.std.specs.Vec.{with_items}
use Rattle.timer_links.specs.Types.{Neighbours}
use Rattle.timer_links.specs.Lists.{front_moved}
use Rattle.timer_links.specs.Links.{nodes_of}
use Rattle.timer_links.proofs.UniqueLists.{opened, Stands, written}
use Rattle.timer_links.proofs.LinksCalls.{read_node, joins_as, back_after, moved, size_last, front_of, moves_front}
use Rattle.timer_links.proofs.links.Links.move_front.Given.{Over}
use Rattle.timer_links.proofs.links.Links.move_front.Goals as goal

pub join-requires-clause-back : goal.join-requires-clause-back
join-requires-clause-back g c =
    let h = opened g.N.Kept.node_of _ _ _ c.self.inside.nodes c.self.inside.neighbours c.args.self.now c.self.view_is c.self.invariant in
    let f = front_of _ _ _ _ c.args.from c.in-Some.key h c.requires.from (sym c.in-Some.ensures.key) in
    (read_node _ _ _ _ h c.in-Some.key _ _ f.used c.as_mut_slice-neighbours.ensures.value c.index.ensures).after

pub join_last-requires-clause-last : goal.join_last-requires-clause-last
join_last-requires-clause-last g c =
    let h = opened g.N.Kept.node_of _ _ _ c.self.inside.nodes c.self.inside.neighbours c.args.self.now c.self.view_is c.self.invariant in
    let f = front_of _ _ _ _ c.args.from c.in-Some.key h c.requires.from (sym c.in-Some.ensures.key) in
    let r = read_node _ _ _ _ h c.in-Some.key _ _ f.used c.as_mut_slice-neighbours.ensures.value c.index.ensures in
    back_after _ _ _ _ h _ _ _ c.args.to c.requires.to r.low
    (joins_as _ _ _ _ _ _ _ r.same f.before (ap (λ (x : Neighbours). x.after) r.is) c.join.ensures)

now : (g : Over) (c : goal.After-self-1 g) → Stands c.self.inside.lists c.self.inside.room c.self.inside.ready (nodes_of g.N.Kept.node_of c.self.inside.nodes)
    (with_items c.self.inside.neighbours c.join_last.new.neighbours) (front_moved c.args.from c.args.to c.args.self.now.lists)
now g c =
    let h = opened g.N.Kept.node_of _ _ _ c.self.inside.nodes c.self.inside.neighbours c.args.self.now c.self.view_is c.self.invariant in
    let f = front_of _ _ _ _ c.args.from c.in-Some.key h c.requires.from (sym c.in-Some.ensures.key) in
    let r = read_node _ _ _ _ h c.in-Some.key _ _ f.used c.as_mut_slice-neighbours.ensures.value c.index.ensures in
    written _ _ _ _ _ _ _ _ c.self.invariant.1 c.self.invariant.2 refl
    (size_last _ _ _ _ c.join_last.ensures ∙ (c.join.ensures.size ∙ c.as_mut_slice-neighbours.ensures.len))
    (moves_front _ _ _ _ _ c.args.from c.args.to c.in-Some.key f
    (moved _ _ _ _ h _ _ c.in-Some.key c.args.to f.node f.held c.requires.to
    (joins_as _ _ _ _ _ _ _ r.same f.before (ap (λ (x : Neighbours). x.after) r.is) c.join.ensures) c.join_last.ensures))

pub invariant_of-self : goal.invariant_of-self
invariant_of-self g c = (now g c).invariant

pub returns-clause-moved : goal.returns-clause-moved
returns-clause-moved g c = (now g c).value
