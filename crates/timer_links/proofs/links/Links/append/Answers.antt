use Rattle.std.proofs.Common.{◌∙◌, ap, sym, refl}
use Rattle.std.specs.Vec.{with_items}
use Rattle.timer_links.specs.Types.{Neighbours}
use Rattle.timer_links.specs.Lists.{appended}
use Rattle.timer_links.specs.Links.{nodes_of}
use Rattle.timer_links.proofs.UniqueLists.{opened, Stands, written}
use Rattle.timer_links.proofs.LinksCalls.{read_root, joins_as, appended_linked}
use Rattle.timer_links.proofs.links.Links.append.Given.{Over}
use Rattle.timer_links.proofs.links.Links.append.Goals as goal

pub join-requires-clause-front : goal.join-requires-clause-front
join-requires-clause-front g c =
    let h = opened g.N.Kept.node_of _ _ _ c.self.inside.nodes c.self.inside.neighbours c.args.self.now c.self.view_is c.self.invariant in
    (read_root _ _ _ _ h c.args.to _ _ c.requires.to c.as_mut_slice-neighbours.ensures.value c.index-2.ensures).before

pub join-requires-clause-back : goal.join-requires-clause-back
join-requires-clause-back g c =
    let h = opened g.N.Kept.node_of _ _ _ c.self.inside.nodes c.self.inside.neighbours c.args.self.now c.self.view_is c.self.invariant in
    (read_root _ _ _ _ h c.args.from _ _ c.requires.from c.as_mut_slice-neighbours.ensures.value c.index.ensures).after

pub join-requires-2-clause-front : goal.join-requires-2-clause-front
join-requires-2-clause-front g c =
    let h = opened g.N.Kept.node_of _ _ _ c.self.inside.nodes c.self.inside.neighbours c.args.self.now c.self.view_is c.self.invariant in
    rw c.join.ensures.size
    (read_root _ _ _ _ h c.args.from _ _ c.requires.from c.as_mut_slice-neighbours.ensures.value c.index.ensures).before

now : (g : Over) (c : goal.After-self-1 g) → Stands c.self.inside.lists c.self.inside.room c.self.inside.ready (nodes_of g.N.Kept.node_of c.self.inside.nodes)
    (with_items c.self.inside.neighbours c.join-3.new.neighbours) (appended c.args.from c.args.to c.args.self.now.lists)
now g c =
    let h = opened g.N.Kept.node_of _ _ _ c.self.inside.nodes c.self.inside.neighbours c.args.self.now c.self.view_is c.self.invariant in
    let x = read_root _ _ _ _ h c.args.from _ _ c.requires.from c.as_mut_slice-neighbours.ensures.value c.index.ensures in
    let y = read_root _ _ _ _ h c.args.to _ _ c.requires.to c.as_mut_slice-neighbours.ensures.value c.index-2.ensures in
    let before = λ (z : Neighbours). z.before in
    written _ _ _ _ _ _ _ _ c.self.invariant.1 c.self.invariant.2 refl (c.join-3.ensures.size
    ∙ (c.join-2.ensures.size ∙ (c.join.ensures.size ∙ c.as_mut_slice-neighbours.ensures.len)))
    (appended_linked _ _ _ _ h c.args.from c.args.to c.requires.from c.requires.to c.requires.apart c.in-Some.field-0 _ _ _
    (sym c.in-Some.ensures)
    (joins_as _ _ _ _ _ _ _ x.same (ap before y.is) (ap (λ (z : Neighbours). z.after) x.is) c.join.ensures)
    (joins_as _ _ _ _ _ _ _ refl (ap before x.is) refl c.join-2.ensures) c.join-3.ensures)

pub invariant_of-self : goal.invariant_of-self
invariant_of-self g c = (now g c).invariant

pub returns-clause-appended : goal.returns-clause-appended
returns-clause-appended g c = (now g c).value
