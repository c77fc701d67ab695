use Rattle.std.proofs.Common.{◌<◌, ◌+◌, ◌∙◌, ap, refl, arith, length}
use Rattle.std.specs.Vec.{with_items}
use Rattle.timer_links.specs.Lists.{LinksState, with_row}
use Rattle.timer_links.specs.Links.{nodes_of}
use Rattle.timer_links.proofs.UniqueLists.{opened, Stands, stands, written, state_is}
use Rattle.timer_links.proofs.Room.{has_index}
use Rattle.timer_links.proofs.KeptNodes.{same_nodes, vacant_at, updates_as, one_more}
use Rattle.timer_links.proofs.LinksCalls.{back_in, grown, reserved, pushed, size_last, joins_last_read}
use Rattle.timer_links.proofs.links.Links.push_back.Given.{Over}
use Rattle.timer_links.proofs.links.Links.push_back.Goals as goal

-- once way was made, or could not be
made : (g : Over) (c : goal.In_default g) → Stands c.self.inside.lists c.self.inside.room c.make_way.new.ready (nodes_of g.N.Kept.node_of c.make_way.new.nodes)
    c.make_way.new.neighbours c.args.self.now.lists
made g c =
    let h = opened g.N.Kept.node_of _ _ _ c.self.inside.nodes c.self.inside.neighbours c.args.self.now c.self.view_is c.self.invariant in
    let w = grown _ _ _ _ h _ c.make_way.ensures.kept c.make_way.ensures.few in
    stands _ _ _ _ _ _ (reserved _ _ _ _ w _ _ (same_nodes g.N.Kept.node_of c.self.inside.nodes c.make_way.new.nodes c.make_way.ensures.nodes) refl) c.make_way.ensures.room c.make_way.ensures.ready

pub invariant_of-self : goal.invariant_of-self
invariant_of-self g c = (made g c).invariant

pub returns-in_default-clause-err : goal.returns-in_default-clause-err
returns-in_default-clause-err g c = state_is _ _ _ _ (made g c).value (ap (λ (x : LinksState). x.room) c.self.view_is)
    (c.in_default.ensures.same ∙ ap (λ (x : LinksState). x.ready) c.self.view_is)

pub join_last-requires-clause-last : goal.join_last-requires-clause-last
join_last-requires-clause-last g c =
    let h = opened g.N.Kept.node_of _ _ _ c.self.inside.nodes c.self.inside.neighbours c.args.self.now c.self.view_is c.self.invariant in
    let w = grown _ _ _ _ h _ c.make_way.ensures.kept c.make_way.ensures.few in
    rw c.as_mut_slice.ensures.value (back_in _ _ _ _ w c.args.list c.requires.list)

now : (g : Over) (c : goal.After-self-1 g) → Stands c.self.inside.lists c.self.inside.room c.make_way.new.ready (nodes_of g.N.Kept.node_of c.insert_reserved-key.new.self)
    (with_items c.make_way.new.neighbours c.join_last.new.neighbours)
    (with_row c.args.list (c.insert_reserved-key.result, c.args.node) c.args.self.now.lists)
now g c =
    let h = opened g.N.Kept.node_of _ _ _ c.self.inside.nodes c.self.inside.neighbours c.args.self.now c.self.view_is c.self.invariant in
    let w = reserved _ _ _ _ (grown _ _ _ _ h _ c.make_way.ensures.kept c.make_way.ensures.few) _ _ (same_nodes g.N.Kept.node_of c.self.inside.nodes c.make_way.new.nodes c.make_way.ensures.nodes) refl in
    let index : c.self.inside.lists + c.insert_reserved-key.result < length c.make_way.new.neighbours.items =
    has_index _ _ c.make_way.new.nodes _ c.in-Ok.ensures.index (let k = c.insert_reserved-key.ensures.key_in_range in
    let e = c.insert_reserved-key.ensures.capacity in omega arith) c.insert_reserved-key.ensures.key in
    written _ _ _ _ _ _ _ _ c.make_way.ensures.room c.make_way.ensures.ready c.insert_reserved-key.ensures.capacity
    (size_last _ _ _ _ c.join_last.ensures ∙ c.as_mut_slice.ensures.len)
    (pushed _ _ _ _ w _ _ c.insert_reserved-key.result c.args.list c.args.node c.requires.list (vacant_at g.N.Kept.node_of c.make_way.new.nodes c.insert_reserved-key.result c.insert_reserved-key.ensures.was_vacant)
    (updates_as g.N.Kept.node_of c.make_way.new.nodes c.insert_reserved-key.new.self c.insert_reserved-key.result c.keep.result c.args.node c.keep.ensures c.insert_reserved-key.ensures.updates)
    (one_more g.N.Kept.node_of c.make_way.new.nodes c.insert_reserved-key.new.self c.insert_reserved-key.ensures.len) index
    (joins_last_read _ _ _ _ _ c.as_mut_slice.ensures.value c.join_last.ensures))

pub invariant_of-self-2 : goal.invariant_of-self-2
invariant_of-self-2 g c = (now g c).invariant

pub returns-clause-pushed : goal.returns-clause-pushed
returns-clause-pushed g c = (now g c).value
