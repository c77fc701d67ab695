use Rattle.std.proofs.Common.{rules, ◌≡◌, ◌≤◌, ◌∙◌, ap, arith, max}
use Rattle.std.proofs.Math.Nat.{max-le}
use Rattle.slab.specs.Slab.{Slab, slab_len}
use Rattle.timer_links.specs.Lists.{LinksState}
use Rattle.timer_links.proofs.UniqueLists.{opened, stands, lists_are, state_is}
use Rattle.timer_links.proofs.Room.{room_stays, ready_kept}
use Rattle.timer_links.proofs.KeptNodes.{same_nodes}
use Rattle.timer_links.proofs.LinksCalls.{reserved}
use Rattle.timer_links.proofs.links.Links.grow_room.Goals as goal

pub invariant_of-self : goal.invariant_of-self
invariant_of-self g c =
    let h = opened g.N.Kept.node_of _ _ _ c.self.inside.nodes c.self.inside.neighbours c.args.self.now c.self.view_is c.self.invariant in
    (stands _ _ _ _ c.make_room.new.neighbours _
    (reserved _ _ _ _ h _ _ (same_nodes g.N.Kept.node_of c.self.inside.nodes c.make_room.new.nodes c.make_room.ensures.nodes) c.make_room.ensures.kept)
    (room_stays _ _ _ _ _ _ c.self.invariant.1 (ap (λ (x : Slab g.row.N.Denot). x.capacity) c.in_default.ensures.err)
    c.in_default.ensures.err_reserved)
    (ready_kept _ _ _ _ _ _ c.self.invariant.2 c.make_room.ensures.larger (search rules))).invariant

pub returns-in_default-clause-err : goal.returns-in_default-clause-err
returns-in_default-clause-err g c =
    let h = opened g.N.Kept.node_of _ _ _ c.self.inside.nodes c.self.inside.neighbours c.args.self.now c.self.view_is c.self.invariant in
    state_is _ _ _ _ (lists_are _ _ _ _ (reserved _ _ _ _ h _ _ (same_nodes g.N.Kept.node_of c.self.inside.nodes c.make_room.new.nodes c.make_room.ensures.nodes) c.make_room.ensures.kept))
    (ap (λ (x : LinksState). x.room) c.self.view_is) (ap (λ (x : LinksState). x.ready) c.self.view_is)

pub invariant_of-self-2 : goal.invariant_of-self-2
invariant_of-self-2 g c =
    let h = opened g.N.Kept.node_of _ _ _ c.self.inside.nodes c.self.inside.neighbours c.args.self.now c.self.view_is c.self.invariant in
    (stands _ _ _ _ c.make_room.new.neighbours _
    (reserved _ _ _ _ h _ _ (same_nodes g.N.Kept.node_of c.self.inside.nodes c.make_room.new.nodes c.make_room.ensures.nodes) c.make_room.ensures.kept)
    (record {
      fits =
          let room : c.self.inside.room ≤ c.self.inside.nodes.capacity = c.self.invariant.1.fits in
          let larger : c.self.inside.nodes.capacity ≤ c.make_room.new.nodes.capacity = c.make_room.ensures.larger in
          let count : slab_len c.make_room.new.nodes ≡ slab_len c.self.inside.nodes =
          ap (λ (x : Slab g.row.N.Denot). slab_len x) c.make_room.ensures.nodes in
          rw c.max-self-inside.ensures (max-le (omega arith) (omega (arith, c.len.ensures, c.saturating_sub-more.ensures, c.in-Ok.ensures.fits)));
      indexes = λ p. c.in-Ok.ensures.reserved;
      numbered = λ p. c.in-Ok.ensures.numbered;
    })
    (ready_kept _ _ _ _ _ _ c.self.invariant.2 c.make_room.ensures.larger (search rules))).invariant

pub returns-clause-ok : goal.returns-clause-ok
returns-clause-ok g c =
    let h = opened g.N.Kept.node_of _ _ _ c.self.inside.nodes c.self.inside.neighbours c.args.self.now c.self.view_is c.self.invariant in
    state_is _ _ _ _ (lists_are _ _ _ _ (reserved _ _ _ _ h _ _ (same_nodes g.N.Kept.node_of c.self.inside.nodes c.make_room.new.nodes c.make_room.ensures.nodes) c.make_room.ensures.kept))
    (c.max-self-inside.ensures ∙ ap (λ (x : LinksState). max x.room c.args.most) c.self.view_is)
    (ap (λ (x : LinksState). x.ready) c.self.view_is)
