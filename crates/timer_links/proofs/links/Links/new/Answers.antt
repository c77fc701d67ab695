use Rattle.std.proofs.Common.{ap, arith, rules, map, option_map}
use Rattle.timer_links.specs.Links.{IsLinked, nodes_of}
use Rattle.timer_links.specs.Lists.{LinksState, KeyedLists}
use Rattle.timer_links.proofs.UniqueLists.{stands, lists_are}
use Rattle.timer_links.proofs.Room.{no_room}
use Rattle.timer_links.proofs.NewLinks.{no_rows, no_roots, one_more, empty_linked}
use Rattle.timer_links.proofs.links.Links.new.Given.{Over}
use Rattle.timer_links.proofs.links.Links.new.Goals as goal

pub loop-list-init : goal.loop-list-init
loop-list-init g c = no_roots c.in_ok-neighbours.neighbours.items c.in_ok-neighbours.ensures.items

pub loop-list-preserved : goal.loop-list-preserved
loop-list-preserved g c = one_more c.loop-list.list c.loop-list.neighbours.items c.push.new.self.items c.loop-list.invariant
    c.in_ok-push.ensures.items

linked : (g : Over) (c : goal.After-new g) → IsLinked c.args.lists (nodes_of g.N.Kept.node_of c.new.result) c.loop-list.neighbours.items (no_rows c.args.lists)
linked g c = empty_linked c.args.lists c.loop-list.list (nodes_of g.N.Kept.node_of c.new.result) c.loop-list.neighbours.items (ap (map (option_map g.N.Kept.node_of)) c.new.ensures.empty)
    c.loop-list.invariant c.loop-list.auto.list-end c.loop-list-test.false c.requires

pub invariant_of-result : goal.invariant_of-result
invariant_of-result g c = (stands _ _ _ _ c.loop-list.neighbours _ (linked g c) (no_room _ _ _)
    (record { fits = omega arith; indexed = search rules })).invariant

pub returns : goal.returns
returns g c = let f : KeyedLists → LinksState = λ x. record { lists = x; room = 0; ready = 0 } in ap f (lists_are _ _ _ _ (linked g c))
