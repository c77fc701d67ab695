use Rattle.timer_links.proofs.NewLinks.{AreRoots}
use Rattle.timer_links.proofs.links.Links.new.Given as goal

abbrev pub invariant-loop-list : goal.invariant-loop-list
invariant-loop-list g l = AreRoots l.list l.neighbours.items
