use Rattle.timer_links.specs.Lists.{AreUnused}
use Rattle.timer_links.proofs.links.Links.used_from.Given as goal

abbrev pub invariant-loop-key : goal.invariant-loop-key
invariant-loop-key g l = AreUnused l.from l.key l.self.lists
