use Rattle.timer_wheels.proofs.lazy_lemmas.FilingLemmas.{sorted_already}
use Rattle.timer_wheels.proofs.lazy.filing.put_in_order.Goals as goal

pub returns-else-not-is_sorted-clause-sorted : goal.returns-else-not-is_sorted-clause-sorted
returns-else-not-is_sorted-clause-sorted g c =
    sorted_already c.args.list c.args.links.now.lists (c.requires.sorted c.if-not-is_sorted.false)
