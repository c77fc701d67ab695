use Rattle.std.proofs.Common.{rules}
use Rattle.std.proofs.lemmas.List.Sorted.{answers_always}
use Rattle.timer_base.proofs.OneOrder.{key_of, sorted_in_order}
use Rattle.timer_base.proofs.order.sort_timers.Goals as goal

pub returns-clause-order : goal.returns-clause-order
returns-clause-order c =
    sorted_in_order c.args.timers.now.items c.sort_unstable_by_key.new.self.items c.sort_unstable_by_key.ensures.permutation
    c.requires.distinct
    (c.sort_unstable_by_key.ensures.sorted key_of (answers_always _ _ _ (λ f a r g h. search rules)))
