use Rattle.std.proofs.Common.{rules}
use Rattle.std.proofs.lemmas.List.Sorted.{answers_always}
use Rattle.timer_facility.proofs.SerialOrder.{serial_of, sorted_by_serial}
use Rattle.timer_facility.proofs.facility.dumps.sort_by_serial.Goals as goal

pub returns : goal.returns
returns c =
    sorted_by_serial c.args.timers.now.items c.sort_unstable_by_key.new.self.items c.sort_unstable_by_key.ensures.permutation
    c.requires (c.sort_unstable_by_key.ensures.sorted serial_of (answers_always _ _ _ (λ f a r g h. search rules)))
