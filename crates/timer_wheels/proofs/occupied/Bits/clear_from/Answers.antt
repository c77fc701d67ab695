use Rattle.std.proofs.Common.{◌≡◌, ◌<◌, ◌≤◌, ◌+◌, ℕ, List, subst}
use Rattle.timer_wheels.specs.Occupied.{bit_of}
use Rattle.timer_wheels.proofs.bucket_lemmas.OccupiedLemmas.{clear_lists}
use Rattle.timer_wheels.proofs.occupied.Bits.clear_from.Goals as goal

pub returns-clause-clear : goal.returns-clause-clear
returns-clause-clear g c = subst (λ (w : List ℕ). (s : ℕ) → c.args.list ≤ s → s < c.args.list + c.clear_bits.result → bit_of w s ≡ 0)
    c.self.view_is (clear_lists c.self.inside.words c.args.list c.clear_bits.result c.clear_bits.ensures.few c.clear_bits.ensures.clear)
