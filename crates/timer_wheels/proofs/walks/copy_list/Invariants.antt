use Rattle.std.proofs.Common.{◌≡◌}
use Rattle.std.specs.Prelude.{vec_capacity}
use Rattle.timer_wheels.proofs.bucket_lemmas.WalkLemmas.{IsGathering, IsCopied}
use Rattle.timer_wheels.proofs.walks.copy_list.Given as goal

abbrev pub invariant-loop-step : goal.invariant-loop-step
invariant-loop-step g l = IsGathering (IsCopied l.initial.timers.items l.timers.items) l.list l.step l.links.lists l.at
    × (vec_capacity l.timers ≡ vec_capacity l.initial.timers)
