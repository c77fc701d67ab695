use Rattle.std.proofs.Common.{◌≡◌, ◌<◌, ℕ, false, get_or}
use Rattle.timer_threads.specs.Types.{Worked}
use Rattle.timer_threads.specs.Results.{is_failed}
use Rattle.timer_threads.proofs.results.first_failed.Given as goal

abbrev pub invariant-loop-c : goal.invariant-loop-c
invariant-loop-c l = (k : ℕ) (w : Worked) → k < l.c → is_failed (get_or l.all k w) ≡ false
