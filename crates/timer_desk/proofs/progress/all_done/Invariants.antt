use Rattle.std.proofs.Common.{ℕ, ◌<◌, get_or}
use Rattle.timer_desk.specs.Types.{Progress}
use Rattle.timer_desk.specs.Driver.{IsDone}
use Rattle.timer_desk.proofs.progress.all_done.Given as goal

abbrev pub invariant-loop-progress : goal.invariant-loop-progress
invariant-loop-progress l = (c : ℕ) (p : Progress) → c < l.progress-index → IsDone l.goal (get_or l.all c p)
