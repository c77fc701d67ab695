use Rattle.timer_wheels.proofs.bucket_lemmas.WalkLemmas.{IsGathering}
use Rattle.timer_commands.proofs.PictureLemmas.{IsUnkept}
use Rattle.timer_commands.proofs.render.lists.has_kept.Given as goal

-- no timer so far is kept
abbrev pub invariant-loop-step : goal.invariant-loop-step
invariant-loop-step g l = IsGathering (IsUnkept l.filter) l.list l.step l.links.lists l.at
