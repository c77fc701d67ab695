use Rattle.std.proofs.Common.{◌≡◌, drop}
use Rattle.std.specs.Prelude.{map}
use Rattle.timer_journal.specs.Host.{after_steps}
use Rattle.timer_journal.specs.Memory.{step_of}
use Rattle.timer_journal.proofs.memory.play.Given as goal

-- the changes that are left make the same of the file so far
abbrev pub invariant-loop-change : goal.invariant-loop-change
invariant-loop-change l = after_steps l.file.items (map step_of (drop l.change-index l.changes)) ≡ after_steps l.first (map step_of l.changes)
