use Rattle.std.proofs.Common.{◌≡◌, ◌++◌, length}
use Rattle.std.specs.List.{concat}
use Rattle.timer_journal.specs.Format.{groups_of, tail_of}
use Rattle.timer_journal.proofs.format.read_groups.Given as goal

-- the lines so far, and those of what is left
abbrev pub invariant-loop-group : goal.invariant-loop-group
invariant-loop-group l = record { lines : l.lines.items ++ concat (groups_of l.rest) ≡ concat (groups_of l.bytes); tail : tail_of l.rest ≡ tail_of l.bytes }

abbrev pub decreases-loop-group : goal.decreases-loop-group
decreases-loop-group l = length l.rest
