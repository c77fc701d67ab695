-- What a file in memory holds, and what a crash may leave of it: the same as of a file of the system that held its first bytes on
-- the disk, and to which its changes were made.
use Rattle.std.specs.Prelude.{ℕ, List, ◌∷◌, map}
use Rattle.timer_journal.specs.Host.{Step, Found, Wrote, Cut, Synced, Replaced}
use Rattle.timer_journal.specs.declared.memory.Change.{Change}
use Rattle.timer_journal.specs.declared.memory.Change.TheVariants as changes

abbrev pub step_of : Change → Step
step_of (changes.Written at bytes) = Wrote at bytes.items
step_of (changes.Shorter len) = Cut len
step_of changes.Synced = Synced
step_of (changes.Replaced bytes) = Replaced bytes.items

abbrev pub steps_of : List ℕ → List Change → List Step
steps_of first changes = Found first ∷ map step_of changes
