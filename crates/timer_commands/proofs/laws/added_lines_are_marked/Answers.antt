use Rattle.timer_commands.proofs.IndentedLemmas.{wakeups_marked, pictures_marked}
use Rattle.timer_commands.proofs.laws.added_lines_are_marked.Goals as goal

pub returns-clause-wakeups : goal.returns-clause-wakeups
returns-clause-wakeups c = wakeups_marked

pub returns-clause-pictures : goal.returns-clause-pictures
returns-clause-pictures c = pictures_marked
