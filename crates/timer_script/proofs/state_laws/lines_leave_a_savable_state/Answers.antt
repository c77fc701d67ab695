use Rattle.std.proofs.Common.{subst}
use Rattle.std.specs.List.{AllByRecursion}
use Rattle.timer_script.specs.SavedText.{IsSpelled}
use Rattle.timer_script.proofs.StateTextLemmas.{said_of, read_lines, small_lines}
use Rattle.timer_script.proofs.state_laws.lines_leave_a_savable_state.Goals as goal

pub returns-clause-restored : goal.returns-clause-restored
returns-clause-restored c = λ config last bytes saved in_range text.
    c.each_run_leaves_a_savable_state.ensures.restored config last saved in_range text.read text.within
    (said_of saved.saved (subst (AllByRecursion IsSpelled) (read_lines saved text.whole) text.text.spelled))

pub returns-clause-lines : goal.returns-clause-lines
returns-clause-lines c = λ grammar events bytes a. small_lines grammar events a.in_range
