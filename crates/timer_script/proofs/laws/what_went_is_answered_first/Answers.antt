use Rattle.timer_script.proofs.MomentLemmas.{so_far_then, whole_answered_first}
use Rattle.timer_script.proofs.laws.what_went_is_answered_first.Goals as goal

pub returns-clause-moment : goal.returns-clause-moment
returns-clause-moment g c = λ before old new result calls front back none known parts served.
    so_far_then before g.F.Write.contents old new result calls front back none known parts served

pub returns-clause-whole : goal.returns-clause-whole
returns-clause-whole g c = whole_answered_first
