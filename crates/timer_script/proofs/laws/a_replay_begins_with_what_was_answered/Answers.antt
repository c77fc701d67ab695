use Rattle.timer_script.proofs.ReplayLemmas.{passes_first, part_first, whole_first, runs_first_of}
use Rattle.timer_script.proofs.ServicePieces.{plain_reads}
use Rattle.timer_script.proofs.laws.a_replay_begins_with_what_was_answered.Goals as goal

pub returns-clause-part : goal.returns-clause-part
returns-clause-part c = λ on_bad before again after came more gone text events all goes_on passes part all_pass answered.
    let h = passes_first more passes all_pass in part_first h.0 h.1 goes_on part answered

pub returns-clause-whole : goal.returns-clause-whole
returns-clause-whole c = λ on_bad before again came more gone text goes_on a b.
    let h = passes_first more a.passes b.passes in whole_first h.0 h.1 goes_on (plain_reads a.answered) (plain_reads b.answered)

pub returns-clause-answers : goal.returns-clause-answers
returns-clause-answers c = λ on_bad before again now after came more events all outs others goes_on passes all_pass first second.
    let h = passes_first more passes all_pass in runs_first_of h.0 h.1 goes_on first second
