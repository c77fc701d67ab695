use Rattle.timer_facility.proofs.NextLines.{none_refused}
use Rattle.timer_facility.proofs.SavableLemmas.{savable_read}
use Rattle.timer_facility.proofs.laws.no_line_of_a_dump_is_refused.Goals as goal

pub returns-clause-read : goal.returns-clause-read
returns-clause-read c = savable_read

pub returns-clause-none : goal.returns-clause-none
returns-clause-none c = λ limits s r line rest sound savable within front same lines.
    none_refused (record { front = front; whole = savable_read limits s sound savable within; limits_are = same; lines_are = lines })
