use Rattle.timer_wheels.proofs.table_lemmas.DigitLaws.{digits_down}
use Rattle.timer_wheels.specs.Digits.{last_of}
use Rattle.timer_wheels.specs.Tables.{radices}
use Rattle.timer_wheels.proofs.table_lemmas.TableLaws.{of_table}
use Rattle.timer_wheels.proofs.laws.the_digits_are_enough.Goals as goal

pub returns-clause-table : goal.returns-clause-table
returns-clause-table c = λ table. (of_table table).is_table

pub returns-clause-digits : goal.returns-clause-digits
returns-clause-digits c = λ table tick h. digits_down (radices table) tick (last_of (radices table)) (of_table table).is_table h
    (of_table table).digits
