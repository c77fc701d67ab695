use Rattle.timer_wheels.proofs.table_lemmas.DigitLaws.{bucket_at_tick}
use Rattle.timer_wheels.proofs.laws.a_tick_empties_one_bucket.Goals as goal

pub returns : goal.returns
returns c = bucket_at_tick
