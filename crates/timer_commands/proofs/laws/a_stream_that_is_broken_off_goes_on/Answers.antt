use Rattle.timer_commands.proofs.ResumedLemmas.{goes_on_as_one}
use Rattle.timer_commands.proofs.laws.a_stream_that_is_broken_off_goes_on.Goals as goal

pub returns : goal.returns
returns g c = goes_on_as_one
