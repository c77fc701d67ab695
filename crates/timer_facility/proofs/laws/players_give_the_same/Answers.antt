use Rattle.timer_facility.proofs.RunBare.{plays-bare}
use Rattle.timer_facility.proofs.laws.players_give_the_same.Goals as goal

pub returns : goal.returns
returns c = plays-bare
