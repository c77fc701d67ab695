use Rattle.timer_facility.proofs.RunBare.{runs-bare}
use Rattle.timer_facility.proofs.laws.bare_outs_do_not_depend_on_places.Goals as goal

pub returns : goal.returns
returns c = runs-bare
