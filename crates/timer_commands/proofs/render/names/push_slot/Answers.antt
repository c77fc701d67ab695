use Rattle.std.proofs.lemmas.Result.{on_ok_weaker}
use Rattle.timer_commands.proofs.PictureLemmas.{two_numbers}
use Rattle.timer_commands.proofs.render.names.push_slot.Goals as goal

pub returns-clause-name : goal.returns-clause-name
returns-clause-name c =
    on_ok_weaker c.push_number-2.result (two_numbers _ _ _ _ _ _ _ c.in_ok-push_number.ensures.text) c.push_number-2.ensures.text
