use Rattle.std.proofs.Common.{refl, codes}
use Rattle.std.proofs.lemmas.Result.{on_ok_weaker}
use Rattle.timer_commands.proofs.IndentedLemmas.{bare_word, bare_join, end_join}
use Rattle.timer_commands.proofs.render.lists.push_move.Goals as goal

pub returns-clause-ended : goal.returns-clause-ended
returns-clause-ended g c =
    let from = bare_word _ _ (codes " from") refl c.in_ok-extend_from_slice.ensures.items in
    let bucket = bare_join _ _ _ from c.in_ok-push_name.ensures.bare in
    let to = bare_join _ _ _ bucket (bare_word _ _ (codes " to") refl c.in_ok-extend_from_slice-2.ensures.items) in
    on_ok_weaker c.push_list.result (end_join _ _ _ to) c.push_list.ensures.ended
