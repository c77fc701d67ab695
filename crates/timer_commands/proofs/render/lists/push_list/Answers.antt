use Rattle.std.proofs.Common.{refl, codes}
use Rattle.timer_commands.proofs.IndentedLemmas.{bare_word, bare_join, bare_ended}
use Rattle.timer_commands.proofs.PictureLemmas.{then}
use Rattle.timer_commands.proofs.render.lists.push_list.Goals as goal

pub returns-clause-line : goal.returns-clause-line
returns-clause-line g c =
    let named = then _ _ _ _ (codes ":") c.in_ok-push_name.ensures.name c.in_ok-push.ensures.items in
    let rows = then _ _ _ _ _ named c.in_ok-push_rows.ensures.rows in
    then _ _ _ _ (codes "\n") rows c.in_ok-push-2.ensures.items

pub returns-clause-ended : goal.returns-clause-ended
returns-clause-ended g c =
    let named = bare_join _ _ _ c.in_ok-push_name.ensures.bare (bare_word _ _ (codes ":") refl c.in_ok-push.ensures.items) in
    bare_ended _ _ c.push-2.new.self.items (bare_join _ _ _ named c.in_ok-push_rows.ensures.bare) c.in_ok-push-2.ensures.items
