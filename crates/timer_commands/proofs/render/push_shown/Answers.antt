use Rattle.std.proofs.Common.{subst, rules}
use Rattle.std.proofs.lemmas.Result.{on_ok_weaker}
use Rattle.timer_commands.specs.Indented.{HasGrownByIndented}
use Rattle.timer_commands.proofs.IndentedLemmas.{grown_none, grown_join, pictured}
use Rattle.timer_commands.proofs.render.push_shown.Goals as goal
use Rattle.timer_commands.proofs.render.push_shown.Goals.{then-counts+in_ok-push_counts, else-counts}

pub returns-clause-picture : goal.returns-clause-picture
returns-clause-picture g c =
    let counted : HasGrownByIndented c.push.new.self.items c.if-counts.text.items = elim c.if-counts.branch [
      | then-counts+in_ok-push_counts w ↦ subst (HasGrownByIndented c.push.new.self.items) (search rules) w.in_ok-push_counts.ensures.indented
      | else-counts w ↦ subst (HasGrownByIndented c.push.new.self.items) (search rules) (grown_none c.push.new.self.items)
    ] in
    on_ok_weaker c.push_placement.result (λ (placed : HasGrownByIndented c.if-counts.text.items c.push_placement.new.text.items).
    pictured _ _ c.push.new.self.items c.push_placement.new.text.items _ _ c.now.ensures c.in_ok-push_number.ensures.text
    c.in_ok-push.ensures.items (grown_join _ _ _ counted placed)) c.push_placement.ensures.indented
