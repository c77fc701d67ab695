use Rattle.std.proofs.Common.{◌≡◌, ◌++◌, ◌+◌, ℕ, List, sym, subst, ◌∙◌, codes, rules}
use Rattle.timer_commands.specs.Indented.{HasGrownByIndented}
use Rattle.timer_commands.specs.Pictures.{lines_below}
use Rattle.timer_commands.proofs.IndentedLemmas.{grown_join, indented}
use Rattle.timer_commands.proofs.PictureLemmas.{then, line_more, no_line}
use Rattle.timer_commands.proofs.render.lists.push_lists.Goals as goal
use Rattle.timer_commands.proofs.render.lists.push_lists.Goals.{then-has_kept+in_ok-push+in_ok-push_list, else-has_kept}

pub loop-list-preserved : goal.loop-list-preserved
loop-list-preserved g c =
    let old : List ℕ = c.args.text.now.items in
    let lists = c.args.links.now.lists in
    let n : ℕ = c.loop-list.list in
    let i = c.loop-list.invariant in
    record {
      lines = elim c.if-has_kept.branch [
        | then-has_kept+in_ok-push+in_ok-push_list w ↦
            subst (λ t. t ≡ old ++ lines_below c.args.naming c.args.filter lists (n + 1)) (search rules)
            (line_more c.args.naming c.args.filter lists n old c.loop-list.text.items w.push_list.new.text.items
            (sym c.has_kept.ensures ∙ w.if-has_kept.true) i.lines
            (then _ _ _ (codes " ") _ w.in_ok-push.ensures.items w.in_ok-push_list.ensures.line))
        | else-has_kept w ↦
            subst (λ t. t ≡ old ++ lines_below c.args.naming c.args.filter lists (n + 1)) (search rules)
            (no_line c.args.naming c.args.filter lists n old c.loop-list.text.items (sym c.has_kept.ensures ∙ w.if-has_kept.false) i.lines)
      ];
      indented = elim c.if-has_kept.branch [
        | then-has_kept+in_ok-push+in_ok-push_list w ↦ subst (HasGrownByIndented old) (search rules)
            (grown_join _ _ w.push_list.new.text.items i.indented
            (indented _ _ (rw w.in_ok-push.ensures.items at w.in_ok-push_list.ensures.ended)))
        | else-has_kept w ↦ subst (HasGrownByIndented old) (search rules) i.indented
      ];
    }
