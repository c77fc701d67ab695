use Rattle.std.proofs.Common.{◌≤◌, ℕ, List, [], ◌∷◌, ◌++◌, refl, sym, subst, ◌∙◌, append-nil, arith, rules}
use Rattle.timer_links.specs.Lists.{node_at}
use Rattle.timer_wheels.proofs.bucket_lemmas.WalkLemmas.{gathered_none, gathered_one, gathered_all, here_is_some}
use Rattle.timer_commands.specs.Indented.{HasGrownByBare}
use Rattle.timer_commands.proofs.IndentedLemmas.{bare_word, bare_join}
use Rattle.timer_commands.proofs.PictureLemmas.{IsDrawn, drawn_kept, drawn_dropped}
use Rattle.timer_commands.proofs.render.lists.push_rows.Goals as goal
use Rattle.timer_commands.proofs.render.lists.push_rows.Goals.{then-keeps+in_ok-push_node, else-keeps}

pub loop-step-init : goal.loop-step-init
loop-step-init g c = record {
  rows = gathered_none c.args.list c.args.links.now.lists c.front-at.result c.front-at.ensures (sym (append-nil c.args.text.now.items));
  bare = bare_word c.args.text.now.items c.args.text.now.items [] refl (sym (append-nil c.args.text.now.items));
}

pub loop-step-preserved : goal.loop-step-preserved
loop-step-preserved g c =
    let g = c.loop-step.invariant.rows in
    let old : List ℕ = c.args.text.now.items in
    let found = node_at c.in-Some.key c.args.links.now.lists in
    record {
      rows = gathered_one g c.requires c.lemma_keys_unique.ensures c.in-Some.key c.in-Some.is c.next-at.result c.next-at.ensures
          (λ node e h. elim c.if-keeps.branch [
            | then-keeps+in_ok-push_node w ↦
                subst (λ t. IsDrawn c.args.naming c.args.filter old t (g.past ++ (c.in-Some.key, node) ∷ [])) (search rules)
                (drawn_kept c.args.naming c.args.filter c.in-Some.key node c.in-Some-get.node found old c.loop-step.text.items
                w.push_node.new.text.items g.past c.in-Some-get.ensures e (sym c.keeps.ensures ∙ w.if-keeps.true) w.in_ok-push_node.ensures.node h)
            | else-keeps w ↦
                subst (λ t. IsDrawn c.args.naming c.args.filter old t (g.past ++ (c.in-Some.key, node) ∷ [])) (search rules)
                (drawn_dropped c.args.naming c.args.filter c.in-Some.key node c.in-Some-get.node found old c.loop-step.text.items g.past
                c.in-Some-get.ensures e (sym c.keeps.ensures ∙ w.if-keeps.false) h)
          ]);
      bare = elim c.if-keeps.branch [
        | then-keeps+in_ok-push_node w ↦ subst (HasGrownByBare old) (search rules)
            (bare_join _ _ w.push_node.new.text.items c.loop-step.invariant.bare w.in_ok-push_node.ensures.bare)
        | else-keeps w ↦ subst (HasGrownByBare old) (search rules) c.loop-step.invariant.bare
      ];
    }

pub returns-after-loop-step-clause-rows : goal.returns-after-loop-step-clause-rows
returns-after-loop-step-clause-rows g c =
    let b : c.len-step-end.result ≤ c.loop-step.step = c.loop-step-test.false in
    gathered_all c.loop-step.invariant.rows (omega (arith, c.len-step-end.ensures))

pub returns-in_default-get-clause-rows : goal.returns-in_default-get-clause-rows
returns-in_default-get-clause-rows g c = absurd (here_is_some c.loop-step.invariant.rows c.requires c.lemma_keys_unique.ensures
    c.in-Some.key c.in-Some.is c.in_default-get.ensures)
