use Rattle.std.proofs.Common.{[], ◌∷◌, ◌++◌, refl, sym, ◌∙◌, codes, append_assoc}
use Rattle.timer_commands.proofs.IndentedLemmas.{numbered, bare_word, bare_join, line_ended}
use Rattle.timer_commands.proofs.render.PlainWheelPlacement.push_placement.Goals as goal

pub loop-timer-init : goal.loop-timer-init
loop-timer-init c =
    let old = c.args.text.now.items in
    bare_word (old ++ 32 ∷ []) _ (codes " pending:") refl
    (c.in_ok-extend_from_slice.ensures.items ∙ sym (append_assoc old (32 ∷ []) (codes " pending:")))

pub loop-timer-preserved : goal.loop-timer-preserved
loop-timer-preserved c =
    let serial = bare_join _ _ _ c.loop-timer.invariant (numbered _ _ (codes " ") _ refl c.in_ok-push_number.ensures.text) in
    bare_join _ _ _ serial (numbered _ _ (codes ":") _ refl c.in_ok-push_number-2.ensures.text)

pub returns-clause-indented : goal.returns-clause-indented
returns-clause-indented c = line_ended _ _ c.push.new.self.items c.loop-timer.invariant c.in_ok-push.ensures.items
