use Rattle.std.proofs.Common.{length, ap, ◌∙◌}
use Rattle.timer_script.specs.Types.{FacilityState}
use Rattle.timer_script.proofs.ScriptRunLemmas.{answered}
use Rattle.timer_script.proofs.script_run.answer_to.Goals as goal

pub returns-clause-ok : goal.returns-clause-ok
returns-clause-ok g c =
    answered c.args.facility.state c.open-player.result c.play_lines.new.player c.args.script.now c.in_ok-answer.answer.items
    c.play_lines.new.text.items c.push_end.new.text.items c.now-now.result c.pending-pending.result c.lemma_sound.ensures
    c.in_ok-play_lines.ensures.ok c.open-player.ensures c.in_ok-answer.ensures.items
    (c.now-now.ensures.now ∙ ap (λ (d : FacilityState). d.now) c.facility.ensures.state)
    (c.pending-pending.ensures.pending ∙ ap (λ (d : FacilityState). length d.pending) c.facility-2.ensures.state)
    c.in_ok-push_end.ensures
