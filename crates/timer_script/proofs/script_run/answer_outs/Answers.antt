use Rattle.std.proofs.Common.{[], ◌++◌, ap, ◌∙◌, subst}
use Rattle.std.proofs.lemmas.Result.{on_ok_weaker}
use Rattle.timer_facility.specs.Played.{AddsRun}
use Rattle.timer_facility.proofs.PlayedLemmas.{IsRun-none, IsRun-more}
use Rattle.timer_script.specs.Text.{lines_of}
use Rattle.timer_script.proofs.script_run.answer_outs.Goals as goal

pub returns-clause-lines : goal.returns-clause-lines
returns-clause-lines g c =
    let event = c.args.event in
    let outs = c.play_one.new.outs.items in
    let ran : AddsRun c.args.player.now event [] outs c.play_one.new.self =
    subst (λ os. AddsRun c.args.player.now event os outs c.play_one.new.self) c.clear.ensures.items c.in_ok-play_one.ensures.ok in
    on_ok_weaker c.push_outs.result (λ added. record {
      outs = outs;
      runs = IsRun-more _ [] event [] _ _ _ (IsRun-none c.args.player.now) ran;
      lines = added ∙ ap (λ os. c.args.text.now.items ++ lines_of os) c.deref.ensures.value;
    }) c.push_outs.ensures.text
