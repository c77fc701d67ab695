use Rattle.timer_wheels.proofs.bucket_lemmas.WalkLemmas.{IsGathering}
use Rattle.timer_commands.specs.Indented.{HasGrownByBare}
use Rattle.timer_commands.proofs.PictureLemmas.{IsDrawn}
use Rattle.timer_commands.proofs.render.lists.push_rows.Given as goal

-- the timers so far that are kept are in the text
abbrev pub invariant-loop-step : goal.invariant-loop-step
invariant-loop-step g l = record {
  rows : IsGathering (IsDrawn l.naming l.filter l.fn.text.items l.text.items) l.list l.step l.links.lists l.at;
  bare : HasGrownByBare l.fn.text.items l.text.items;
}
