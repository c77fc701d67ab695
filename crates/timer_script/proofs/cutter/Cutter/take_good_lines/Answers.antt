use Rattle.std.proofs.Common.{sym, refl, arith, ◌∙◌, ap, length, [], ◌∷◌, length-append}
use Rattle.timer_script.specs.declared.lines.Grammar.TheVariants.{Stream}
use Rattle.timer_script.proofs.LineLemmas.{stream_first}
use Rattle.timer_script.proofs.ScriptLemmas.{read_shorter}
use Rattle.timer_script.proofs.CutterLines.{lines_more}
use Rattle.timer_script.proofs.cutter.Cutter.take_good_lines.Goals as goal

pub loop-rest-smaller-in-Some : goal.loop-rest-smaller-in-Some
loop-rest-smaller-in-Some c = omega (
  arith,
  read_shorter Stream c.loop-rest.rest.now c.in-Some.after.now c.in-Some.event
      (sym (stream_first c.loop-rest.rest.now (c.in-Some.event, c.in-Some.after.now) c.in-Some.ensures)),
)

pub loop-rest-preserved-in-Some : goal.loop-rest-preserved-in-Some
loop-rest-preserved-in-Some c =
    let i = c.loop-rest.invariant in
    let grown = c.in_ok-push_event.ensures in
    let one = ap length grown ∙ length-append c.loop-rest.self.events.items (c.in-Some.event ∷ []) in
    record {
      taken = lines_more _ c.in-Some.event c.in-Some.after.now i.taken
          (sym (stream_first c.loop-rest.rest.now (c.in-Some.event, c.in-Some.after.now) c.in-Some.ensures)) grown refl refl
          (omega (arith, one, i.within)) refl refl;
      within = omega (arith, one, i.within);
      same = i.same;
    }

pub loop-rest-smaller : goal.loop-rest-smaller
loop-rest-smaller c = omega (
  arith,
  read_shorter Stream c.loop-rest.rest.now c.in-Some-read_apart.after.now c.in-Some-read_apart.event
      (sym c.in-Some-read_apart.ensures),
)

pub loop-rest-preserved : goal.loop-rest-preserved
loop-rest-preserved c =
    let i = c.loop-rest.invariant in
    let grown = c.in_ok-push.ensures.items in
    let one = ap length grown ∙ length-append c.loop-rest.self.events.items (c.in-Some-read_apart.event ∷ []) in
    record {
      taken = lines_more _ c.in-Some-read_apart.event c.in-Some-read_apart.after.now i.taken (sym c.in-Some-read_apart.ensures) grown
          refl refl (omega (arith, one, i.within)) refl refl;
      within = omega (arith, one, i.within);
      same = i.same;
    }
