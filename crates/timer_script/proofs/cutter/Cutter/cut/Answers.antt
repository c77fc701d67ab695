use Rattle.std.proofs.Common.{◌++◌, ◌∙◌, rules, refl, subst, take_all}
use Rattle.timer_script.specs.Cutter.{HasSortedSince, StopsAt}
use Rattle.timer_script.proofs.Results.{handed_on}
use Rattle.timer_script.proofs.CutterLines.{since_none, piece_more, piece_rest}
use Rattle.timer_script.proofs.cutter.Cutter.cut.Goals as goal

pub loop-taken-init : goal.loop-taken-init
loop-taken-init c = record {
  cut = λ o came events bad kept. since_none _ c.args.piece.now kept (search rules) (search rules);
  clean = search rules;
}

pub loop-taken-preserved : goal.loop-taken-preserved
loop-taken-preserved c =
    let i = c.loop-taken.invariant in
    record {
      cut = λ o came events bad kept h. subst (λ z. HasSortedSince o c.take_lines.new.self z events bad)
          (piece_more came c.args.piece.now c.loop-taken.taken c.in_ok-taken.field-0 _ refl)
          (c.in_ok-taken.ensures.cut o _ events bad (i.cut o came events bad kept h));
      clean = c.in_ok-taken.ensures.clean ∙ i.clean;
    }

pub returns-clause-cut : goal.returns-clause-cut
returns-clause-cut c = λ o came events bad kept h. subst (λ t. HasSortedSince o c.loop-taken.self (came ++ t) events bad)
    (take_all c.loop-taken.taken c.args.piece.now c.loop-taken-test.false) (c.loop-taken.invariant.cut o came events bad kept h)

pub returns-in_err-taken-clause-stopped : goal.returns-in_err-taken-clause-stopped
returns-in_err-taken-clause-stopped c =
    let fault = c.in_err-taken.field-0.0 in
    handed_on _ c.from_residual.result fault c.from_residual.ensures.1 (λ o came events bad kept h.
    subst (λ z. StopsAt fault o z (events ++ c.take_lines.new.self.events.items)) (piece_rest came c.args.piece.now c.loop-taken.taken)
    (c.in_err-taken.ensures.stopped o _ events bad (c.loop-taken.invariant.cut o came events bad kept h)))
