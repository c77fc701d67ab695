use Rattle.std.proofs.Common.{◌≡◌, ◌++◌, ◌-◌, List, ℕ, [], sym, ap, ◌∙◌, append-nil, ne_eqb, arith}
use Rattle.std.proofs.lemmas.List.{drop_all, drop_more}
use Rattle.timer_durable.specs.Answers.{after_lines, answers_of, answers_in}
use Rattle.timer_durable.proofs.Counting.{nothing_after, after_lines-append}
use Rattle.timer_durable.proofs.Sifting.{sift, answers_more, skipped_byte}
use Rattle.timer_durable.proofs.replay.push_answers.Goals as goal

pub loop-byte-preserved-then-left-gt0 : goal.loop-byte-preserved-then-left-gt0
loop-byte-preserved-then-left-gt0 c =
    let l = c.loop-byte in
    record {
      all = skipped_byte l.to.items _ l.left c.lines_left-left.result c.first_byte-first.result _ l.line c.begun_behind-line.result _ _
          (drop_more c.args.text.now l.byte-index _ c.loop-byte-test.true) c.first_byte-first.ensures c.begun_behind-line.ensures
          (ne_eqb c.first_byte-first.result 119 c.if-first-eq-WAKEUP.false) c.if-left-gt0.true c.lines_left-left.ensures l.invariant.all;
      kept = l.invariant.kept;
    }

pub returns-clause-ok : goal.returns-clause-ok
returns-clause-ok c = λ before is seen skipped so.
    let l = c.loop-byte in
    let text : List ℕ = c.args.text.now in
    let to : List ℕ = c.args.to.now.items in
    let end = drop_all l.byte-index text (omega (arith, c.loop-byte-test.false)) in
    let rest : [] ≡ after_lines l.left (sift l.line _) = nothing_after l.left ∙ ap (λ t. after_lines l.left (sift l.line t)) (sym end) in
    let more : List ℕ = sift c.args.begun text in
    let all : after_lines seen (answers_of (before ++ text)) ≡ to ++ after_lines c.args.skipped more =
    ap (after_lines seen) (answers_more c.args.begun before text is) ∙ after_lines-append seen (answers_of before) more
    ∙ ap (λ t. t ++ after_lines (seen - answers_in before) more) (sym so) ∙ ap (λ k. to ++ after_lines k more) (sym skipped) in
    sym (append-nil l.to.items) ∙ ap (λ z. l.to.items ++ z) rest ∙ l.invariant.all ∙ sym all
