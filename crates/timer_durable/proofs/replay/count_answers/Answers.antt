use Rattle.std.proofs.Common.{◌≡◌, ◌+◌, ◌++◌, List, ℕ, sym, ap, ◌∙◌, arith}
use Rattle.std.proofs.lemmas.List.{drop_all}
use Rattle.timer_durable.specs.Answers.{lines_in, answers_of}
use Rattle.timer_durable.proofs.Counting.{lines_in-append}
use Rattle.timer_durable.proofs.Sifting.{sift, begun_by, begun_more, answers_more}
use Rattle.timer_durable.proofs.replay.count_answers.Goals as goal

pub returns-clause-count : goal.returns-clause-count
returns-clause-count c = λ before is.
    let l = c.loop-byte in
    let text : List ℕ = c.args.text.now in
    let end = drop_all l.byte-index text (omega (arith, c.loop-byte-test.false)) in
    let counted : l.count + 0 ≡ lines_in (sift c.args.begun text) = ap (λ t. l.count + lines_in (sift l.line t)) (sym end) ∙ l.invariant.counted in
    let all : lines_in (answers_of (before ++ text)) ≡ lines_in (answers_of before) + lines_in (sift c.args.begun text) =
    ap lines_in (answers_more c.args.begun before text is) ∙ lines_in-append (answers_of before) (sift c.args.begun text) in
    omega (arith, all, counted)

pub returns-clause-begun : goal.returns-clause-begun
returns-clause-begun c = λ before is.
    let l = c.loop-byte in
    let text : List ℕ = c.args.text.now in
    let end = drop_all l.byte-index text (omega (arith, c.loop-byte-test.false)) in
    ap (λ t. begun_by l.line t) (sym end) ∙ l.invariant.begun ∙ begun_more c.args.begun before text is
