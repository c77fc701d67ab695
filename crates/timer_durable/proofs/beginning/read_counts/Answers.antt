use Rattle.std.proofs.Common.{sym, ◌∙◌, arith}
use Rattle.timer_durable.proofs.Preambles.{none_read, word_off, lines_off, same_number}
use Rattle.timer_durable.proofs.beginning.read_counts.Goals as goal

pub returns-in_err-answers-clause-none : goal.returns-in_err-answers-clause-none
returns-in_err-answers-clause-none c = none_read _ c.args.bytes.now λ b len rest counted fits is.
    let word = word_off c.args.bytes.now c.in_ok-rest.rest.now b len rest c.in_ok-rest.ensures.some is in
    let lines = lines_off c.in_ok-rest.rest.now c.in_ok-lines.rest.now c.in_ok-lines.lines b len rest counted c.in_ok-lines.ensures.some.0 word c.in_ok-lines.ensures.some.1 in
    c.in_err-answers.ensures.none b.answers _ counted.1 lines.1

pub returns-in_err-len-clause-none : goal.returns-in_err-len-clause-none
returns-in_err-len-clause-none c = none_read _ c.args.bytes.now λ b len rest counted fits is.
    let word = word_off c.args.bytes.now c.in_ok-rest.rest.now b len rest c.in_ok-rest.ensures.some is in
    let lines = lines_off c.in_ok-rest.rest.now c.in_ok-lines.rest.now c.in_ok-lines.lines b len rest counted c.in_ok-lines.ensures.some.0 word c.in_ok-lines.ensures.some.1 in
    let answers = same_number 32 c.in_ok-answers.answers b.answers c.in_ok-answers.rest.now _ (omega arith) c.in_ok-answers.ensures.some.0 counted.1 (sym c.in_ok-answers.ensures.some.1 ∙ lines.1) in
    c.in_err-len.ensures.none len rest fits answers.1
