use Rattle.std.proofs.Common.{◌≡◌, sym, ◌∙◌, subst, ap, decimal, arith}
use Rattle.std.proofs.lemmas.Fmt.{parse-decimal, IsAscii-decimal}
use Rattle.std.proofs.lemmas.Str.{IsUtf8-from_ascii}
use Rattle.std.specs.Str.{IsUtf8}
use Rattle.timer_durable.proofs.Splitting.{formatted_is}
use Rattle.timer_durable.proofs.beginning.number_in.Goals.{then-number-gt-LAST-via-then-number-gt-LAST, then-number-gt-LAST-via-else-number-gt-LAST+then-ne}
use Rattle.timer_durable.proofs.beginning.number_in.Goals as goal

pub returns-in_default-clause-none : goal.returns-in_default-clause-none
returns-in_default-clause-none c = λ n fits is.
    c.in_default.ensures.cases.0 (subst IsUtf8 (sym is) (IsUtf8-from_ascii _ (IsAscii-decimal n (omega arith))))

pub returns-in_default-parse-clause-none : goal.returns-in_default-parse-clause-none
returns-in_default-parse-clause-none c = λ n fits is.
    let h = parse-decimal 64 n c.in-Ok.digits.now c.parse.result (omega arith) (omega arith) (c.in-Ok.ensures.cases.0 ∙ is) c.parse.ensures.value.0 in
    absurd (let err = c.in_default-parse.is in cc)

pub returns-then-number-gt-LAST-clause-none : goal.returns-then-number-gt-LAST-clause-none
returns-then-number-gt-LAST-clause-none c = λ n fits is.
    let h = parse-decimal 64 n c.in-Ok.digits.now c.parse.result (omega arith) (omega arith) (c.in-Ok.ensures.cases.0 ∙ is) c.parse.ensures.value.0 in
    let same : c.in-Ok-parse.number ≡ n = (let ok = c.in-Ok-parse.is in cc) in
    elim c.then-number-gt-LAST.branch [
      | then-number-gt-LAST-via-then-number-gt-LAST w ↦ omega (arith, w.if-number-gt-LAST.true, same)
      | then-number-gt-LAST-via-else-number-gt-LAST+then-ne w ↦
          formatted_is w.as_bytes.result.now c.args.bytes.now w.ne.result w.ne.ensures w.if-ne.true
          (w.as_bytes.ensures.value ∙ w.format.ensures.text ∙ ap decimal same ∙ sym is)
    ]
