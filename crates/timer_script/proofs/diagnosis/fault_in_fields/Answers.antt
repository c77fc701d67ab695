use Rattle.std.proofs.Common.{◌+◌, inl, inr, rules}
use Rattle.std.proofs.lemmas.List.{take_rest}
use Rattle.timer_script.specs.Diagnosis.{IsByteAt}
use Rattle.timer_script.proofs.DiagnosisLemmas.{in_number, end_of_number}
use Rattle.timer_script.proofs.diagnosis.fault_in_fields.Goals.{then-len-eq0-via-then-len-eq0, then-len-eq0-via-else-len-eq0+then-is_digit_at}
use Rattle.timer_script.proofs.diagnosis.fault_in_fields.Goals as goal

pub fault_in_number-requires : goal.fault_in_number-requires
fault_in_number-requires c =
    let line = c.args.line.now in
    let at = c.loop-field.at in
    let space : IsByteAt 32 line at = search rules in
    in_number line _ at c.number_len-len.result (take_rest line (at + 1)) space c.number_len-len.ensures.within
    c.number_len-len.ensures.digits
    (elim c.then-len-eq0.branch [
      | then-len-eq0-via-then-len-eq0 w ↦ inl w.if-len-eq0.true
      | then-len-eq0-via-else-len-eq0+then-is_digit_at w ↦ inr (w.is_digit_at.ensures.0 w.if-is_digit_at.true)
    ])

pub loop-field-preserved : goal.loop-field-preserved
loop-field-preserved c =
    let line = c.args.line.now in
    let at = c.loop-field.at in
    let space : IsByteAt 32 line at = search rules in
    end_of_number c.args.grammar line _ at c.number_len-len.result _ (take_rest line (at + 1)) space c.number_len-len.ensures.within
    c.number_len-len.ensures.digits c.if-len-eq0.false (search rules)
