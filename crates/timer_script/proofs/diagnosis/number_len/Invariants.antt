use Rattle.std.proofs.Common.{◌≡◌, ◌≤◌}
use Rattle.timer_base.specs.declared.limits.TheConstants.{LAST}
use Rattle.timer_script.specs.Diagnosis.{IsDigit, AreBytesBefore}
use Rattle.timer_script.proofs.diagnosis.number_len.Given as goal

abbrev pub invariant-loop-b : goal.invariant-loop-b
invariant-loop-b l = record {
  counted : l.len ≡ l.b-index;
  most : l.most ≤ LAST;
  within : l.value ≤ l.most;
  digits : AreBytesBefore IsDigit l.bytes l.len;
}
