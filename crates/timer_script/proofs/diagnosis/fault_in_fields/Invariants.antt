use Rattle.timer_script.specs.Diagnosis.{IsEndOf}
use Rattle.timer_script.proofs.diagnosis.fault_in_fields.Given as goal

abbrev pub invariant-loop-field : goal.invariant-loop-field
invariant-loop-field l = IsEndOf l.grammar l.before l.line l.at
