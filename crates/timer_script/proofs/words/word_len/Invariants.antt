use Rattle.timer_script.specs.Diagnosis.{IsLetter, AreBytesBefore}
use Rattle.timer_script.proofs.words.word_len.Given as goal

abbrev pub invariant-loop-i : goal.invariant-loop-i
invariant-loop-i l = AreBytesBefore IsLetter l.line l.i
