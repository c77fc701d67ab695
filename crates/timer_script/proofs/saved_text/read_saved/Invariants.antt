use Rattle.std.proofs.Common.{◌≡◌, ◌+◌, ◌≤◌, length}
use Rattle.timer_facility.specs.Saved.{IsReadState, lines_read}
use Rattle.timer_script.specs.SavedText.{AreStateLines}
use Rattle.timer_script.proofs.saved_text.read_saved.Given as goal

abbrev pub invariant-loop-rest : goal.invariant-loop-rest
invariant-loop-rest l = record {
  within : l.saved.limits ≡ l.fn.limits;
  read : IsReadState l.saved;
  text : AreStateLines l.bytes (lines_read l.saved) l.rest;
  counted : l.line ≡ length (lines_read l.saved);
  few : l.line + length l.rest ≤ length l.bytes;
}

abbrev pub decreases-loop-rest : goal.decreases-loop-rest
decreases-loop-rest l = length l.rest
