use Rattle.std.proofs.Common.{◌≡◌, ◌-◌, length, take, false}
use Rattle.std.specs.Io.KnownBytes.{Appends}
use Rattle.timer_script.proofs.output.write_text.Given as goal

abbrev pub invariant-loop-written : goal.invariant-loop-written
invariant-loop-written g l = record {
  sent : Appends (g.S.Write.contents l.fn.writer.inner) (g.S.Write.contents l.writer.inner) (take l.written l.text);
  good : l.writer.failed ≡ false;
}

abbrev pub decreases-loop-written : goal.decreases-loop-written
decreases-loop-written g l = length l.text - l.written
