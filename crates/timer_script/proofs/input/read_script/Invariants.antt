use Rattle.std.proofs.Common.{◌≡◌, ◌-◌, ◌≤◌, vec_len, false}
use Rattle.std.specs.Io.KnownBytes.{Consumes}
use Rattle.timer_script.specs.declared.input.TheConstants.{READ_LIMIT, PIECE}
use Rattle.timer_script.proofs.input.read_script.Given as goal

abbrev pub invariant-loop-bytes : goal.invariant-loop-bytes
invariant-loop-bytes g l = record {
  got : Consumes (g.R.Read.remaining l.fn.reader.inner) (g.R.Read.remaining l.reader.inner) l.bytes.items;
  good : l.reader.failed ≡ false;
  within : vec_len l.bytes ≤ READ_LIMIT;
  room : vec_len l.piece ≡ PIECE;
}

abbrev pub decreases-loop-bytes : goal.decreases-loop-bytes
decreases-loop-bytes g l = READ_LIMIT - vec_len l.bytes
