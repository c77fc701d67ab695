use Rattle.std.proofs.Common.{rules, sym, subst, arith}
use Rattle.std.specs.Io.KnownBytes.{Consumes}
use Rattle.std.proofs.KnownBytes.{Consumes-nil}
use Rattle.timer_script.proofs.KnownBytes.{stops_reading}
use Rattle.timer_script.proofs.input.read_script.Goals as goal

pub loop-bytes-init : goal.loop-bytes-init
loop-bytes-init g c = record {
  got = subst (Consumes _ _) (sym c.new-bytes.ensures.items) (Consumes-nil (g.R.Read.remaining c.args.reader.now.inner));
  good = c.requires;
  within = omega (arith, c.new-bytes.ensures.len);
  room = c.in_ok-piece.ensures.len;
}

pub returns-in_err-n-clause-fault : goal.returns-in_err-n-clause-fault
returns-in_err-n-clause-fault g c =
    let i = c.loop-bytes.invariant in
    let stopped = stops_reading _ _ _ _ _ _ _ i.got (omega arith) (search rules) c.in_err-n.ensures.fault in
    search rules
