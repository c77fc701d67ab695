use Rattle.std.proofs.Common.{◌∙◌, arith}
use Rattle.timer_script.proofs.KnownBytes.{sends_more}
use Rattle.timer_script.specs.Service.{gone_of}
use Rattle.timer_durable.proofs.Giving.{went_more}
use Rattle.timer_durable.proofs.pieces.send.Goals as goal

pub loop-written-preserved : goal.loop-written-preserved
loop-written-preserved g c =
    let i = c.loop-written.invariant in
    let e = c.in-Ok.ensures in
    record {
      sent = sends_more _ _ _ c.args.text.now c.loop-written.written c.in-Ok.n i.sent e.bytes;
      noted = went_more (gone_of c.args.calls.now.so_far) c.loop-written.calls.so_far c.went.new.self.so_far c.args.text.now c.loop-written.written
          c.in-Ok.n c.went.ensures i.noted;
      within = omega (arith, e.within, i.within);
      remaining = e.remaining ∙ i.remaining;
    }
