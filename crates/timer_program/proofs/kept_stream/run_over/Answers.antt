use Rattle.std.proofs.Common.{inl}
use Rattle.timer_program.proofs.KeptStreamLemmas.{wanted_as}
use Rattle.timer_program.proofs.kept_stream.run_over.Goals as goal

-- the stream was served over the journal that was opened, and what it ended with was reported
pub returns : goal.returns
returns g c = inl (
  c.in-Ok.device,
  c.in-Ok.ensures.opened,
  record { streams = c.serve_kept-streams.result.0; faults = c.serve_kept-streams.new.faults },
  c.serve_kept-streams.result.1,
  wanted_as _ _ _ _ _ _ (g.J.Device.seen c.in-Ok.device) _ _ _ c.has_wakeups-wakeups.ensures c.serve_kept-streams.ensures,
  c.end_kept-ending.ensures,
)
