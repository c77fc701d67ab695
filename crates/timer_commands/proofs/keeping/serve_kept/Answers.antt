use Rattle.std.proofs.Common.{◌≡◌, ◌++◌, ◌∙◌, refl, ap, inl, drop}
use Rattle.timer_journal.specs.Journal.{text_of}
use Rattle.timer_script.specs.Service.{gone_of}
use Rattle.timer_durable.specs.Beginning.{preamble_of}
use Rattle.timer_durable.specs.Durable.{origin_of}
use Rattle.timer_commands.specs.Journaling.{options_line, told_as}
use Rattle.timer_commands.proofs.KeepingLemmas.{goes_on}
use Rattle.timer_commands.proofs.keeping.serve_kept.Goals as goal

-- the peer with its journal, before the first read and after the last
pub returns : goal.returns
returns g c =
    let k = c.in-Ok.begun.kept in
    let journal : text_of (g.D.Device.seen c.new-journaled.result.journal.device)
    ≡ preamble_of (options_line c.args.options) k.beginning k.state.items ++ k.lines.items =
    ap (λ j. text_of (g.D.Device.seen j.device)) c.new-journaled.ensures.journal ∙ c.in-Ok.ensures.text
    ∙ ap (λ line. preamble_of line k.beginning k.state.items ++ k.lines.items) c.in-Ok.ensures.line in
    let a = c.resume-ended.new.peer in
    inl (
      k,
      c.in-Ok.ensures.kept,
      goes_on c.in-Ok.begun.saved c.new-journaled.result a c.resume-ended.result a.is_live (origin_of a.start a.keeping.seen a.first.at)
          a.calls.so_far a.recovered.so_far (drop a.given a.lines.items) (gone_of a.greeted.so_far) a.has_ended c.in-Ok.ensures.saved journal
          c.new-journaled.ensures.peer c.new-journaled.ensures.state c.resume-ended.ensures c.into_parts-peer.ensures.peer
          (c.told.ensures ∙ ap (told_as c.resume-ended.result) c.fault-fault.ensures) refl refl a.early a.live,
    )
