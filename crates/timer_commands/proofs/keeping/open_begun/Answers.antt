use Rattle.std.proofs.Common.{◌≡◌, Some, ◌∙◌, ap, sym, subst, rules}
use Rattle.std.specs.List.{concat}
use Rattle.timer_journal.specs.Journal.{text_of}
use Rattle.timer_durable.specs.Beginning.{text_kept}
use Rattle.timer_commands.specs.Journaling.{options_line}
use Rattle.timer_commands.proofs.KeepingLemmas.{going_on_stops}
use Rattle.timer_commands.proofs.keeping.open_begun.Goals as goal

-- the groups are those of before
pub returns-in-Some-clause-fault : goal.returns-in-Some-clause-fault
returns-in-Some-clause-fault g c =
    let text : text_of (g.D.Device.seen c.args.device) ≡ text_kept (options_line c.args.options) (Some c.in-Some.kept) = search rules in
    going_on_stops c.args.options _ (g.D.Device.seen c.args.device) c.in-Some.kept c.go_on.result text c.go_on.ensures.fault
