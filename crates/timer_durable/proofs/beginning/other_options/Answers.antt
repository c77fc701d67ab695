use Rattle.std.proofs.Common.{sym, ◌∙◌, arith, refl}
use Rattle.timer_durable.proofs.Splitting.{first_part}
use Rattle.timer_durable.proofs.beginning.other_options.Goals as goal

pub returns-in-Ok : goal.returns-in-Ok
returns-in-Ok c =
    let e = c.len_before.ensures in
    first_part c.len_before.result c.args.rest.now c.in-Ok.found.items e.within e.before e.at c.in-Ok.ensures.items
