use Rattle.timer_wheels.specs.Tables.{radices, layout_of_table}
use Rattle.timer_wheels.proofs.hier_lemmas.Invariant.{shown}
use Rattle.timer_wheels.proofs.bucket_lemmas.RoomLemmas.{shows-with_layout}
use Rattle.timer_wheels.proofs.hier.HierWheel.links.Goals as goal

pub returns : goal.returns
returns g c =
    let w = c.args.self.now.wheels in
    shows-with_layout (layout_of_table w.table) _ _ _ _ _ (shown (radices w.table) w.buckets w.hier.has_slots w.hier.placed w.hier.in_order)
