use Rattle.timer_wheels.specs.Buckets.{state_of}
use Rattle.timer_wheels.specs.Tables.{radices, layout_of_table}
use Rattle.timer_wheels.proofs.bucket_lemmas.RoomLemmas.{next_visit-with_layout}
use Rattle.timer_wheels.proofs.hier.HierWheelWheel.quiet_until.Goals as goal

pub returns-clause-next : goal.returns-clause-next
returns-clause-next g c =
    let w = c.args.self.now.wheels in
    next_visit-with_layout (layout_of_table w.table) (radices w.table) (state_of w.buckets) c.first_visit.result c.first_visit.ensures.next
