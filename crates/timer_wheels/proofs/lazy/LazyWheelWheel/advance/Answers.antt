use Rattle.std.proofs.Common.{ap}
use Rattle.timer_wheels.specs.Buckets.{state_of}
use Rattle.timer_wheels.specs.Tables.{layout_of_table}
use Rattle.timer_wheels.proofs.bucket_lemmas.RoomLemmas.{advances-with_layout}
use Rattle.timer_wheels.proofs.lazy.LazyWheelWheel.advance.Goals as goal

pub returns-clause-advances : goal.returns-clause-advances
returns-clause-advances g c =
    let w = c.args.self.now.files in
    let a = c.advance in
    advances-with_layout (layout_of_table w.table) (layout_of_table a.new.self.table) (ap layout_of_table a.ensures.table) a.result
    (state_of w.buckets) (state_of a.new.self.buckets) c.args.most a.ensures.advances
