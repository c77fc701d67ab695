use Rattle.std.proofs.Common.{◌<◌, length, arith}
use Rattle.timer_wheels.proofs.bucket_lemmas.DeadlineLemmas.{least-more}
use Rattle.timer_wheels.proofs.deadlines.least_below.Goals as goal

pub loop-list-preserved : goal.loop-list-preserved
loop-list-preserved g c =
    let r : c.args.count < length c.args.links.now.lists = c.requires in
    let t : c.loop-list.list < c.args.count = c.loop-list-test.true in
    least-more c.loop-list.list c.args.links.now.lists c.loop-list.least c.least_in.result c.earlier-least.result
    (omega arith) c.loop-list.invariant c.least_in.ensures c.earlier-least.ensures
