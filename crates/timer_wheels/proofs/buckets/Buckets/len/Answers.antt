use Rattle.std.proofs.Common.{arith}
use Rattle.timer_wheels.specs.BucketLists.{rows_below}
use Rattle.timer_wheels.proofs.bucket_lemmas.Calls.{row_count-parts, length-pending_in}
use Rattle.timer_wheels.proofs.buckets.Buckets.len.Goals as goal

pub overflow_sub-result : goal.overflow_sub-result
overflow_sub-result g c =
    let b = c.args.self.now in
    omega (arith, row_count-parts b.slots b.links.lists b.sound.has_lists, c.list_len.ensures)

pub returns : goal.returns
returns g c =
    let b = c.args.self.now in
    omega (
      arith,
      row_count-parts b.slots b.links.lists b.sound.has_lists,
      length-pending_in (rows_below b.slots b.links.lists),
      c.list_len.ensures,
    )
