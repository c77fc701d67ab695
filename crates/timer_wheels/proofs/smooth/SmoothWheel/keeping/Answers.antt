use Rattle.std.proofs.Common.{◌+◌, length, ap, arith}
use Rattle.timer_links.specs.Lists.{Rows}
use Rattle.timer_wheels.specs.smooth.Smooth.{slot_in, smooth_list}
use Rattle.timer_wheels.specs.Tables.{radices}
use Rattle.timer_wheels.specs.declared.table.Table.TheVariants.{Wide}
use Rattle.timer_wheels.proofs.smooth_lemmas.Totals.{heights_none}
use Rattle.timer_wheels.proofs.smooth.SmoothWheel.keeping.Goals as goal

pub invariant_of-result : goal.invariant_of-result
invariant_of-result g c =
    let b = c.in-Ok.wheels in
    record {
      in_time = λ k z l. omega (
        arith,
        ap (λ (r : Rows). length r)
            (c.in-Ok.ensures.empty (smooth_list (radices Wide) k (slot_in (radices Wide) k b.buckets.tick + 1))),
      );
      few_starts = omega arith;
      paid = omega (arith, heights_none (radices Wide) b.buckets.slots b.buckets.links.lists (λ s l. c.in-Ok.ensures.empty s));
    }
