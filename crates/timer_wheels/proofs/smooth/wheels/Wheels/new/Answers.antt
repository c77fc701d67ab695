use Rattle.std.proofs.Common.{◌+◌, ◌<◌, ℕ, sym, ap, ◌∙◌}
use Rattle.timer_links.proofs.NewLinks.{no_rows_at}
use Rattle.timer_wheels.specs.Types.{WheelState, list_at}
use Rattle.timer_wheels.specs.smooth.Smooth.{mark, IsByLaw}
use Rattle.timer_wheels.specs.Tables.{radices}
use Rattle.timer_wheels.specs.declared.table.Table.TheVariants.{Wide}
use Rattle.timer_wheels.proofs.bucket_lemmas.Calls.{each-none}
use Rattle.timer_wheels.proofs.bucket_lemmas.OccupiedLemmas.{marked_none}
use Rattle.timer_wheels.proofs.bucket_lemmas.OrderedLists.{ordered-none}
use Rattle.timer_wheels.proofs.table_lemmas.TableLaws.{last_named}
use Rattle.timer_wheels.proofs.smooth.wheels.Wheels.new.Goals as goal

pub invariant_of-result : goal.invariant_of-result
invariant_of-result g c =
    let b = c.in_ok-buckets.buckets in
    let empty = λ (s : ℕ) (h : s < b.slots). ap (list_at s) c.in_ok-buckets.ensures.lists ∙ no_rows_at (c.list_count.result + 1) s in
    record {
      wheels = record {
        has_slots = c.in_ok-buckets.ensures.slots ∙ c.list_count.ensures.value;
        clock = ap (λ (w : WheelState). w.last_tick) c.in_ok-buckets.ensures.state ∙ sym (last_named Wide);
        placed = each-none (IsByLaw (radices Wide) b.tick (mark (radices Wide) b.tick b.links.lists)) b.slots b.links.lists empty;
        in_order = ordered-none b.slots b.links.lists empty;
        marked = marked_none b.slots c.new-2.result b.links.lists c.new-2.ensures empty;
      };
    }
