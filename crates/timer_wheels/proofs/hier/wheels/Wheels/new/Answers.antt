use Rattle.std.proofs.Common.{◌+◌, ◌<◌, ℕ, ap, ◌∙◌}
use Rattle.timer_wheels.specs.Types.{WheelState, list_at}
use Rattle.timer_wheels.specs.Tables.{radices}
use Rattle.timer_links.proofs.NewLinks.{no_rows_at}
use Rattle.timer_wheels.proofs.hier_lemmas.Invariant.{new_placed}
use Rattle.timer_wheels.proofs.bucket_lemmas.OccupiedLemmas.{marked_none}
use Rattle.timer_wheels.proofs.bucket_lemmas.OrderedLists.{ordered-none}
use Rattle.timer_wheels.proofs.hier.wheels.Wheels.new.Goals as goal

pub invariant_of-result : goal.invariant_of-result
invariant_of-result g c =
    let b = c.in_ok-buckets.buckets in
    let empty = λ (s : ℕ) (h : s < b.slots). ap (list_at s) c.in_ok-buckets.ensures.lists
    ∙ no_rows_at (c.buckets_of-slots.result + 1) s in
    record {
      hier = record {
        has_slots = c.in_ok-buckets.ensures.slots ∙ c.buckets_of-slots.ensures.value;
        clock = ap (λ (w : WheelState). w.last_tick) c.in_ok-buckets.ensures.state ∙ c.last_tick_of.ensures.value;
        placed = new_placed (radices c.args.table) b (c.buckets_of-slots.result + 1) c.in_ok-buckets.ensures.lists;
        in_order = ordered-none b.slots b.links.lists empty;
        marked = marked_none b.slots c.new-2.result b.links.lists c.new-2.ensures empty;
      };
    }
