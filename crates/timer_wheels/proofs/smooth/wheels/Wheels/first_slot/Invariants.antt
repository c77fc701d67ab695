use Rattle.std.proofs.Common.{◌≡◌, ◌<◌, ◌-◌, ℕ, []}
use Rattle.timer_links.specs.Lists.{list_at}
use Rattle.timer_wheels.specs.smooth.Smooth.{slot_in, smooth_list}
use Rattle.timer_wheels.specs.Tables.{radices}
use Rattle.timer_wheels.specs.declared.table.Table.TheVariants.{Wide}
use Rattle.timer_wheels.proofs.smooth.wheels.Wheels.first_slot.Given as goal

abbrev pub invariant-loop-slot : goal.invariant-loop-slot
invariant-loop-slot g l = record {
  later : l.now < l.slot;
  none_before : (i : ℕ) → slot_in (radices Wide) l.wheel l.self.buckets.tick < i → i < l.slot
      → list_at (smooth_list (radices Wide) l.wheel i) l.self.buckets.links.lists ≡ [];
}

abbrev pub decreases-loop-slot : goal.decreases-loop-slot
decreases-loop-slot g l = l.end - l.slot
