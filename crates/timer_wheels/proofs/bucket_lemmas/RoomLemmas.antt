-- Room and the layout of the slots change nothing of what a wheel says of its timers.
use Rattle.std.proofs.Common.{◌≡◌, ◌<◌, ◌-◌, ◌⊎◌, ℕ, zero, suc, List, length, refl, sym, ◌∙◌, ap, subst, Option, None, Some, IfSome}
use Rattle.timer_base.specs.Layout.{Layout}
use Rattle.timer_base.proofs.TickLaws.{after_ticks-with_room}
use Rattle.timer_base.specs.WheelState.{with_room, with_layout, after_tick, after_ticks, Advances, IsPassing}
use Rattle.timer_wheels.specs.Types.{Timer, WheelState, KeyedLists}
use Rattle.timer_wheels.specs.hashed.Hashed.{IsNextSweep}
use Rattle.timer_wheels.specs.hier.Leap.{Leaps, IsNextVisit}
use Rattle.timer_wheels.specs.hier.Placement.{hops_of}
use Rattle.timer_wheels.specs.Shown.{ShowsBuckets}

pub next_sweep-with_room : (room n tick : ℕ) (w : WheelState) → IsNextSweep n tick w → IsNextSweep n tick (with_room room w)
next_sweep-with_room room n tick w h = record {
  in_turn = h.in_turn;
  some = h.some;
  none_before = h.none_before;
}

pub shows-with_room : (room n : ℕ) (bucket_of rounds_of : Timer → ℕ) (w : WheelState) (lists : KeyedLists)
    → ShowsBuckets n bucket_of rounds_of w lists → ShowsBuckets n bucket_of rounds_of (with_room room w) lists
shows-with_room room n bucket_of rounds_of w lists h = record {
  count = h.count;
  buckets = h.buckets;
  due = h.due;
}

pub leaps-with_room : (room : ℕ) (table : List ℕ) (moves : ℕ) (old new : WheelState) → Leaps table moves old new
    → Leaps table moves (with_room room old) (with_room room new)
leaps-with_room room table moves old new h = record {
  passed = h.passed;
  now_is = h.now_is;
  ticked = ap (with_room room) h.ticked ∙ sym (after_ticks-with_room h.passed room old);
  quiet = λ n l. ap (λ (w : WheelState). w.due) (after_ticks-with_room n room old) ∙ h.quiet n l;
  kept = h.kept;
  moves_are = h.moves_are;
  pays = h.pays;
}

-- The layout. It is the same after the change as before.

pub shows-with_layout : (layout : Layout) (n : ℕ) (bucket_of rounds_of : Timer → ℕ) (w : WheelState) (lists : KeyedLists)
    → ShowsBuckets n bucket_of rounds_of w lists → ShowsBuckets n bucket_of rounds_of (with_layout layout w) lists
shows-with_layout layout n bucket_of rounds_of w lists h = record {
  count = h.count;
  buckets = h.buckets;
  due = h.due;
}

ticks-with_layout : (l : Layout) (n : ℕ) (w : WheelState) → with_layout l (after_ticks n w) ≡ after_ticks n (with_layout l w)
ticks-with_layout l zero w = refl
ticks-with_layout l (suc n) w = ap after_tick (ticks-with_layout l n w)

pub next_visit-with_layout : (l : Layout) (table : List ℕ) (w : WheelState) (o : Option ℕ)
    → IfSome o (λ tick. IsNextVisit table tick w) → IfSome o (λ tick. IsNextVisit table tick (with_layout l w))
next_visit-with_layout l table w None h = tt
next_visit-with_layout l table w (Some tick) h = record {
  none_before = h.none_before;
  some = subst (λ (u : WheelState). (0 < length u.due) ⊎ (0 < hops_of table w.now (tick - w.now) w.pending))
      (ticks-with_layout l (tick - w.now) w) h.some;
}

module _ (l m : Layout) (e : m ≡ l) (passed : ℕ) (old new : WheelState) where
  ticked-with_layout : new ≡ after_ticks passed old → with_layout m new ≡ after_ticks passed (with_layout l old)
  ticked-with_layout h = ap (λ (k : Layout). with_layout k new) e ∙ ap (with_layout l) h ∙ ticks-with_layout l passed old

  pub advances-with_layout : (most : ℕ) → Advances most passed old new → Advances most passed (with_layout l old) (with_layout m new)
  advances-with_layout most h = record {
    some = h.some;
    at_most = h.at_most;
    ticked = ticked-with_layout h.ticked;
    quiet = λ n k. ap (λ (w : WheelState). w.due) (sym (ticks-with_layout l n old)) ∙ h.quiet n k;
    early = h.early;
  }

  pub passing-with_layout : IsPassing passed old new → IsPassing passed (with_layout l old) (with_layout m new)
  passing-with_layout h = record {
    ticked = ticked-with_layout h.ticked;
    quiet = λ n k. ap (λ (w : WheelState). w.due) (sym (ticks-with_layout l n old)) ∙ h.quiet n k;
  }
