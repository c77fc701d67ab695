-- Lemmas for `Wheels::stop`: a row leaves its list.
use Rattle.std.proofs.Common.{◌≡◌, ◌<◌, ◌≤◌, ◌+◌, ℕ, List, [], ◌∷◌, sym, ap, inl, inr, subst, arith, Bool, map, filter, not, ◌==◌, Option, Some}
use Rattle.std.specs.List.{AllByRecursion}
use Rattle.timer_base.proofs.Basics.{either}
use Rattle.timer_base.specs.Order.{AreRising}
use Rattle.timer_base.proofs.OrderLaws.{All-filter, AreRising-weaken}
use Rattle.timer_base.specs.WheelState.{IsPending, held_at}
use Rattle.timer_links.specs.Lists.{without_key, AreApart, IsAloneIn}
use Rattle.timer_wheels.specs.Types.{LAST, Handle, Timer, Ghosts, list_at, Row, Rows, Table}
use Rattle.timer_wheels.specs.smooth.Wheels.{AreWheels, LeavesBits}
use Rattle.timer_wheels.specs.BucketLists.{row_timer, row_timers, AreBuckets, EachRow}
use Rattle.timer_wheels.specs.Buckets.{state_of}
use Rattle.timer_wheels.specs.Digits.{IsTable, HasDigits}
use Rattle.timer_wheels.specs.Occupied.{AreMarked}
use Rattle.timer_wheels.specs.smooth.Smooth.{slot_in, smooth_list, next_list, moved_to, mark, IsByLaw}
use Rattle.timer_wheels.specs.Tables.{radices}
use Rattle.timer_wheels.specs.declared.buckets.Buckets.{Buckets}
use Rattle.timer_wheels.proofs.bucket_lemmas.OrderedLists.{ordered-without_key}
use Rattle.timer_wheels.proofs.bucket_lemmas.RowLemmas.{all-list_at, list_at-without_key}
use Rattle.timer_wheels.proofs.smooth_lemmas.Wheels.{to_relation, to_law, lists_in_range}
use Rattle.timer_wheels.proofs.smooth_lemmas.Places.{weaker, places_left, front_gone}
use Rattle.timer_wheels.proofs.table_lemmas.TableLaws.{of_table}
use Rattle.timer_wheels.proofs.bucket_lemmas.BitLemmas.{left_marked}

-- a mark only rises as rows leave
filter_rises : (p : Row → Bool) (low : ℕ) (rows : Rows) → AllByRecursion (λ u. (row_timer u).serial ≤ LAST) rows → AreRising low (row_timers rows)
    → moved_to rows ≤ moved_to (filter p rows)
filter_rises p low [] a r = omega arith
filter_rises p low (x ∷ xs) a r = elim (either (p x)) [
  | inl k ↦ rw k (omega arith)
  | inr k ↦
      let r0 : AreRising 0 (row_timers (x ∷ xs)) = AreRising-weaken low 0 (row_timers (x ∷ xs)) (omega arith) r in
      rw k (omega (arith, (front_gone x xs a.0 r0).0, filter_rises p (row_timer x).serial xs a.1 r.1))
]

module _ {N : Type 0} {kept : Ghosts N} (t : Table) (b : Buckets N kept) (words : List ℕ) (h : AreWheels t b words) (handle : Handle) where
  pub stopped_placed : (last2 : ℕ) → AreBuckets b.slots b.last_tick b.tick last2 (map (without_key handle.place) b.links.lists)
      → EachRow (IsByLaw (radices t) b.tick (mark (radices t) b.tick (map (without_key handle.place) b.links.lists))) b.slots
      (map (without_key handle.place) b.links.lists)
  stopped_placed last2 sound =
      let digits : HasDigits (radices t) b.last_tick = rw h.clock (of_table t).digits in
      let i : IsTable (radices t) = (of_table t).is_table in
      to_law (radices t) b.last_tick b.tick last2 (mark (radices t) b.tick (map (without_key handle.place) b.links.lists)) i digits b.slots
      (map (without_key handle.place) b.links.lists) sound
      (places_left (radices t) b.tick b.slots b.links.lists (map (without_key handle.place) b.links.lists)
      (λ s l P a. subst (AllByRecursion P) (sym (list_at-without_key s handle.place b.links.lists))
      (All-filter P P (λ r. not (r.0 == handle.place)) (list_at s b.links.lists) (λ r e f. f) a))
      (λ j z l.
      let r : smooth_list (radices t) j (slot_in (radices t) j b.tick + 1) < b.slots =
      rw h.has_slots (lists_in_range t j (slot_in (radices t) j b.tick + 1) l) in
      let s : ℕ = next_list (radices t) b.tick j in
      let known = weaker (λ u. IsPending b.last_tick b.tick b.last_serial (row_timer u)) (λ u. (row_timer u).serial ≤ LAST)
      (list_at (next_list (radices t) b.tick j) b.links.lists)
      (λ u p. let q : (row_timer u).serial ≤ b.last_serial = p.serial in let m = b.sound.serial_in_range in omega arith)
      (all-list_at (λ u. IsPending b.last_tick b.tick b.last_serial (row_timer u)) b.slots b.links.lists b.sound.pending
      (next_list (radices t) b.tick j) r) in
      omega (
        arith,
        filter_rises (λ row. not (row.0 == handle.place)) 0 (list_at (next_list (radices t) b.tick j) b.links.lists) known
            (h.in_order (next_list (radices t) b.tick j) r),
        ap moved_to (list_at-without_key (next_list (radices t) b.tick j) handle.place b.links.lists),
      ))
      (ordered-without_key b.slots handle.place b.links.lists h.in_order)
      (to_relation (radices t) b.last_tick b.tick b.last_serial (mark (radices t) b.tick b.links.lists) i digits b.slots b.links.lists b.sound h.placed))

  module _ (apart : AreApart b.links.lists) (timer : Timer) (e : held_at handle (state_of b) ≡ Some timer) (emptied : Option ℕ)
      (alone : IsAloneIn handle.place b.links.lists emptied) (words2 : List ℕ) (leaves : LeavesBits b.slots emptied words words2) where
    pub stopped_marked : AreMarked b.slots words2 (map (without_key handle.place) b.links.lists)
    stopped_marked = left_marked b.sound handle apart timer e emptied alone b.slots (omega arith) (λ l front row rest k at m. m) words words2 h.marked
        leaves
