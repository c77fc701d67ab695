-- Lemmas for `Wheels::restart`: a row leaves its list, and another one under its key comes to the back of one.
--
-- The list was found before the old row left: a timer that was alone in a next bucket may come back to that bucket, which
-- is empty by then. It stands there by the law, since all others were started before it.
use Rattle.std.proofs.Common.{◌≡◌, ◌≢◌, ◌<◌, ◌≤◌, ◌+◌, ℕ, List, [], ◌∷◌, length, refl, sym, ◌∙◌, ap, subst, arith, get_or-set_other, ◌++◌, map}
use Rattle.std.specs.List.{AllByRecursion}
use Rattle.timer_base.specs.WheelState.{IsPending}
use Rattle.timer_links.specs.Lists.{with_row, without_key}
use Rattle.timer_wheels.specs.Types.{LAST, Handle, Timer, Ghosts, list_at, Table}
use Rattle.timer_wheels.specs.smooth.Wheels.{AreWheels}
use Rattle.timer_wheels.specs.BucketLists.{row_timer, AreInOrder, AreBuckets, EachRow}
use Rattle.timer_wheels.specs.Buckets.{row_at}
use Rattle.timer_wheels.specs.Digits.{IsTable, HasDigits, level}
use Rattle.timer_wheels.specs.smooth.Smooth.{slot_in, smooth_list, next_list, moved_to, mark, descend_by, IsByLaw, IsSmooth}
use Rattle.timer_wheels.specs.Tables.{radices}
use Rattle.timer_wheels.specs.declared.buckets.Buckets.{Buckets}
use Rattle.timer_wheels.proofs.smooth_lemmas.Wheels.{to_relation, to_law, lists_in_range, turns_of_table}
use Rattle.timer_wheels.proofs.smooth_lemmas.Removals.{stopped_placed}
use Rattle.timer_wheels.proofs.table_lemmas.DigitLaws.{digits_down}
use Rattle.timer_wheels.proofs.bucket_lemmas.OccupiedLemmas.{no_rows_there}
use Rattle.timer_wheels.proofs.bucket_lemmas.RowLemmas.{all-list_at, list_at-without_key}
use Rattle.timer_wheels.proofs.smooth_lemmas.Lists.{one_wheel}
use Rattle.timer_wheels.proofs.smooth_lemmas.Places.{weaker, places_left}
use Rattle.timer_wheels.proofs.smooth_lemmas.Starts.{GoesByBits, goes_by_bits, newest_others, newest_kept, places_newest}
use Rattle.timer_wheels.proofs.table_lemmas.TableLaws.{of_table}
use Rattle.timer_wheels.proofs.bucket_lemmas.Updates.{removed}

module _ {N : Type 0} {kept : Ghosts N} (t : Table) (b : Buckets N kept) (words : List ℕ) (h : AreWheels t b words) (handle : Handle) (timer : Timer) (list last2 : ℕ)
    (in_range : timer.deadline ≤ b.last_tick) (fresh : b.last_serial < timer.serial) (serial : timer.serial ≤ LAST)
    (sound : AreBuckets b.slots b.last_tick b.tick last2
    (with_row list (row_at handle.place timer 0) (map (without_key handle.place) b.links.lists)))
    (ordered : AreInOrder b.slots (with_row list (row_at handle.place timer 0) (map (without_key handle.place) b.links.lists))) where
  table : IsTable (radices t)
  table = (of_table t).is_table

  digits : HasDigits (radices t) b.last_tick
  digits = rw h.clock (of_table t).digits

  ranges : (j s : ℕ) → j < length (radices t) → smooth_list (radices t) j s < b.slots
  ranges j s l = rw h.has_slots (lists_in_range t j s l)

  mid_sound : AreBuckets b.slots b.last_tick b.tick b.last_serial (map (without_key handle.place) b.links.lists)
  mid_sound = removed b.sound handle.place

  mid_placed : EachRow (IsSmooth (radices t) b.tick (mark (radices t) b.tick (map (without_key handle.place) b.links.lists))) b.slots
      (map (without_key handle.place) b.links.lists)
  mid_placed = to_relation (radices t) b.last_tick b.tick b.last_serial
      (mark (radices t) b.tick (map (without_key handle.place) b.links.lists)) table digits b.slots
      (map (without_key handle.place) b.links.lists) mid_sound (stopped_placed t b words h handle b.last_serial mid_sound)

  older : EachRow (λ s u. (row_timer u).serial < timer.serial) b.slots (map (without_key handle.place) b.links.lists)
  older s k = weaker (λ u. IsPending b.last_tick b.tick b.last_serial (row_timer u)) (λ u. (row_timer u).serial < timer.serial)
      (list_at s (map (without_key handle.place) b.links.lists))
      (λ u p. let q : (row_timer u).serial ≤ b.last_serial = p.serial in omega arith)
      (all-list_at (λ u. IsPending b.last_tick b.tick b.last_serial (row_timer u)) b.slots (map (without_key handle.place) b.links.lists)
      mid_sound.pending s k)

  -- a list that was empty stays so
  stays_empty : (s : ℕ) → list_at s b.links.lists ≡ [] → list_at s (map (without_key handle.place) b.links.lists) ≡ []
  stays_empty s e = list_at-without_key s handle.place b.links.lists ∙ ap (without_key handle.place) e

  by_law : EachRow (IsSmooth (radices t) b.tick (mark (radices t) b.tick
      (with_row list (row_at handle.place timer 0) (map (without_key handle.place) b.links.lists)))) b.slots
      (with_row list (row_at handle.place timer 0) (map (without_key handle.place) b.links.lists))
      → EachRow (IsByLaw (radices t) b.tick (mark (radices t) b.tick
      (with_row list (row_at handle.place timer 0) (map (without_key handle.place) b.links.lists)))) b.slots
      (with_row list (row_at handle.place timer 0) (map (without_key handle.place) b.links.lists))
  by_law = to_law (radices t) b.last_tick b.tick last2 (mark (radices t) b.tick
      (with_row list (row_at handle.place timer 0) (map (without_key handle.place) b.links.lists))) table digits b.slots
      (with_row list (row_at handle.place timer 0) (map (without_key handle.place) b.links.lists)) sound

  pub restarted_later : b.tick < timer.deadline
      → list ≡ smooth_list (radices t) (descend_by (radices t) b.tick words timer.deadline (level (radices t) b.tick timer.deadline))
      (slot_in (radices t) (descend_by (radices t) b.tick words timer.deadline (level (radices t) b.tick timer.deadline)) timer.deadline)
      → EachRow (IsByLaw (radices t) b.tick (mark (radices t) b.tick
      (with_row list (row_at handle.place timer 0) (map (without_key handle.place) b.links.lists)))) b.slots
      (with_row list (row_at handle.place timer 0) (map (without_key handle.place) b.links.lists))
  restarted_later later e =
      let on : ℕ = descend_by (radices t) b.tick words timer.deadline (level (radices t) b.tick timer.deadline) in
      let d : HasDigits (radices t) timer.deadline = digits_down (radices t) timer.deadline b.last_tick table in_range digits in
      let g : GoesByBits (radices t) b.tick words (descend_by (radices t) b.tick words timer.deadline (level (radices t) b.tick timer.deadline)) timer =
      goes_by_bits (radices t) b.tick words timer table d later (omega arith) serial in
      let there : list < b.slots = rw e (ranges on (slot_in (radices t) on timer.deadline) g.wheel) in
      let exists : list < length (map (without_key handle.place) b.links.lists) = omega (arith, mid_sound.has_lists) in
      by_law (places_newest (radices t) b.tick b.slots list on (map (without_key handle.place) b.links.lists) (row_at handle.place timer 0)
      exists refl ordered older mid_placed (record {
        wheel = g.wheel;
        at_list = e;
        ahead = g.ahead;
        near = g.near;
        passed = λ j a l q.
            let apart : next_list (radices t) b.tick j ≢ list = λ (y : next_list (radices t) b.tick j ≡ list).
            let w : j ≡ on = one_wheel (radices t) j on (slot_in (radices t) j b.tick + 1) (slot_in (radices t) on timer.deadline) table
            (turns_of_table t) l g.wheel (y ∙ e) in
            omega arith in
            let old : list_at (next_list (radices t) b.tick j) b.links.lists ≡ [] =
            no_rows_there (list_at (next_list (radices t) b.tick j) b.links.lists)
            (sym (h.marked.0 (next_list (radices t) b.tick j) (ranges j (slot_in (radices t) j b.tick + 1) l)) ∙ g.passed j a l q) in
            let now : list_at (next_list (radices t) b.tick j)
            (with_row list (row_at handle.place timer 0) (map (without_key handle.place) b.links.lists)) ≡ [] =
            newest_others (radices t) b.tick b.slots list on (map (without_key handle.place) b.links.lists) (row_at handle.place timer 0) exists
            (next_list (radices t) b.tick j) apart ∙ stays_empty (next_list (radices t) b.tick j) old in
            omega (arith, ap moved_to now);
        kept = λ z q.
            subst (λ (x : ℕ). moved_to (list_at x (with_row list (row_at handle.place timer 0) (map (without_key handle.place) b.links.lists)))
            < timer.serial) (e ∙ ap (smooth_list (radices t) on) q)
            (newest_kept (radices t) b.tick b.slots list on (map (without_key handle.place) b.links.lists) (row_at handle.place timer 0) exists
            ordered there);
      }))

  pub restarted_due : list ≡ b.slots
      → EachRow (IsByLaw (radices t) b.tick (mark (radices t) b.tick
      (with_row list (row_at handle.place timer 0) (map (without_key handle.place) b.links.lists)))) b.slots
      (with_row list (row_at handle.place timer 0) (map (without_key handle.place) b.links.lists))
  restarted_due e =
      let same : (s : ℕ) → s < b.slots → list_at s (with_row list (row_at handle.place timer 0) (map (without_key handle.place) b.links.lists))
      ≡ list_at s (map (without_key handle.place) b.links.lists) =
      λ s l. get_or-set_other (map (without_key handle.place) b.links.lists) list s
      (list_at list (map (without_key handle.place) b.links.lists) ++ row_at handle.place timer 0 ∷ []) [] (λ (q : s ≡ list). omega arith) in
      by_law (places_left (radices t) b.tick b.slots (map (without_key handle.place) b.links.lists)
      (with_row list (row_at handle.place timer 0) (map (without_key handle.place) b.links.lists))
      (λ s l P a. subst (AllByRecursion P) (sym (same s l)) a)
      (λ j z l. omega (arith, ap moved_to (same (next_list (radices t) b.tick j) (ranges j (slot_in (radices t) j b.tick + 1) l))))
      ordered mid_placed)
