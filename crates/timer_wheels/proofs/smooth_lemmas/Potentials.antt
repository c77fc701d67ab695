-- Lemmas for `Wheels`: what a start and a restart add to the potential, exactly.
use Rattle.std.proofs.Common.{◌≡◌, ◌<◌, ◌≤◌, ◌+◌, ◌*◌, ℕ, suc, List, [], ◌∷◌, ◌++◌, length, refl, sym, ◌∙◌, ap, inl, inr, subst, arith, true, false, nat_lt, map, slice_set, Some}
use Rattle.std.specs.List.{AllByRecursion}
use Rattle.std.proofs.lemmas.Bool.{cases_lt}
use Rattle.std.proofs.lemmas.Bool.Decides.{nat_tests}
use Rattle.timer_base.specs.WheelState.{IsPending, IsDue, held_at}
use Rattle.timer_links.proofs.Rows.{StandsIn, stands_in}
use Rattle.timer_links.specs.Lists.{with_row, without_key, AreApart}
use Rattle.timer_wheels.specs.Types.{LAST, Handle, Timer, Ghosts, Node, list_at, KeyedLists, Row, Rows, Table}
use Rattle.timer_wheels.specs.smooth.Wheels.{AreWheels, wheel_of}
use Rattle.timer_wheels.specs.BucketLists.{row_timer}
use Rattle.timer_wheels.specs.Buckets.{state_of}
use Rattle.timer_wheels.specs.Digits.{IsTable, HasDigits, level}
use Rattle.timer_wheels.specs.smooth.Smooth.{slot_in, smooth_list, smooth_level, smooth_bucket, mark, height, heights, descend_by, IsByLaw}
use Rattle.timer_wheels.specs.Tables.{radices}
use Rattle.timer_wheels.specs.declared.buckets.Buckets.{Buckets}
use Rattle.timer_wheels.proofs.smooth_lemmas.Wheels.{lists_in_range, turns_of_table, bits_are_law}
use Rattle.timer_wheels.proofs.table_lemmas.DigitLaws.{digits_down, level_in_table}
use Rattle.timer_wheels.proofs.bucket_lemmas.Handles.{held_node}
use Rattle.timer_wheels.proofs.bucket_lemmas.RowLemmas.{all-list_at}
use Rattle.timer_wheels.proofs.smooth_lemmas.Heights.{height_is, heights_above, heights_set, heights_push, heights_push_above}
use Rattle.timer_wheels.proofs.smooth_lemmas.Laws.{descend_below}
use Rattle.timer_wheels.proofs.table_lemmas.TableLaws.{of_table}

module _ {N : Type 0} {kept : Ghosts N} (t : Table) (b : Buckets N kept) (words : List ℕ) (h : AreWheels t b words) (timer : Timer) (list : ℕ)
    (in_range : timer.deadline ≤ b.last_tick) (fresh : b.last_serial < timer.serial) (serial : timer.serial ≤ LAST) where
  table : IsTable (radices t)
  table = (of_table t).is_table

  -- a row that comes to the list where the bits lead
  pub later_heights : (row : Row) (lists : KeyedLists) → length lists ≡ b.slots + 1 → b.tick < timer.deadline
      → list ≡ smooth_list (radices t) (descend_by (radices t) b.tick words timer.deadline (level (radices t) b.tick timer.deadline))
      (slot_in (radices t) (descend_by (radices t) b.tick words timer.deadline (level (radices t) b.tick timer.deadline)) timer.deadline)
      → heights (radices t) b.slots (with_row list row lists) ≡ heights (radices t) b.slots lists + wheel_of t b timer
  later_heights row lists len later e =
      let digits : HasDigits (radices t) b.last_tick = rw h.clock (of_table t).digits in
      let d : HasDigits (radices t) timer.deadline = digits_down (radices t) timer.deadline b.last_tick table in_range digits in
      let k : level (radices t) b.tick timer.deadline < length (radices t) = level_in_table (radices t) b.tick timer.deadline table d later in
      let by : descend_by (radices t) b.tick words timer.deadline (level (radices t) b.tick timer.deadline)
      ≡ smooth_level (radices t) b.tick (mark (radices t) b.tick b.links.lists) timer =
      bits_are_law t b words h timer fresh serial (level (radices t) b.tick timer.deadline) k in
      let at : list ≡ smooth_list (radices t) (smooth_level (radices t) b.tick (mark (radices t) b.tick b.links.lists) timer)
      (slot_in (radices t) (smooth_level (radices t) b.tick (mark (radices t) b.tick b.links.lists) timer) timer.deadline) =
      e ∙ ap (λ (x : ℕ). smooth_list (radices t) x (slot_in (radices t) x timer.deadline)) by in
      let below : smooth_level (radices t) b.tick (mark (radices t) b.tick b.links.lists) timer < length (radices t) =
      omega (arith, descend_below (radices t) b.tick (mark (radices t) b.tick b.links.lists) (level (radices t) b.tick timer.deadline) timer) in
      let there : list < b.slots = rw (at, h.has_slots) (lists_in_range t (smooth_level (radices t) b.tick (mark (radices t) b.tick b.links.lists) timer)
      (slot_in (radices t) (smooth_level (radices t) b.tick (mark (radices t) b.tick b.links.lists) timer) timer.deadline) below) in
      let high : height (radices t) list ≡ smooth_level (radices t) b.tick (mark (radices t) b.tick b.links.lists) timer =
      ap (height (radices t)) at ∙ height_is (radices t) (smooth_level (radices t) b.tick (mark (radices t) b.tick b.links.lists) timer)
      (slot_in (radices t) (smooth_level (radices t) b.tick (mark (radices t) b.tick b.links.lists) timer) timer.deadline) table (turns_of_table t) below in
      let is : nat_lt b.tick timer.deadline ≡ true = grind (arith, nat_tests) in
      heights_push (radices t) b.slots list row lists there (omega arith)
      ∙ ap (λ (x : ℕ). heights (radices t) b.slots lists + x) (high ∙ (rw is refl))

  -- a row that comes to what is due
  pub due_heights : (row : Row) (lists : KeyedLists) → timer.deadline ≤ b.tick → list ≡ b.slots
      → heights (radices t) b.slots (with_row list row lists) ≡ heights (radices t) b.slots lists + wheel_of t b timer
  due_heights row lists past e =
      let is : nat_lt b.tick timer.deadline ≡ false = grind (arith, nat_tests) in
      let none : wheel_of t b timer ≡ 0 = rw is refl in
      omega (arith, heights_push_above (radices t) b.slots list row lists (omega arith))

-- The row of a timer leaves.

-- what holds of each row of a list holds of one among others
among : (P : Row → Type 0) (front rest : Rows) (row : Row) → AllByRecursion P (front ++ row ∷ rest) → P row
among P [] rest row a = a.0
among P (x ∷ xs) rest row a = among P xs rest row a.1

length-around : (front rest : Rows) (row : Row) → length (front ++ row ∷ rest) ≡ length (front ++ rest) + 1
length-around [] rest row = (let e : suc (length rest) ≡ length rest + 1 = omega arith in e)
length-around (x ∷ xs) rest row = (let h = length-around xs rest row in omega arith)

module _ {N : Type 0} {kept : Ghosts N} (t : Table) (b : Buckets N kept) (words : List ℕ) (h : AreWheels t b words) (handle : Handle) (apart : AreApart b.links.lists) (timer : Timer)
    (e : held_at handle (state_of b) ≡ Some timer) where
  node : Node
  node = (held_node b.sound apart handle timer e).node

  there : StandsIn handle.place (held_node b.sound apart handle timer e).node b.links.lists
  there = stands_in handle.place (held_node b.sound apart handle timer e).node b.links.lists (held_node b.sound apart handle timer e).at

  rest_is : map (without_key handle.place) b.links.lists ≡ slice_set b.links.lists there.l (there.front ++ there.rest)
  rest_is = (apart there.l there.front (handle.place, (held_node b.sound apart handle timer e).node) there.rest there.in_range there.at).1

  pending_high : there.l < b.slots → height (radices t) there.l ≡ wheel_of t b timer
  pending_high l =
      let row : Row = (handle.place, (held_node b.sound apart handle timer e).node) in
      let law = among (IsByLaw (radices t) b.tick (mark (radices t) b.tick b.links.lists) there.l) there.front there.rest
      (handle.place, (held_node b.sound apart handle timer e).node)
      (subst (AllByRecursion (IsByLaw (radices t) b.tick (mark (radices t) b.tick b.links.lists) there.l)) there.at (h.placed there.l l)) in
      let pend = among (λ r. IsPending b.last_tick b.tick b.last_serial (row_timer r)) there.front there.rest
      (handle.place, (held_node b.sound apart handle timer e).node)
      (subst (AllByRecursion (λ r. IsPending b.last_tick b.tick b.last_serial (row_timer r))) there.at
      (all-list_at (λ r. IsPending b.last_tick b.tick b.last_serial (row_timer r)) b.slots b.links.lists b.sound.pending there.l l)) in
      let same : (held_node b.sound apart handle timer e).node.timer ≡ timer = (held_node b.sound apart handle timer e).timer in
      let at : smooth_bucket (radices t) b.tick (mark (radices t) b.tick b.links.lists) timer ≡ there.l =
      ap (smooth_bucket (radices t) b.tick (mark (radices t) b.tick b.links.lists)) (sym same) ∙ law.0 in
      let later : b.tick < timer.deadline = subst (λ (x : Timer). b.tick < x.deadline) same pend.later in
      let range : timer.deadline ≤ b.last_tick = subst (λ (x : Timer). x.deadline ≤ b.last_tick) same pend.in_range in
      let is : nat_lt b.tick timer.deadline ≡ true = grind (arith, nat_tests) in
      let i : IsTable (radices t) = (of_table t).is_table in
      let digits : HasDigits (radices t) b.last_tick = rw h.clock (of_table t).digits in
      let d : HasDigits (radices t) timer.deadline = digits_down (radices t) timer.deadline b.last_tick i range digits in
      let k : level (radices t) b.tick timer.deadline < length (radices t) = level_in_table (radices t) b.tick timer.deadline i d later in
      let below : smooth_level (radices t) b.tick (mark (radices t) b.tick b.links.lists) timer < length (radices t) =
      omega (arith, descend_below (radices t) b.tick (mark (radices t) b.tick b.links.lists) (level (radices t) b.tick timer.deadline) timer) in
      ap (height (radices t)) (sym at)
      ∙ (height_is (radices t) (smooth_level (radices t) b.tick (mark (radices t) b.tick b.links.lists) timer)
      (slot_in (radices t) (smooth_level (radices t) b.tick (mark (radices t) b.tick b.links.lists) timer) timer.deadline) i (turns_of_table t) below
      ∙ (rw is refl))

  due_high : there.l ≡ b.slots → wheel_of t b timer ≡ 0
  due_high q =
      let due = among (λ r. IsDue b.tick b.last_serial (row_timer r)) there.front there.rest
      (handle.place, (held_node b.sound apart handle timer e).node)
      (subst (AllByRecursion (λ r. IsDue b.tick b.last_serial (row_timer r))) (ap (λ (x : ℕ). list_at x b.links.lists) (sym q) ∙ there.at) b.sound.due) in
      let same : (held_node b.sound apart handle timer e).node.timer ≡ timer = (held_node b.sound apart handle timer e).timer in
      let now : timer.deadline ≡ b.tick = subst (λ (x : Timer). x.deadline ≡ b.tick) same due.deadline in
      let is : nat_lt b.tick timer.deadline ≡ false = grind (arith, nat_tests) in
      rw is refl

  pub stopped_heights : heights (radices t) b.slots (map (without_key handle.place) b.links.lists) + wheel_of t b timer
      ≡ heights (radices t) b.slots b.links.lists
  stopped_heights =
      let new : heights (radices t) b.slots (map (without_key handle.place) b.links.lists)
      ≡ heights (radices t) b.slots (slice_set b.links.lists there.l (there.front ++ there.rest)) = ap (heights (radices t) b.slots) rest_is in
      elim (cases_lt there.l b.slots) [
        | inl l ↦
            let set = heights_set (radices t) b.slots there.l (there.front ++ there.rest) b.links.lists l there.in_range in
            let was : height (radices t) there.l * length (list_at there.l b.links.lists)
            ≡ height (radices t) there.l * (length (there.front ++ there.rest) + 1) =
            ap (λ (x : ℕ). height (radices t) there.l * x) (ap (λ (r : Rows). length r) there.at
            ∙ length-around there.front there.rest (handle.place, (held_node b.sound apart handle timer e).node)) in
            let one : height (radices t) there.l * (length (there.front ++ there.rest) + 1)
            ≡ height (radices t) there.l * length (there.front ++ there.rest) + height (radices t) there.l = omega arith in
            omega (arith, pending_high l)
        | inr l ↦
            let last : there.l ≡ b.slots = (let r = there.in_range in let n = b.sound.has_lists in omega arith) in
            omega (arith, due_high last, heights_above (radices t) b.slots there.l (there.front ++ there.rest) b.links.lists l)
      ]
