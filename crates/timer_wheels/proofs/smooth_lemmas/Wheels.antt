-- Lemmas for `Wheels`: its invariant, by the laws of the smooth wheel.
use Rattle.std.proofs.Common.{◌≡◌, ◌≢◌, ◌<◌, ◌≤◌, ◌⊎◌, ◌+◌, ◌-◌, ◌*◌, ◌%◌, ℕ, zero, suc, List, [], ◌∷◌, ◌++◌, length, refl, sym, ◌∙◌, ap, inl, inr, subst, arith, slice_set, get_or-set_other, ◌==◌, Some}
use Rattle.std.specs.List.{AllByRecursion}
use Rattle.std.proofs.lemmas.Bool.{cases_eq, cases_lt}
use Rattle.timer_base.proofs.Basics.{some_same, some_none}
use Rattle.timer_wheels.specs.Types.{LAST, Timer, Ghosts, list_at, KeyedLists, Row, Rows, Table}
use Rattle.timer_wheels.specs.Buckets.{row_at}
use Rattle.timer_base.specs.WheelState.{IsPending}
use Rattle.timer_links.specs.Lists.{with_row, appended, front_moved, first_row_moved}
use Rattle.timer_wheels.specs.smooth.Wheels.{AreWheels}
use Rattle.timer_wheels.specs.BucketLists.{row_timer, entries_of, AreInOrder, AreBuckets, EachRow, wheel_state}
use Rattle.timer_wheels.specs.Digits.{IsTable, HasDigits, radix, level}
use Rattle.timer_wheels.specs.hier.Migration.{first_deadline}
use Rattle.timer_wheels.specs.Occupied.{bit_of, filled, AreMarked}
use Rattle.timer_wheels.specs.smooth.Smooth.{slot_in, smooth_list, smooth_slots, next_list, heights, ticks_to_half, moved_to, mark, smooth_bucket, smooth_level, descend, descend_by, HasTurns, IsByLaw, IsSmooth, Stands, IsStep, AreTickedLists, stepped}
use Rattle.timer_wheels.specs.Tables.{radices}
use Rattle.timer_wheels.specs.declared.buckets.Buckets.{Buckets}
use Rattle.timer_wheels.proofs.bucket_lemmas.AllLemmas.{all-both}
use Rattle.timer_wheels.proofs.table_lemmas.DigitLaws.{digits_down, level_in_table}
use Rattle.timer_wheels.proofs.bucket_lemmas.OccupiedLemmas.{filled_behind, marked_set, marked_same}
use Rattle.timer_wheels.proofs.bucket_lemmas.OrderedLists.{ordered-same}
use Rattle.timer_wheels.proofs.bucket_lemmas.RowLemmas.{all-list_at}
use Rattle.timer_wheels.proofs.smooth_lemmas.Laws.{started_stands, stands_by_law}
use Rattle.timer_wheels.proofs.smooth_lemmas.Moves.{after_from, after_to, after_others}
use Rattle.timer_wheels.proofs.smooth_lemmas.Descent.{descend_is}
use Rattle.timer_wheels.proofs.smooth_lemmas.Heights.{height_is, heights_moved, heights_due}
use Rattle.timer_wheels.proofs.smooth_lemmas.Lists.{one_wheel, same_rest_of, radix_above, ahead_within}
use Rattle.timer_wheels.proofs.smooth_lemmas.Pace.{past_half}
use Rattle.timer_wheels.proofs.smooth_lemmas.Slots.{slots_mono}
use Rattle.timer_wheels.proofs.smooth_lemmas.Weights.{multiples, weight_some}
use Rattle.timer_wheels.proofs.smooth_lemmas.Places.{weaker, places_with_row, places_left}
use Rattle.timer_wheels.proofs.smooth_lemmas.Steps.{step, bit_is_mark}
use Rattle.timer_wheels.proofs.smooth_lemmas.Ticks.{ticked, new_l, new_others, next_same}
use Rattle.timer_wheels.proofs.bucket_lemmas.Calls.{no_rows}
use Rattle.timer_wheels.proofs.table_lemmas.TableLaws.{of_table, turns_in_range}

-- Tables.

pub turns_of_table : (t : Table) → HasTurns (radices t)
turns_of_table t = (of_table t).turns

pub lists_in_range : (t : Table) (j s : ℕ) → j < length (radices t) → smooth_list (radices t) j s < smooth_slots (radices t)
lists_in_range t = turns_in_range (radices t) (of_table t).turns (of_table t).two

-- The law and the relation, for pending rows.

module _ (table : List ℕ) (last_tick now last : ℕ) (marks : ℕ → ℕ) (i : IsTable table) (digits : HasDigits table last_tick) where
  deadline_digits : (row : Row) → IsPending last_tick now last (row_timer row) → HasDigits table (row_timer row).deadline
  deadline_digits row p = digits_down table (row_timer row).deadline last_tick i p.in_range digits

  by_relation : (s : ℕ) (row : Row) → IsPending last_tick now last (row_timer row) → IsByLaw table now marks s row → IsSmooth table now marks s row
  by_relation s row p h = record {
    on = smooth_level table now marks (row_timer row);
    stands = subst (λ (x : ℕ). Stands table now marks x (smooth_level table now marks (row_timer row)) (row_timer row)) h.0
        (started_stands table now marks (row_timer row) i (deadline_digits row p) p.later);
    no_rounds = h.1;
  }

  by_law : (s : ℕ) (row : Row) → IsPending last_tick now last (row_timer row) → IsSmooth table now marks s row → IsByLaw table now marks s row
  by_law s row p h = (stands_by_law table now marks s h.on (row_timer row) i (deadline_digits row p) p.later h.stands, h.no_rounds)

  module _ (n : ℕ) (lists : KeyedLists) (b : AreBuckets n last_tick now last lists) where
    pending_rows : (s : ℕ) → s < n → AllByRecursion (λ row. IsPending last_tick now last (row_timer row)) (list_at s lists)
    pending_rows = all-list_at (λ row. IsPending last_tick now last (row_timer row)) n lists b.pending

    pub to_relation : EachRow (IsByLaw table now marks) n lists → EachRow (IsSmooth table now marks) n lists
    to_relation placed s h = all-both (λ row. IsPending last_tick now last (row_timer row)) (IsByLaw table now marks s) (IsSmooth table now marks s)
        (list_at s lists) (by_relation s) (pending_rows s h) (placed s h)

    pub to_law : EachRow (IsSmooth table now marks) n lists → EachRow (IsByLaw table now marks) n lists
    to_law placed s h = all-both (λ row. IsPending last_tick now last (row_timer row)) (IsSmooth table now marks s) (IsByLaw table now marks s)
        (list_at s lists) (by_law s) (pending_rows s h) (placed s h)

-- One move.

-- the first row, if its deadline is known
pub record HasFirst (d : ℕ) (rows : Rows) : Type 0 where
  pub row : Row
  pub rest : Rows
  pub at : rows ≡ row ∷ rest
  pub deadline : (row_timer row).deadline ≡ d

pub first_row : (d : ℕ) (rows : Rows) → Some d ≡ first_deadline rows → HasFirst d rows
first_row d [] e = absurd (some_none d e)
first_row d (x ∷ xs) e = record { row = x; rest = xs; at = refl; deadline = some_same (row_timer x).deadline d (sym e) }

-- what one move leaves
pub record IsMoved {N : Type 0} {kept : Ghosts N} (t : Table) (b : Buckets N kept) (wheel from to : ℕ) (new : KeyedLists) : Type 0 where
  pub sound : AreBuckets b.slots b.last_tick b.tick b.last_serial new
  pub state : wheel_state b.slots b.last_tick b.tick b.last_serial new ≡ wheel_state b.slots b.last_tick b.tick b.last_serial b.links.lists
  pub placed : EachRow (IsByLaw (radices t) b.tick (mark (radices t) b.tick new)) b.slots new
  pub in_order : AreInOrder b.slots new
  pub fewer : length (list_at from new) + 1 ≡ length (list_at from b.links.lists)
  pub to_in : to < b.slots
  pub from_in : from < b.slots
  pub apart : to ≢ from
  pub others : (s : ℕ) → s ≢ from → s ≢ to → list_at s new ≡ list_at s b.links.lists
  pub there : filled (list_at to new) ≡ 1
  pub was : filled (list_at from b.links.lists) ≡ 1
  pub falls : heights (radices t) b.slots new + 1 ≤ heights (radices t) b.slots b.links.lists
  -- in the first half of the bucket's time it goes one wheel down
  pub one_down : (ticks_to_half (radices t) b.tick wheel ≡ 0 → length (list_at from b.links.lists) ≡ 0)
      → heights (radices t) b.slots new + 1 ≡ heights (radices t) b.slots b.links.lists
  -- and it comes to no next bucket
  pub next_same : (ticks_to_half (radices t) b.tick wheel ≡ 0 → length (list_at from b.links.lists) ≡ 0) → (j : ℕ) → 0 < j
      → j < length (radices t) → j ≢ wheel → list_at (next_list (radices t) b.tick j) new ≡ list_at (next_list (radices t) b.tick j) b.links.lists

module _ {N : Type 0} {kept : Ghosts N} (t : Table) (b : Buckets N kept) (words : List ℕ) (h : AreWheels t b words) (k d to : ℕ) (wheel : suc k < length (radices t))
    (e : Some d ≡ first_deadline (list_at (next_list (radices t) b.tick (suc k)) b.links.lists))
    (goes : to ≡ smooth_list (radices t) (descend_by (radices t) b.tick words d k)
    (slot_in (radices t) (descend_by (radices t) b.tick words d k) d)) where
  f : HasFirst d (list_at (next_list (radices t) b.tick (suc k)) b.links.lists)
  f = first_row d (list_at (next_list (radices t) b.tick (suc k)) b.links.lists) e

  digits : HasDigits (radices t) b.last_tick
  digits = rw h.clock (of_table t).digits

  i : IsTable (radices t)
  i = (of_table t).is_table

  placed : EachRow (IsSmooth (radices t) b.tick (mark (radices t) b.tick b.links.lists)) b.slots b.links.lists
  placed = to_relation (radices t) b.last_tick b.tick b.last_serial (mark (radices t) b.tick b.links.lists) i digits b.slots b.links.lists
      b.sound h.placed

  ranges : (j s : ℕ) → j < length (radices t) → smooth_list (radices t) j s < b.slots
  ranges j s l = rw h.has_slots (lists_in_range t j s l)

  a_step : IsStep (radices t) b.slots b.last_tick b.tick b.last_serial k b.links.lists f.row f.rest
  a_step = step (radices t) b.slots b.last_tick b.tick b.last_serial k b.links.lists f.row f.rest i (turns_of_table t) b.sound h.in_order placed wheel ranges f.at

  marks_by_bits : descend_by (radices t) b.tick words d k ≡ a_step.on
  marks_by_bits = ap (λ (x : ℕ). descend_by (radices t) b.tick words x k) (sym f.deadline) ∙ a_step.by_bits words h.marked.0

  to_is : to ≡ smooth_list (radices t) a_step.on (slot_in (radices t) a_step.on (row_timer f.row).deadline)
  to_is = goes ∙ (ap (λ (x : ℕ). smooth_list (radices t) x (slot_in (radices t) x d)) marks_by_bits
      ∙ ap (λ (x : ℕ). smooth_list (radices t) a_step.on (slot_in (radices t) a_step.on x)) (sym f.deadline))

  new_is : (new : KeyedLists) → new ≡ front_moved (next_list (radices t) b.tick (suc k)) to b.links.lists
      → new ≡ stepped (radices t) b.tick k a_step.on b.links.lists f.row f.rest
  new_is new q = q ∙ (ap (first_row_moved (next_list (radices t) b.tick (suc k)) to b.links.lists) f.at
      ∙ ap (λ (x : ℕ). with_row x f.row (slice_set b.links.lists (next_list (radices t) b.tick (suc k)) f.rest)) to_is)

  from_after : list_at (next_list (radices t) b.tick (suc k)) (stepped (radices t) b.tick k a_step.on b.links.lists f.row f.rest) ≡ f.rest
  from_after = after_from b.sound h.in_order a_step.move

  -- where it goes is no next bucket, while ticks are left
  not_next : ticks_to_half (radices t) b.tick (suc k) ≢ 0 → (j : ℕ) → 0 < j → j < length (radices t)
      → next_list (radices t) b.tick j ≢ smooth_list (radices t) a_step.on (slot_in (radices t) a_step.on (row_timer f.row).deadline)
  not_next some j z l = λ (y : next_list (radices t) b.tick j ≡ smooth_list (radices t) a_step.on
      (slot_in (radices t) a_step.on (row_timer f.row).deadline)).
      let w : a_step.on ≡ j = sym (one_wheel (radices t) j a_step.on (slot_in (radices t) j b.tick + 1)
      (slot_in (radices t) a_step.on (row_timer f.row).deadline) i (turns_of_table t) l a_step.wheel y) in
      let in_next : slot_in (radices t) a_step.on (row_timer f.row).deadline ≡ slot_in (radices t) a_step.on b.tick + 1 =
      same_rest_of (2 * radix a_step.on (radices t)) (slot_in (radices t) a_step.on b.tick)
      (slot_in (radices t) a_step.on (row_timer f.row).deadline) (slot_in (radices t) a_step.on b.tick + 1)
      (omega (arith, radix_above (radices t) a_step.on i)) a_step.ahead (omega arith)
      (ahead_within (radices t) b.tick a_step.on (row_timer f.row).deadline i
      (record { wheel = a_step.wheel; ahead = a_step.ahead; near = a_step.near }))
      (omega (arith, radix_above (radices t) a_step.on i))
      (same_rests a_step.on (slot_in (radices t) a_step.on (row_timer f.row).deadline) (slot_in (radices t) a_step.on b.tick + 1)
      (sym y ∙ ap (λ (x : ℕ). smooth_list (radices t) x (slot_in (radices t) x b.tick + 1)) (sym w))) in
      let m = multiples t a_step.on (suc k) (omega (arith, a_step.lower)) wheel in
      some (past_half (radices t) a_step.on (suc k) b.tick (row_timer f.row).deadline m.by m.is m.two
      (weight_some (radices t) a_step.on i) a_step.in_next in_next)
    where
      same_rests : (x y z : ℕ) → smooth_list (radices t) x y ≡ smooth_list (radices t) x z
          → y % (2 * radix x (radices t)) ≡ z % (2 * radix x (radices t))
      same_rests x y z e = omega arith

  one_lower : ticks_to_half (radices t) b.tick (suc k) ≢ 0 → a_step.on ≡ k
  one_lower some = elim (cases_lt a_step.on k) [
    | inl l ↦
        let in_next : slot_in (radices t) (suc a_step.on) (row_timer f.row).deadline ≡ slot_in (radices t) (suc a_step.on) b.tick + 1 =
        elim (cases_lt (slot_in (radices t) (suc a_step.on) b.tick) (slot_in (radices t) (suc a_step.on) (row_timer f.row).deadline)) [
          | inl c ↦ (let n = a_step.near in omega arith)
          | inr c ↦ absurd (omega (
            arith,
            a_step.in_next,
            slots_mono (radices t) (suc a_step.on) (suc k) b.tick (row_timer f.row).deadline i
                (omega arith) c,
          ))
        ] in
        let m = multiples t (suc a_step.on) (suc k) (omega arith) wheel in
        absurd (some (past_half (radices t) (suc a_step.on) (suc k) b.tick (row_timer f.row).deadline m.by m.is m.two
        (weight_some (radices t) (suc a_step.on) i) a_step.in_next in_next))
    | inr l ↦ (let h = a_step.lower in omega arith)
  ]

  row_moved : heights (radices t) b.slots (stepped (radices t) b.tick k a_step.on b.links.lists f.row f.rest) + suc k
      ≡ heights (radices t) b.slots b.links.lists + a_step.on
  row_moved = omega (
    arith,
    heights_moved (radices t) b.slots (next_list (radices t) b.tick (suc k))
        (smooth_list (radices t) a_step.on (slot_in (radices t) a_step.on (row_timer f.row).deadline)) b.links.lists f.row f.rest
        (omega (arith, b.sound.has_lists)) a_step.move.from_in a_step.move.to_in f.at,
    height_is (radices t) (suc k) (slot_in (radices t) (suc k) b.tick + 1) i (turns_of_table t) wheel,
    height_is (radices t) a_step.on (slot_in (radices t) a_step.on (row_timer f.row).deadline) i (turns_of_table t) a_step.wheel,
  )

  moved_lists : IsMoved t b (suc k) (next_list (radices t) b.tick (suc k))
      (smooth_list (radices t) a_step.on (slot_in (radices t) a_step.on (row_timer f.row).deadline))
      (stepped (radices t) b.tick k a_step.on b.links.lists f.row f.rest)
  moved_lists = record {
    sound = a_step.sound;
    state = a_step.state;
    placed = to_law (radices t) b.last_tick b.tick b.last_serial
        (mark (radices t) b.tick (stepped (radices t) b.tick k a_step.on b.links.lists f.row f.rest)) i digits b.slots
        (stepped (radices t) b.tick k a_step.on b.links.lists f.row f.rest) a_step.sound a_step.placed;
    in_order = a_step.in_order;
    fewer = omega (arith, ap (λ (r : Rows). length r) from_after, ap (λ (r : Rows). length r) f.at);
    to_in = a_step.move.to_in;
    from_in = a_step.move.from_in;
    apart = a_step.move.elsewhere;
    others = after_others b.sound h.in_order a_step.move;
    there = ap filled (after_to b.sound h.in_order a_step.move) ∙ filled_behind (list_at (smooth_list (radices t) a_step.on
        (slot_in (radices t) a_step.on (row_timer f.row).deadline)) b.links.lists) f.row;
    was = ap filled f.at;
    falls = omega (arith, row_moved, a_step.lower);
    one_down = λ early. omega (
      arith,
      row_moved,
      one_lower (λ (e : ticks_to_half (radices t) b.tick (suc k) ≡ 0). omega (arith, early e, ap (λ (r : Rows). length r) f.at)),
    );
    next_same = λ early j z l n. after_others b.sound h.in_order a_step.move (next_list (radices t) b.tick j)
        (λ (y : next_list (radices t) b.tick j ≡ next_list (radices t) b.tick (suc k)).
        n (one_wheel (radices t) j (suc k) (slot_in (radices t) j b.tick + 1) (slot_in (radices t) (suc k) b.tick + 1) i
        (turns_of_table t) l wheel y))
        (not_next (λ (e : ticks_to_half (radices t) b.tick (suc k) ≡ 0).
        omega (arith, early e, ap (λ (r : Rows). length r) f.at)) j z l);
  }

  pub moved : (new : KeyedLists) → new ≡ front_moved (next_list (radices t) b.tick (suc k)) to b.links.lists
      → IsMoved t b (suc k) (next_list (radices t) b.tick (suc k)) to new
  moved new q = subst (λ (x : KeyedLists). IsMoved t b (suc k) (next_list (radices t) b.tick (suc k)) to x) (sym (new_is new q))
      (subst (λ (x : ℕ). IsMoved t b (suc k) (next_list (radices t) b.tick (suc k)) x (stepped (radices t) b.tick k a_step.on b.links.lists f.row f.rest))
      (sym to_is) moved_lists)

-- The bits after a move.

has_rows : (rows : Rows) → rows ≢ [] → filled rows ≡ 1
has_rows [] n = absurd (n refl)
has_rows (x ∷ xs) n = refl

is_none : (rows : Rows) → (rows ≡ []) ⊎ (rows ≢ [])
is_none [] = inl refl
is_none (x ∷ xs) = inr (λ (e : x ∷ xs ≡ []). nothing x xs e) where
  nothing : (x : Row) (xs : Rows) → x ∷ xs ≡ [] → ⊥
  nothing x xs e = let q : suc (length xs) ≡ 0 = ap (λ (r : Rows). length r) e in omega arith

pub marked_moved : {N : Type 0} {kept : Ghosts N} {t : Table} {b : Buckets N kept} {wheel from to : ℕ} {new : KeyedLists} (words words2 words3 : List ℕ) → IsMoved t b wheel from to new
    → AreMarked b.slots words b.links.lists → bit_of words2 to ≡ 1 → ((s : ℕ) → s ≢ to → bit_of words2 s ≡ bit_of words s)
    → (list_at from new ≡ [] → bit_of words3 from ≡ 0) → (list_at from new ≢ [] → bit_of words3 from ≡ bit_of words2 from)
    → ((s : ℕ) → s ≢ from → bit_of words3 s ≡ bit_of words2 s) → AreMarked b.slots words3 new
marked_moved {t} {b} {wheel} {from} {to} {new} words words2 words3 m marked here others empty kept others2 = (
  (λ (s : ℕ) (h : s < b.slots). elim (cases_eq s from) [
    | inl e ↦ subst (λ (x : ℕ). bit_of words3 x ≡ filled (list_at x new)) (sym e) (elim (is_none (list_at from new)) [
      | inl z ↦ empty z ∙ sym (ap filled z)
      | inr n ↦ kept n ∙ (others from (λ (q : from ≡ to). m.apart (sym q)) ∙ (marked.0 from m.from_in ∙ (m.was ∙ sym (has_rows (list_at from new) n))))
    ])
    | inr x ↦ elim (cases_eq s to) [
      | inl e ↦ others2 s x ∙ (ap (bit_of words2) e ∙ (here ∙ sym (ap (λ (y : ℕ). filled (list_at y new)) e ∙ m.there)))
      | inr y ↦ others2 s x ∙ (others s y ∙ (marked.0 s h ∙ sym (ap filled (m.others s x y))))
    ]
  ]),
  (λ (s : ℕ) (a : b.slots ≤ s) c. others2 s (λ (e : s ≡ from). let f = m.from_in in omega arith)
      ∙ (others s (λ (e : s ≡ to). let f = m.to_in in omega arith) ∙ marked.1 s a c)),
)

-- from what the calls of `move_one` return
pub moved_by : {N : Type 0} {kept : Ghosts N} (t : Table) (b : Buckets N kept) (words : List ℕ) (h : AreWheels t b words) (wheel from d below slot to : ℕ) → 0 < wheel
    → wheel < length (radices t) → from ≡ next_list (radices t) b.tick wheel → Some d ≡ first_deadline (list_at from b.links.lists)
    → below ≡ descend_by (radices t) b.tick words d (wheel - 1) → slot ≡ slot_in (radices t) below d
    → to ≡ smooth_list (radices t) below slot → (new : KeyedLists) → new ≡ front_moved from to b.links.lists → IsMoved t b wheel from to new
moved_by t b words h zero from d below slot to z w ef ed eb es et new q = absurd (omega arith)
moved_by t b words h (suc k) from d below slot to z w ef ed eb es et new q =
    let p : suc k - 1 ≡ k = omega arith in
    let goes : to ≡ smooth_list (radices t) (descend_by (radices t) b.tick words d k) (slot_in (radices t) (descend_by (radices t) b.tick words d k) d) =
    et ∙ (ap (smooth_list (radices t) below) es
    ∙ ap (λ (x : ℕ). smooth_list (radices t) x (slot_in (radices t) x d)) (eb ∙ ap (descend_by (radices t) b.tick words d) p)) in
    subst (λ (x : ℕ). IsMoved t b (suc k) x to new) (sym ef) (moved t b words h k d to w
    (subst (λ (x : ℕ). Some d ≡ first_deadline (list_at x b.links.lists)) ef ed) goes new
    (q ∙ ap (λ (x : ℕ). front_moved x to b.links.lists) ef))

-- One tick.

module _ {N : Type 0} {kept : Ghosts N} (t : Table) (b : Buckets N kept) (words : List ℕ) (h : AreWheels t b words) (before_last : b.tick < b.last_tick)
    (nothing_due : entries_of (list_at b.slots b.links.lists) ≡ [])
    (empty : (k : ℕ) → 0 < k → k < length (radices t) → slot_in (radices t) k (b.tick + 1) ≡ slot_in (radices t) k b.tick + 1
    → list_at (next_list (radices t) b.tick k) b.links.lists ≡ []) where
  tick_digits : HasDigits (radices t) b.last_tick
  tick_digits = rw h.clock (of_table t).digits

  tick_table : IsTable (radices t)
  tick_table = (of_table t).is_table

  tick_some : 0 < length (radices t)
  tick_some = (of_table t).more_wheels

  tick_ranges : (j s : ℕ) → j < length (radices t) → smooth_list (radices t) j s < b.slots
  tick_ranges j s l = rw h.has_slots (lists_in_range t j s l)

  tick_placed : EachRow (IsSmooth (radices t) b.tick (mark (radices t) b.tick b.links.lists)) b.slots b.links.lists
  tick_placed = to_relation (radices t) b.last_tick b.tick b.last_serial (mark (radices t) b.tick b.links.lists) tick_table tick_digits b.slots
      b.links.lists b.sound h.placed

  none_due : list_at b.slots b.links.lists ≡ []
  none_due = no_rows (list_at b.slots b.links.lists) nothing_due

  pub wheels_ticked : AreTickedLists (radices t) b.slots b.last_tick b.tick b.last_serial b.links.lists
      (appended (smooth_list (radices t) zero (b.tick + 1)) b.slots b.links.lists)
  wheels_ticked = ticked (radices t) b.slots b.last_tick b.tick b.last_serial b.links.lists tick_table (turns_of_table t) tick_some b.sound h.in_order tick_placed
      before_last none_due tick_ranges empty

  pub tick_by_law : EachRow (IsByLaw (radices t) (b.tick + 1) (mark (radices t) (b.tick + 1)
      (appended (smooth_list (radices t) zero (b.tick + 1)) b.slots b.links.lists))) b.slots
      (appended (smooth_list (radices t) zero (b.tick + 1)) b.slots b.links.lists)
  tick_by_law = to_law (radices t) b.last_tick (b.tick + 1) b.last_serial (mark (radices t) (b.tick + 1)
      (appended (smooth_list (radices t) zero (b.tick + 1)) b.slots b.links.lists)) tick_table tick_digits b.slots
      (appended (smooth_list (radices t) zero (b.tick + 1)) b.slots b.links.lists) wheels_ticked.sound wheels_ticked.placed

  pub tick_next : (j : ℕ) → 0 < j → j < length (radices t) → slot_in (radices t) j (b.tick + 1) ≡ slot_in (radices t) j b.tick
      → list_at (next_list (radices t) (b.tick + 1) j) (appended (smooth_list (radices t) zero (b.tick + 1)) b.slots b.links.lists)
      ≡ list_at (next_list (radices t) b.tick j) b.links.lists
  tick_next = next_same (radices t) b.slots b.last_tick b.tick b.last_serial b.links.lists tick_table (turns_of_table t) tick_some b.sound h.in_order
      tick_placed before_last none_due tick_ranges empty

  pub tick_heights : heights (radices t) b.slots (appended (smooth_list (radices t) zero (b.tick + 1)) b.slots b.links.lists)
      ≡ heights (radices t) b.slots b.links.lists
  tick_heights = heights_due (radices t) b.slots (smooth_list (radices t) zero (b.tick + 1)) b.links.lists
      (omega (arith, b.sound.has_lists)) (tick_ranges zero (b.tick + 1) tick_some)
      (height_is (radices t) zero (b.tick + 1) tick_table (turns_of_table t) tick_some)

  pub tick_marked : (words2 : List ℕ) → bit_of words2 (smooth_list (radices t) zero (b.tick + 1)) ≡ 0
      → ((s : ℕ) → s ≢ smooth_list (radices t) zero (b.tick + 1) → bit_of words2 s ≡ bit_of words s)
      → AreMarked b.slots words2 (appended (smooth_list (radices t) zero (b.tick + 1)) b.slots b.links.lists)
  tick_marked words2 here others =
      let to_in : smooth_list (radices t) zero (b.tick + 1) < b.slots = tick_ranges zero (b.tick + 1) tick_some in (
        (λ (s : ℕ) (k : s < b.slots). elim (cases_eq s (smooth_list (radices t) zero (b.tick + 1))) [
          | inl e ↦ ap (bit_of words2) e ∙ (here ∙ sym (ap (λ (x : ℕ). filled (list_at x (appended (smooth_list (radices t) zero (b.tick + 1)) b.slots b.links.lists))) e
              ∙ ap filled (new_l (radices t) b.slots b.last_tick b.tick b.last_serial b.links.lists tick_table (turns_of_table t) tick_some b.sound h.in_order tick_placed
              before_last none_due tick_ranges empty)))
          | inr x ↦ others s x ∙ (h.marked.0 s k ∙ sym (ap filled (new_others (radices t) b.slots b.last_tick b.tick b.last_serial b.links.lists tick_table
              (turns_of_table t) tick_some b.sound h.in_order tick_placed before_last none_due tick_ranges empty s x (λ (e : s ≡ b.slots). omega arith))))
        ]),
        (λ (s : ℕ) (a : b.slots ≤ s) c. others s (λ (e : s ≡ smooth_list (radices t) zero (b.tick + 1)). omega arith) ∙ h.marked.1 s a c),
      )

-- for a timer that is started now the bits lead where the law says
pub bits_are_law : {N : Type 0} {kept : Ghosts N} (t : Table) (b : Buckets N kept) (words : List ℕ) (h : AreWheels t b words) (timer : Timer) → b.last_serial < timer.serial
    → timer.serial ≤ LAST → (k : ℕ) → k < length (radices t) → descend_by (radices t) b.tick words timer.deadline k
    ≡ descend (radices t) b.tick (mark (radices t) b.tick b.links.lists) timer.deadline timer.serial k
bits_are_law t b words h timer fresh serial k l =
    descend_is (radices t) b.tick words (mark (radices t) b.tick b.links.lists) timer.deadline timer.serial k
    (λ j z m e.
    let r : next_list (radices t) b.tick j < b.slots = rw h.has_slots (lists_in_range t j (slot_in (radices t) j b.tick + 1) (omega arith)) in
    ap (λ (x : ℕ). x == 0) (h.marked.0 (next_list (radices t) b.tick j) r)
    ∙ bit_is_mark timer.serial (list_at (next_list (radices t) b.tick j) b.links.lists) serial (omega arith)
    (weaker (λ u. IsPending b.last_tick b.tick b.last_serial (row_timer u)) (λ u. (row_timer u).serial < timer.serial)
    (list_at (next_list (radices t) b.tick j) b.links.lists)
    (λ u p. let q : (row_timer u).serial ≤ b.last_serial = p.serial in omega arith)
    (all-list_at (λ u. IsPending b.last_tick b.tick b.last_serial (row_timer u)) b.slots b.links.lists b.sound.pending
    (next_list (radices t) b.tick j) r)))

-- A start.

module _ {N : Type 0} {kept : Ghosts N} (t : Table) (b : Buckets N kept) (words : List ℕ) (h : AreWheels t b words) (timer : Timer) (place list last2 : ℕ)
    (in_range : timer.deadline ≤ b.last_tick) (fresh : b.last_serial < timer.serial) (serial : timer.serial ≤ LAST)
    (sound : AreBuckets b.slots b.last_tick b.tick last2 (with_row list (row_at place timer 0) b.links.lists))
    (ordered : AreInOrder b.slots (with_row list (row_at place timer 0) b.links.lists)) where
  start_digits : HasDigits (radices t) b.last_tick
  start_digits = rw h.clock (of_table t).digits

  start_table : IsTable (radices t)
  start_table = (of_table t).is_table

  start_ranges : (j s : ℕ) → j < length (radices t) → smooth_list (radices t) j s < b.slots
  start_ranges j s l = rw h.has_slots (lists_in_range t j s l)

  start_placed : EachRow (IsSmooth (radices t) b.tick (mark (radices t) b.tick b.links.lists)) b.slots b.links.lists
  start_placed = to_relation (radices t) b.last_tick b.tick b.last_serial (mark (radices t) b.tick b.links.lists) start_table start_digits b.slots
      b.links.lists b.sound h.placed

  start_law : EachRow (IsSmooth (radices t) b.tick (mark (radices t) b.tick (with_row list (row_at place timer 0) b.links.lists))) b.slots
      (with_row list (row_at place timer 0) b.links.lists)
      → EachRow (IsByLaw (radices t) b.tick (mark (radices t) b.tick (with_row list (row_at place timer 0) b.links.lists))) b.slots
      (with_row list (row_at place timer 0) b.links.lists)
  start_law = to_law (radices t) b.last_tick b.tick last2 (mark (radices t) b.tick (with_row list (row_at place timer 0) b.links.lists)) start_table
      start_digits b.slots (with_row list (row_at place timer 0) b.links.lists) sound

  -- the bits lead to its list
  level_by_bits : (k : ℕ) → k < length (radices t) → descend_by (radices t) b.tick words timer.deadline k
      ≡ descend (radices t) b.tick (mark (radices t) b.tick b.links.lists) timer.deadline timer.serial k
  level_by_bits = bits_are_law t b words h timer fresh serial

  pub later_placed : b.tick < timer.deadline
      → list ≡ smooth_list (radices t) (descend_by (radices t) b.tick words timer.deadline (level (radices t) b.tick timer.deadline))
      (slot_in (radices t) (descend_by (radices t) b.tick words timer.deadline (level (radices t) b.tick timer.deadline)) timer.deadline)
      → EachRow (IsByLaw (radices t) b.tick (mark (radices t) b.tick (with_row list (row_at place timer 0) b.links.lists))) b.slots
      (with_row list (row_at place timer 0) b.links.lists)
  later_placed later e =
      let d : HasDigits (radices t) timer.deadline = digits_down (radices t) timer.deadline b.last_tick start_table in_range start_digits in
      let k : level (radices t) b.tick timer.deadline < length (radices t) = level_in_table (radices t) b.tick timer.deadline start_table d later in
      let st = started_stands (radices t) b.tick (mark (radices t) b.tick b.links.lists) timer start_table d later in
      let q : smooth_bucket (radices t) b.tick (mark (radices t) b.tick b.links.lists) timer ≡ list =
      sym (e ∙ ap (λ (x : ℕ). smooth_list (radices t) x (slot_in (radices t) x timer.deadline)) (level_by_bits (level (radices t) b.tick timer.deadline) k)) in
      let st2 : Stands (radices t) b.tick (mark (radices t) b.tick b.links.lists) list
      (smooth_level (radices t) b.tick (mark (radices t) b.tick b.links.lists) timer) timer =
      subst (λ (x : ℕ). Stands (radices t) b.tick (mark (radices t) b.tick b.links.lists) x
      (smooth_level (radices t) b.tick (mark (radices t) b.tick b.links.lists) timer) timer) q st in
      let r : list < b.slots = rw st2.at_list (start_ranges (smooth_level (radices t) b.tick (mark (radices t) b.tick b.links.lists) timer)
      (slot_in (radices t) (smooth_level (radices t) b.tick (mark (radices t) b.tick b.links.lists) timer) timer.deadline) st2.wheel) in
      start_law (places_with_row (radices t) b.tick b.slots list (smooth_level (radices t) b.tick (mark (radices t) b.tick b.links.lists) timer)
      b.links.lists (row_at place timer 0) start_table (turns_of_table t) (omega (arith, b.sound.has_lists)) serial st2 refl
      ordered start_placed)

  pub due_placed : list ≡ b.slots
      → EachRow (IsByLaw (radices t) b.tick (mark (radices t) b.tick (with_row list (row_at place timer 0) b.links.lists))) b.slots
      (with_row list (row_at place timer 0) b.links.lists)
  due_placed e =
      let same : (s : ℕ) → s < b.slots → list_at s (with_row list (row_at place timer 0) b.links.lists) ≡ list_at s b.links.lists =
      λ s l. get_or-set_other b.links.lists list s (list_at list b.links.lists ++ row_at place timer 0 ∷ []) [] (λ (q : s ≡ list). omega arith) in
      start_law (places_left (radices t) b.tick b.slots b.links.lists (with_row list (row_at place timer 0) b.links.lists)
      (λ s l P a. subst (AllByRecursion P) (sym (same s l)) a)
      (λ j z l. omega (arith, ap moved_to (same (next_list (radices t) b.tick j) (start_ranges j (slot_in (radices t) j b.tick + 1) l))))
      ordered start_placed)

pub start_marked : (n now : ℕ) (lists : KeyedLists) (words words2 : List ℕ) (row : Row) (list d : ℕ) → AreMarked n words lists
    → length lists ≡ n + 1 → ((list < n) × (now < d)) ⊎ ((list ≡ n) × (d ≡ now))
    → (now < d → (bit_of words2 list ≡ 1) × ((s : ℕ) → s ≢ list → bit_of words2 s ≡ bit_of words s))
    → (d ≤ now → words2 ≡ words) → AreMarked n words2 (with_row list row lists)
start_marked n now lists words words2 row list d marked len (inl q) pending due =
    let p = pending q.1 in
    let r = q.0 in
    marked_set n words words2 list (list_at list lists ++ row ∷ []) lists q.0 (omega arith)
    (p.0 ∙ sym (filled_behind (list_at list lists) row)) p.1 marked
start_marked n now lists words words2 row list d marked len (inr q) pending due =
    let at = q.0 in
    let e : words2 ≡ words = due (omega (arith, q.1)) in
    subst (λ (x : List ℕ). AreMarked n x (with_row list row lists)) (sym e)
    (marked_same n words lists (with_row list row lists)
    (λ s h. get_or-set_other lists list s (list_at list lists ++ row ∷ []) [] (λ (y : s ≡ list). omega arith)) marked)

-- A change of the due timers alone.

pub same_placed : {N : Type 0} {kept : Ghosts N} (t : Table) (b : Buckets N kept) (words : List ℕ) (h : AreWheels t b words) (last2 : ℕ) (new : KeyedLists)
    → AreBuckets b.slots b.last_tick b.tick last2 new → ((s : ℕ) → s < b.slots → list_at s new ≡ list_at s b.links.lists)
    → EachRow (IsByLaw (radices t) b.tick (mark (radices t) b.tick new)) b.slots new
same_placed t b words h last2 new sound same =
    let digits : HasDigits (radices t) b.last_tick = rw h.clock (of_table t).digits in
    let i : IsTable (radices t) = (of_table t).is_table in
    to_law (radices t) b.last_tick b.tick last2 (mark (radices t) b.tick new) i digits b.slots new sound
    (places_left (radices t) b.tick b.slots b.links.lists new (λ s l P a. subst (AllByRecursion P) (sym (same s l)) a)
    (λ j z l.
    let r : smooth_list (radices t) j (slot_in (radices t) j b.tick + 1) < b.slots =
    rw h.has_slots (lists_in_range t j (slot_in (radices t) j b.tick + 1) l) in
    omega (arith, ap moved_to (same (next_list (radices t) b.tick j) r)))
    (ordered-same b.slots b.links.lists new same h.in_order)
    (to_relation (radices t) b.last_tick b.tick b.last_serial (mark (radices t) b.tick b.links.lists) i digits b.slots b.links.lists b.sound h.placed))
