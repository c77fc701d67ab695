-- Lemmas for `Wheels`: how its calls change the next buckets, and the potential of its timers.
use Rattle.std.proofs.Common.{◌≡◌, ◌<◌, ◌≤◌, ◌+◌, ◌-◌, ◌*◌, ◌%◌, ℕ, List, [], ◌∷◌, ◌++◌, length, refl, sym, ◌∙◌, ap, inl, inr, subst, arith, get_or-set_same, get_or-set_other, map, not, ◌==◌, true, false}
use Rattle.std.proofs.lemmas.Bool.{eqb-true, eq-eqb}
use Rattle.timer_base.proofs.Basics.{filter_no_longer}
use Rattle.timer_links.specs.Lists.{with_row, without_key}
use Rattle.timer_wheels.specs.Types.{Timer, Ghosts, list_at, KeyedLists, Row, Rows, Table}
use Rattle.timer_wheels.specs.smooth.Wheels.{AreWheels, next_len, potential_of, AllShrink, IsNextOf, ComesTo}
use Rattle.timer_wheels.specs.Buckets.{IsSameFrame, IsListOf}
use Rattle.timer_wheels.specs.Digits.{IsTable, HasDigits, radix, level}
use Rattle.timer_wheels.specs.Occupied.{bit_of, filled}
use Rattle.timer_wheels.specs.smooth.Smooth.{slot_in, smooth_list, is_in_next, next_list, heights, descend_by}
use Rattle.timer_wheels.specs.Tables.{radices}
use Rattle.timer_wheels.specs.declared.buckets.Buckets.{Buckets}
use Rattle.timer_wheels.proofs.smooth_lemmas.Wheels.{lists_in_range, turns_of_table}
use Rattle.timer_wheels.proofs.table_lemmas.DigitLaws.{digits_down}
use Rattle.timer_wheels.proofs.bucket_lemmas.RowLemmas.{list_at-without_key}
use Rattle.timer_wheels.proofs.smooth_lemmas.Heights.{height_most, heights_mono, heights_push, heights_push_above, length-behind}
use Rattle.timer_wheels.proofs.smooth_lemmas.Lists.{one_wheel, same_rest_of, radix_above, ahead_within}
use Rattle.timer_wheels.proofs.smooth_lemmas.Starts.{GoesByBits, goes_by_bits, stops_at_timers}
use Rattle.timer_wheels.proofs.table_lemmas.TableLaws.{of_table}

-- The wheel whose next bucket a started timer comes to.

filled_one : (rows : Rows) → (filled rows == 0) ≡ false → filled rows ≡ 1
filled_one [] e = absurd (cc)
filled_one (x ∷ xs) e = refl

pub some_rows : (rows : Rows) → filled rows ≡ 1 → 0 < length rows
some_rows [] e = absurd (omega arith)
some_rows (x ∷ xs) e = omega arith

module _ {N : Type 0} {kept : Ghosts N} (t : Table) (b : Buckets N kept) (words : List ℕ) (h : AreWheels t b words) where
  ranges : (j s : ℕ) → j < length (radices t) → smooth_list (radices t) j s < b.slots
  ranges j s l = rw h.has_slots (lists_in_range t j s l)

  table : IsTable (radices t)
  table = (of_table t).is_table

  -- what is due comes to none
  pub next_of_due : IsNextOf (radices t) b.tick words b.slots 0
  next_of_due = record {
    in_table = (of_table t).more_wheels;
    here = λ z. absurd (omega arith);
    no_other = λ j z l n. λ (e : b.slots ≡ next_list (radices t) b.tick j).
        let r = ranges j (slot_in (radices t) j b.tick + 1) l in
        omega arith;
  }

  module _ (deadline : ℕ) (later : b.tick < deadline) (in_range : deadline ≤ b.last_tick) (wheel list : ℕ)
      (w : wheel ≡ descend_by (radices t) b.tick words deadline (level (radices t) b.tick deadline))
      (at : list ≡ smooth_list (radices t) wheel (slot_in (radices t) wheel deadline)) where
    -- a timer for it: the wheel depends on the deadline alone
    abbrev timer : Timer
    timer = record { serial = 1; client = 0; number = 0; deadline = deadline; action = 0 }

    goes : GoesByBits (radices t) b.tick words wheel timer
    goes =
        let digits : HasDigits (radices t) b.last_tick = rw h.clock (of_table t).digits in
        subst (λ (x : ℕ). GoesByBits (radices t) b.tick words x timer) (sym w)
        (goes_by_bits (radices t) b.tick words timer table (digits_down (radices t) deadline b.last_tick table in_range digits) later
        (omega arith) (omega arith))

    one : (j : ℕ) → j < length (radices t) → list ≡ next_list (radices t) b.tick j → j ≡ wheel
    one j l e = one_wheel (radices t) j wheel (slot_in (radices t) j b.tick + 1) (slot_in (radices t) wheel deadline) table
        (turns_of_table t) l goes.wheel (sym e ∙ at)

    pub next_in : is_in_next (radices t) b.tick wheel deadline ≡ true → IsNextOf (radices t) b.tick words list wheel
    next_in e =
        let slot : slot_in (radices t) wheel deadline ≡ slot_in (radices t) wheel b.tick + 1 =
        eqb-true (slot_in (radices t) wheel deadline) (slot_in (radices t) wheel b.tick + 1) e in
        let there : list ≡ next_list (radices t) b.tick wheel = at ∙ ap (smooth_list (radices t) wheel) slot in
        record {
          in_table = goes.wheel;
          here = λ z. (there, bit z there);
          no_other = λ j a l n q. n (one j l q);
        }
      where
        bit : 0 < wheel → list ≡ next_list (radices t) b.tick wheel → bit_of words list ≡ 1
        bit z there =
            let s = stops_at_timers (radices t) b.tick words deadline (level (radices t) b.tick deadline) (omega arith)
            (subst (λ (x : ℕ). is_in_next (radices t) b.tick x deadline ≡ true) w e) in
            let s2 : (bit_of words (next_list (radices t) b.tick wheel) == 0) ≡ false =
            subst (λ (x : ℕ). (bit_of words (next_list (radices t) b.tick x) == 0) ≡ false) (sym w) s in
            let s3 : (bit_of words list == 0) ≡ false = subst (λ (x : ℕ). (bit_of words x == 0) ≡ false) (sym there) s2 in
            let r : list < b.slots = rw at (ranges wheel (slot_in (radices t) wheel deadline) goes.wheel) in
            let m : bit_of words list ≡ filled (list_at list b.links.lists) = h.marked.0 list r in
            m ∙ filled_one (list_at list b.links.lists) (subst (λ (x : ℕ). (x == 0) ≡ false) m s3)

    pub next_out : is_in_next (radices t) b.tick wheel deadline ≡ false → IsNextOf (radices t) b.tick words list 0
    next_out e = record {
      in_table = (of_table t).more_wheels;
      here = λ z. absurd (omega arith);
      no_other = λ j a l n. λ (q : list ≡ next_list (radices t) b.tick j). not_there j l q (one j l q);
    } where
      same_rests : (x y z : ℕ) → smooth_list (radices t) x y ≡ smooth_list (radices t) x z
          → y % (2 * radix x (radices t)) ≡ z % (2 * radix x (radices t))
      same_rests x y z q = omega arith

      not_there : (j : ℕ) → j < length (radices t) → list ≡ next_list (radices t) b.tick j → j ≡ wheel → ⊥
      not_there j l q o =
          let slot : slot_in (radices t) wheel deadline ≡ slot_in (radices t) wheel b.tick + 1 =
          same_rest_of (2 * radix wheel (radices t)) (slot_in (radices t) wheel b.tick) (slot_in (radices t) wheel deadline)
          (slot_in (radices t) wheel b.tick + 1) (omega (arith, radix_above (radices t) wheel table)) goes.ahead (omega arith)
          (ahead_within (radices t) b.tick wheel deadline table
          (record { wheel = goes.wheel; ahead = goes.ahead; near = goes.near }))
          (omega (arith, radix_above (radices t) wheel table))
          (same_rests wheel (slot_in (radices t) wheel deadline) (slot_in (radices t) wheel b.tick + 1)
          (sym at ∙ (q ∙ ap (λ (x : ℕ). smooth_list (radices t) x (slot_in (radices t) x b.tick + 1)) o))) in
          let y : is_in_next (radices t) b.tick wheel deadline ≡ true =
          eq-eqb (slot_in (radices t) wheel deadline) (slot_in (radices t) wheel b.tick + 1) slot in
          absurd (let c : true ≡ false = sym y ∙ e in cc)

  -- Lists that get shorter.

  module _ (new : Buckets N kept) (f : IsSameFrame b new)
      (shorter : (s : ℕ) → s < b.slots → length (list_at s new.links.lists) ≤ length (list_at s b.links.lists)) where
    pub all_shrink : AllShrink t b new
    all_shrink j z l =
        let e : next_len t new j ≡ length (list_at (next_list (radices t) b.tick j) new.links.lists) =
        ap (λ (x : ℕ). length (list_at (next_list (radices t) x j) new.links.lists)) f.tick in
        omega (arith, shorter (next_list (radices t) b.tick j) (ranges j (slot_in (radices t) j b.tick + 1) l))

    pub potential_falls : potential_of t new ≤ potential_of t b
    potential_falls =
        let e : potential_of t new ≡ heights (radices t) b.slots new.links.lists =
        ap (λ (x : ℕ). heights (radices t) x new.links.lists) f.slots in
        omega (arith, heights_mono (radices t) b.slots b.links.lists new.links.lists shorter)

  -- A row comes to the back of a list, after others got shorter.

  module _ (new : Buckets N kept) (f : IsSameFrame b new) (mid : KeyedLists) (list wheel d : ℕ) (row : Row)
      (is : new.links.lists ≡ with_row list row mid)
      (shorter : (s : ℕ) → s < b.slots → length (list_at s mid) ≤ length (list_at s b.links.lists)) (len : length mid ≡ b.slots + 1)
      (of : IsListOf list b.slots b.tick d) (next : IsNextOf (radices t) b.tick words list wheel) where
    next_is : (j : ℕ) → next_len t new j ≡ length (list_at (next_list (radices t) b.tick j) (with_row list row mid))
    next_is j = ap (λ (x : ℕ). length (list_at (next_list (radices t) x j) new.links.lists)) f.tick
        ∙ ap (λ (x : KeyedLists). length (list_at (next_list (radices t) b.tick j) x)) is

    potential_comes : IsListOf list b.slots b.tick d → heights (radices t) b.slots (with_row list row mid)
        ≤ heights (radices t) b.slots b.links.lists + (length (radices t) - 1)
    potential_comes (inl q) = omega (
      arith,
      heights_push (radices t) b.slots list row mid q.0 (omega (arith, len, q.0)),
      heights_mono (radices t) b.slots b.links.lists mid shorter,
      height_most (radices t) list,
    )
    potential_comes (inr q) = omega (
      arith,
      heights_push_above (radices t) b.slots list row mid (omega (arith, q.0)),
      heights_mono (radices t) b.slots b.links.lists mid shorter,
    )

    pub comes_to : ComesTo t wheel b new
    comes_to = record {
      in_table = next.in_table;
      others = λ j z l n.
          let e : list_at (next_list (radices t) b.tick j) (with_row list row mid) ≡ list_at (next_list (radices t) b.tick j) mid =
          get_or-set_other mid list (next_list (radices t) b.tick j) (list_at list mid ++ row ∷ []) []
          (λ (q : next_list (radices t) b.tick j ≡ list). next.no_other j z l n (sym q)) in
          omega (
            arith,
            next_is j,
            ap (λ (r : Rows). length r) e,
            shorter (next_list (radices t) b.tick j) (ranges j (slot_in (radices t) j b.tick + 1) l),
          );
      here = λ z.
          let r : next_list (radices t) b.tick wheel < b.slots = ranges wheel (slot_in (radices t) wheel b.tick + 1) next.in_table in
          let at : list ≡ next_list (radices t) b.tick wheel = (next.here z).0 in
          let bit : bit_of words (next_list (radices t) b.tick wheel) ≡ 1 =
          subst (λ (x : ℕ). bit_of words x ≡ 1) at (next.here z).1 in
          let e : list_at list (with_row list row mid) ≡ list_at list mid ++ row ∷ [] =
          get_or-set_same mid list (list_at list mid ++ row ∷ []) [] (omega (arith, len, at)) in
          let l : length (list_at (next_list (radices t) b.tick wheel) (with_row list row mid)) ≡ length (list_at list mid) + 1 =
          ap (λ (x : ℕ). length (list_at x (with_row list row mid))) (sym at)
          ∙ (ap (λ (r : Rows). length r) e ∙ length-behind (list_at list mid) row) in
          let m : length (list_at list mid) ≡ length (list_at (next_list (radices t) b.tick wheel) mid) =
          ap (λ (x : ℕ). length (list_at x mid)) at in (
            some_rows (list_at (next_list (radices t) b.tick wheel) b.links.lists)
                (sym (h.marked.0 (next_list (radices t) b.tick wheel) r) ∙ bit),
            omega (arith, next_is wheel, shorter (next_list (radices t) b.tick wheel) r),
          );
      potential =
          let e : potential_of t new ≡ heights (radices t) b.slots (with_row list row mid) =
          ap (λ (x : ℕ). heights (radices t) x new.links.lists) f.slots ∙ ap (heights (radices t) b.slots) is in
          omega (arith, potential_comes of);
    }

pub without_shorter : (key s : ℕ) (lists : KeyedLists) → length (list_at s (map (without_key key) lists)) ≤ length (list_at s lists)
without_shorter key s lists = omega (
  arith,
  ap (λ (r : Rows). length r) (list_at-without_key s key lists),
  filter_no_longer (λ row. not (row.0 == key)) (list_at s lists),
)
