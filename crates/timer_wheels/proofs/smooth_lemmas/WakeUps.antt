-- Lemmas for `wake_ups`: first slots with timers, and that nothing happens before the next event.
use Rattle.std.proofs.Common.{◌≡◌, ◌<◌, ◌≤◌, ◌+◌, ◌-◌, ◌*◌, ◌%◌, ℕ, zero, suc, List, [], ◌∷◌, length, refl, sym, ◌∙◌, ap, inl, inr, subst, arith, ◌/◌}
use Rattle.std.specs.List.{AllByRecursion}
use Rattle.std.proofs.Math.Nat.{div-mul-le_self, mul-le-mul_right}
use Rattle.std.proofs.lemmas.Bool.{cases_eq, cases_lt}
use Rattle.timer_base.specs.WheelState.{IsPending}
use Rattle.timer_wheels.specs.Types.{Timer, Ghosts, list_at, Row, Rows, Table}
use Rattle.timer_wheels.specs.smooth.Wheels.{AreWheels, next_len}
use Rattle.timer_wheels.specs.BucketLists.{row_timer, EachRow}
use Rattle.timer_wheels.specs.Digits.{IsTable, HasDigits, weight, radix}
use Rattle.timer_wheels.specs.Occupied.{bit_of}
use Rattle.timer_wheels.specs.smooth.Smooth.{slot_in, smooth_list, next_list, mark, IsSmooth, Stands, IsAheadOf}
use Rattle.timer_wheels.specs.smooth.WakeUps.{IsFirstFilledSlot, event_tick, IsEventFrom}
use Rattle.timer_wheels.specs.Tables.{radices}
use Rattle.timer_wheels.specs.declared.buckets.Buckets.{Buckets}
use Rattle.timer_wheels.proofs.smooth_lemmas.Wheels.{to_relation, lists_in_range, turns_of_table}
use Rattle.timer_wheels.proofs.smooth_lemmas.NextBuckets.{some_rows}
use Rattle.timer_wheels.proofs.table_lemmas.DigitLaws.{rest_is}
use Rattle.timer_wheels.proofs.bucket_lemmas.OccupiedLemmas.{no_rows_there}
use Rattle.timer_wheels.proofs.bucket_lemmas.RowLemmas.{all-list_at}
use Rattle.timer_wheels.proofs.smooth_lemmas.Lists.{one_wheel, same_rest_of, radix_above, ahead_within}
use Rattle.timer_wheels.proofs.smooth_lemmas.Places.{weaker}
use Rattle.timer_wheels.proofs.smooth_lemmas.Skips.{slots_later}
use Rattle.timer_wheels.proofs.smooth_lemmas.Slots.{slot_low, slots_mono}
use Rattle.timer_wheels.proofs.smooth_lemmas.Visits.{slot_begins_later}
use Rattle.timer_wheels.proofs.smooth_lemmas.Weights.{weight_some}
use Rattle.timer_wheels.proofs.table_lemmas.TableLaws.{of_table}

-- An event of a later slot is no earlier.
event_mono : (table : List ℕ) (k i j : ℕ) → i ≤ j → event_tick table k i ≤ event_tick table k j
event_mono table zero i j h = h
event_mono table (suc k) i j h = mul-le-mul_right (weight (suc k) table) (let e : i - 1 ≤ j - 1 = omega arith in e)

-- each row of a list, which then is not empty
pub each_with_rows : (P Q : Row → Type 0) (rows : Rows) → (0 < length rows → (row : Row) → P row → Q row) → AllByRecursion P rows → AllByRecursion Q rows
each_with_rows P Q [] f a = tt
each_with_rows P Q (x ∷ xs) f a = weaker P Q (x ∷ xs) (f (omega arith)) a

pub none_in : (rows : Rows) → 0 < length rows → rows ≡ [] → ⊥
none_in rows h e = let q : length rows ≡ 0 = ap (λ (r : Rows). length r) e in omega arith

-- how a row stands on wheel k
pub record IsOn (table : List ℕ) (now k : ℕ) (t : Timer) : Type 0 where
  pub ahead : slot_in table k now < slot_in table k t.deadline
  pub within : slot_in table k t.deadline < slot_in table k now + 2 * radix k table

module _ {N : Type 0} {kept : Ghosts N} (t : Table) (b : Buckets N kept) (words : List ℕ) (h : AreWheels t b words) where
  table : IsTable (radices t)
  table = (of_table t).is_table

  digits : HasDigits (radices t) b.last_tick
  digits = rw h.clock (of_table t).digits

  ranges : (j s : ℕ) → j < length (radices t) → smooth_list (radices t) j s < b.slots
  ranges j s l = rw h.has_slots (lists_in_range t j s l)

  pub placed : EachRow (IsSmooth (radices t) b.tick (mark (radices t) b.tick b.links.lists)) b.slots b.links.lists
  placed = to_relation (radices t) b.last_tick b.tick b.last_serial (mark (radices t) b.tick b.links.lists) table digits b.slots b.links.lists
      b.sound h.placed

  on_own : (k s : ℕ) (row : Row) → Stands (radices t) b.tick (mark (radices t) b.tick b.links.lists) s k (row_timer row)
      → IsOn (radices t) b.tick k (row_timer row)
  on_own k s row st = record {
    ahead = st.ahead;
    within = ahead_within (radices t) b.tick k (row_timer row).deadline table (record { wheel = st.wheel; ahead = st.ahead; near = st.near });
  }

  -- a row of a list of wheel k stands there
  pub on_wheel : (s k i : ℕ) (row : Row) → k < length (radices t) → s ≡ smooth_list (radices t) k i
      → IsSmooth (radices t) b.tick (mark (radices t) b.tick b.links.lists) s row
      → IsOn (radices t) b.tick k (row_timer row)
  on_wheel s k i row l e p =
      let w : p.on ≡ k = one_wheel (radices t) p.on k (slot_in (radices t) p.on (row_timer row).deadline) i table (turns_of_table t) p.stands.wheel l
      (sym p.stands.at_list ∙ e) in
      subst (λ (x : ℕ). IsOn (radices t) b.tick x (row_timer row)) w (on_own p.on s row p.stands)

  same_rests : (x y z : ℕ) → smooth_list (radices t) x y ≡ smooth_list (radices t) x z
      → y % (2 * radix x (radices t)) ≡ z % (2 * radix x (radices t))
  same_rests x y z e = omega arith

  at_own : (s k i : ℕ) (row : Row) → k < length (radices t) → s ≡ smooth_list (radices t) k i
      → IsSmooth (radices t) b.tick (mark (radices t) b.tick b.links.lists) s row
      → s ≡ smooth_list (radices t) k (slot_in (radices t) k (row_timer row).deadline)
  at_own s k i row l e p =
      let w : p.on ≡ k = one_wheel (radices t) p.on k (slot_in (radices t) p.on (row_timer row).deadline) i table (turns_of_table t) p.stands.wheel l
      (sym p.stands.at_list ∙ e) in
      p.stands.at_list ∙ ap (λ (x : ℕ). smooth_list (radices t) x (slot_in (radices t) x (row_timer row).deadline)) w

  -- and if the slot is within two revolutions, it is in that slot
  pub in_slot : (s k i : ℕ) (row : Row) → k < length (radices t) → s ≡ smooth_list (radices t) k i → slot_in (radices t) k b.tick < i
      → i < slot_in (radices t) k b.tick + 2 * radix k (radices t)
      → IsSmooth (radices t) b.tick (mark (radices t) b.tick b.links.lists) s row → slot_in (radices t) k (row_timer row).deadline ≡ i
  in_slot s k i row l e a c p =
      let o = on_wheel s k i row l e p in
      same_rest_of (2 * radix k (radices t)) (slot_in (radices t) k b.tick) (slot_in (radices t) k (row_timer row).deadline) i
      (omega (arith, radix_above (radices t) k table)) o.ahead a o.within c
      (same_rests k (slot_in (radices t) k (row_timer row).deadline) i (sym (at_own s k i row l e p) ∙ e))

  -- First slots.

  -- an empty list by its bit
  pub empty_by_bit : (k i : ℕ) → k < length (radices t) → bit_of words (smooth_list (radices t) k i) ≡ 0
      → list_at (smooth_list (radices t) k i) b.links.lists ≡ []
  empty_by_bit k i l e = no_rows_there (list_at (smooth_list (radices t) k i) b.links.lists)
      (sym (h.marked.0 (smooth_list (radices t) k i) (ranges k i l)) ∙ e)

  pub some_by_bit : (k i : ℕ) → k < length (radices t) → bit_of words (smooth_list (radices t) k i) ≡ 1
      → 0 < length (list_at (smooth_list (radices t) k i) b.links.lists)
  some_by_bit k i l e = some_rows (list_at (smooth_list (radices t) k i) b.links.lists)
      (sym (h.marked.0 (smooth_list (radices t) k i) (ranges k i l)) ∙ e)

  -- slots whose lists follow one another, and whose bits are clear, have no timers
  pub run_empty : (k slot step clear : ℕ) → k < length (radices t)
      → ((s : ℕ) → smooth_list (radices t) k slot ≤ s → s < smooth_list (radices t) k slot + clear → bit_of words s ≡ 0)
      → step ≤ clear → step ≤ 2 * radix k (radices t) - slot % (2 * radix k (radices t)) → (i : ℕ) → slot ≤ i → i < slot + step
      → list_at (smooth_list (radices t) k i) b.links.lists ≡ []
  run_empty k slot step clear l f a c i g e =
      let n : ℕ = 2 * radix k (radices t) in
      let r : 0 < radix k (radices t) = radix_above (radices t) k table in
      let m : slot % (2 * radix k (radices t)) < 2 * radix k (radices t) = omega arith in
      let parts : slot ≡ (2 * radix k (radices t)) * (slot / (2 * radix k (radices t))) + slot % (2 * radix k (radices t)) = omega arith in
      let rest : i % (2 * radix k (radices t)) ≡ slot % (2 * radix k (radices t)) + (i - slot) =
      rest_is (2 * radix k (radices t)) (slot / (2 * radix k (radices t))) (slot % (2 * radix k (radices t)) + (i - slot)) i (omega arith) (omega arith) in
      empty_by_bit k i l (f (smooth_list (radices t) k i) (omega arith) (omega arith))

  begun_by : (k i : ℕ) (rows : Rows) → k < length (radices t) → slot_in (radices t) k b.tick < i
      → i < slot_in (radices t) k b.tick + 2 * radix k (radices t) → 0 < length rows
      → AllByRecursion (IsSmooth (radices t) b.tick (mark (radices t) b.tick b.links.lists) (smooth_list (radices t) k i)) rows
      → AllByRecursion (λ row. IsPending b.last_tick b.tick b.last_serial (row_timer row)) rows → i * weight k (radices t) ≤ b.last_tick
  begun_by k i [] l a c z p q = absurd (omega arith)
  begun_by k i (x ∷ xs) l a c z p q =
      let e : slot_in (radices t) k (row_timer x).deadline ≡ i = in_slot (smooth_list (radices t) k i) k i x l refl a c p.0 in
      let f : slot_in (radices t) k (row_timer x).deadline * weight k (radices t) ≡ i * weight k (radices t) =
      ap (λ (y : ℕ). y * weight k (radices t)) e in
      let g : slot_in (radices t) k (row_timer x).deadline * weight k (radices t) ≤ (row_timer x).deadline =
      div-mul-le_self (row_timer x).deadline (weight k (radices t)) in
      let r : (row_timer x).deadline ≤ b.last_tick = q.0.in_range in
      omega arith

  pub begins_in_range : (k i : ℕ) → k < length (radices t) → slot_in (radices t) k b.tick < i
      → i < slot_in (radices t) k b.tick + 2 * radix k (radices t) → 0 < length (list_at (smooth_list (radices t) k i) b.links.lists)
      → i * weight k (radices t) ≤ b.last_tick
  begins_in_range k i l a c z = begun_by k i (list_at (smooth_list (radices t) k i) b.links.lists) l a c z
      (placed (smooth_list (radices t) k i) (ranges k i l))
      (all-list_at (λ row. IsPending b.last_tick b.tick b.last_serial (row_timer row)) b.slots b.links.lists b.sound.pending
      (smooth_list (radices t) k i) (ranges k i l))

  -- a row is in the first slot of its wheel or a later one
  pub not_before : (k slot s : ℕ) (row : Row) → IsFirstFilledSlot (radices t) b.tick k b.links.lists slot → k < length (radices t)
      → s ≡ smooth_list (radices t) k (slot_in (radices t) k (row_timer row).deadline) → 0 < length (list_at s b.links.lists)
      → IsSmooth (radices t) b.tick (mark (radices t) b.tick b.links.lists) s row → slot ≤ slot_in (radices t) k (row_timer row).deadline
  not_before k slot s row f l e z p =
      let i : ℕ = slot_in (radices t) k (row_timer row).deadline in
      let o = on_wheel s k i row l e p in
      elim (cases_lt i slot) [
        | inl c ↦ absurd (none_in (list_at s b.links.lists) z
            (ap (λ (x : ℕ). list_at x b.links.lists) e ∙ f.none_before i o.ahead c))
        | inr c ↦ c
      ]

  -- Events.

  record Seen (tick w s : ℕ) (row : Row) : Type 0 where
    smooth : IsSmooth (radices t) b.tick (mark (radices t) b.tick b.links.lists) s row
    before : IsEventFrom (radices t) tick w s row

  seen : (tick w : ℕ) → EachRow (IsEventFrom (radices t) tick w) b.slots b.links.lists → (s : ℕ) → s < b.slots
      → AllByRecursion (Seen tick w s) (list_at s b.links.lists)
  seen tick w f s l = each_both (list_at s b.links.lists) (placed s l) (f s l) where
    each_both : (rows : Rows) → AllByRecursion (IsSmooth (radices t) b.tick (mark (radices t) b.tick b.links.lists) s) rows
        → AllByRecursion (IsEventFrom (radices t) tick w s) rows → AllByRecursion (Seen tick w s) rows
    each_both [] p q = tt
    each_both (x ∷ xs) p q = (record { smooth = p.0; before = q.0 }, each_both xs p.1 q.1)

  pub events_some : (tick tick2 w slot : ℕ) → w < length (radices t) → IsFirstFilledSlot (radices t) b.tick w b.links.lists slot → tick2 ≤ tick
      → tick2 ≤ event_tick (radices t) w slot → EachRow (IsEventFrom (radices t) tick w) b.slots b.links.lists
      → EachRow (IsEventFrom (radices t) tick2 (w + 1)) b.slots b.links.lists
  events_some tick tick2 w slot l f a c g s m = each_with_rows (Seen tick w s) (IsEventFrom (radices t) tick2 (w + 1) s)
      (list_at s b.links.lists) (λ z row p k d n e. elim (cases_eq k w) [
        | inl q ↦
            let at : s ≡ smooth_list (radices t) w (slot_in (radices t) w (row_timer row).deadline) =
            e ∙ ap (λ (x : ℕ). smooth_list (radices t) x (slot_in (radices t) x (row_timer row).deadline)) q in
            let le : slot ≤ slot_in (radices t) w (row_timer row).deadline = not_before w slot s row f l at z p.smooth in
            let ev : event_tick (radices t) w slot ≤ event_tick (radices t) w (slot_in (radices t) w (row_timer row).deadline) =
            event_mono (radices t) w slot (slot_in (radices t) w (row_timer row).deadline) le in
            subst (λ (x : ℕ). tick2 ≤ event_tick (radices t) x (slot_in (radices t) x (row_timer row).deadline)) (sym q)
            (let r : tick2 ≤ event_tick (radices t) w (slot_in (radices t) w (row_timer row).deadline) = omega arith in r)
        | inr x ↦ let r = p.before k (omega arith) n e in omega arith
      ]) (seen tick w g s m)

  pub events_without : (tick w : ℕ) → w < length (radices t)
      → ((i : ℕ) → slot_in (radices t) w b.tick < i → i < slot_in (radices t) w b.tick + 2 * radix w (radices t)
      → list_at (smooth_list (radices t) w i) b.links.lists ≡ [])
      → EachRow (IsEventFrom (radices t) tick w) b.slots b.links.lists → EachRow (IsEventFrom (radices t) tick (w + 1)) b.slots b.links.lists
  events_without tick w l f g s m = each_with_rows (Seen tick w s) (IsEventFrom (radices t) tick (w + 1) s)
      (list_at s b.links.lists) (λ z row p k d n e. elim (cases_eq k w) [
        | inl q ↦
            let at : s ≡ smooth_list (radices t) w (slot_in (radices t) w (row_timer row).deadline) =
            e ∙ ap (λ (x : ℕ). smooth_list (radices t) x (slot_in (radices t) x (row_timer row).deadline)) q in
            let o = on_wheel s w (slot_in (radices t) w (row_timer row).deadline) row l at p.smooth in
            absurd (none_in (list_at s b.links.lists) z (ap (λ (x : ℕ). list_at x b.links.lists) at
            ∙ f (slot_in (radices t) w (row_timer row).deadline) o.ahead o.within))
        | inr x ↦ p.before k (omega arith) n e
      ]) (seen tick w g s m)

  -- the event of a first slot is ahead, if the next bucket has no timers
  pub event_later : (k slot : ℕ) → k < length (radices t) → IsFirstFilledSlot (radices t) b.tick k b.links.lists slot
      → (0 < k → next_len t b k ≡ 0) → b.tick < event_tick (radices t) k slot
  event_later zero slot l f z = let a = f.later in omega (arith, slot_low (radices t) b.tick)
  event_later (suc k) slot l f z = elim (cases_eq slot (slot_in (radices t) (suc k) b.tick + 1)) [
    | inl e ↦
        let some : length (list_at (smooth_list (radices t) (suc k) slot) b.links.lists) ≡ next_len t b (suc k) =
        ap (λ (x : ℕ). length (list_at (smooth_list (radices t) (suc k) x) b.links.lists)) e in
        absurd (omega (arith, f.some, z (omega arith)))
    | inr n ↦
        let w : 0 < weight (suc k) (radices t) = weight_some (radices t) (suc k) table in
        let a = f.later in
        let m : (slot_in (radices t) (suc k) b.tick + 1) * weight (suc k) (radices t) ≤ (slot - 1) * weight (suc k) (radices t) =
        mul-le-mul_right (weight (suc k) (radices t)) (let r : slot_in (radices t) (suc k) b.tick + 1 ≤ slot - 1 = omega arith in r) in
        let r : b.tick % weight (suc k) (radices t) < weight (suc k) (radices t) = omega arith in
        let parts : b.tick ≡ weight (suc k) (radices t) * slot_in (radices t) (suc k) b.tick + b.tick % weight (suc k) (radices t) = omega arith in
        let next : (slot_in (radices t) (suc k) b.tick + 1) * weight (suc k) (radices t)
        ≡ weight (suc k) (radices t) * slot_in (radices t) (suc k) b.tick + weight (suc k) (radices t) = omega arith in
        omega arith
  ]

  -- the events of a wheel and of those above are not before the end of that wheel's present slot, if no next bucket has timers
  after_present : (tick k : ℕ) (row : Row) (s : ℕ) → 0 < k → k < length (radices t) → next_len t b k ≡ 0 → b.tick < tick
      → slot_in (radices t) k (tick - 1) ≤ slot_in (radices t) k b.tick
      → s ≡ smooth_list (radices t) k (slot_in (radices t) k (row_timer row).deadline) → 0 < length (list_at s b.links.lists)
      → slot_in (radices t) k b.tick < slot_in (radices t) k (row_timer row).deadline
      → tick ≤ event_tick (radices t) k (slot_in (radices t) k (row_timer row).deadline)
  after_present tick zero row s z l none later c e some ahead = absurd (omega arith)
  after_present tick (suc k) row s z l none later c e some ahead =
      elim (cases_eq (slot_in (radices t) (suc k) (row_timer row).deadline) (slot_in (radices t) (suc k) b.tick + 1)) [
        | inl q ↦
            let n : length (list_at s b.links.lists) ≡ next_len t b (suc k) =
            ap (λ (x : ℕ). length (list_at x b.links.lists)) (e ∙ ap (smooth_list (radices t) (suc k)) q) in
            absurd (omega (arith, none))
        | inr q ↦
            let m : (slot_in (radices t) (suc k) b.tick + 1) * weight (suc k) (radices t)
            ≤ (slot_in (radices t) (suc k) (row_timer row).deadline - 1) * weight (suc k) (radices t) =
            mul-le-mul_right (weight (suc k) (radices t))
            (let r : slot_in (radices t) (suc k) b.tick + 1 ≤ slot_in (radices t) (suc k) (row_timer row).deadline - 1 = omega arith in r) in
            let end : tick - 1 < (slot_in (radices t) (suc k) b.tick + 1) * weight (suc k) (radices t) =
            slot_begins_later (radices t) (suc k) (tick - 1) (slot_in (radices t) (suc k) b.tick + 1) table (omega arith) in
            omega arith
      ]

  pub events_rest : (tick w : ℕ) → ((k : ℕ) → 0 < k → k < length (radices t) → next_len t b k ≡ 0) → 0 < w → b.tick < tick
      → slot_in (radices t) w (tick - 1) ≤ slot_in (radices t) w b.tick
      → EachRow (IsEventFrom (radices t) tick w) b.slots b.links.lists
      → EachRow (IsEventFrom (radices t) tick (length (radices t))) b.slots b.links.lists
  events_rest tick w none z later c g s m = each_with_rows (Seen tick w s) (IsEventFrom (radices t) tick (length (radices t)) s)
      (list_at s b.links.lists) (λ some row p k d n e. elim (cases_lt k w) [
        | inl q ↦ p.before k q n e
        | inr q ↦
            let o = on_wheel s k (slot_in (radices t) k (row_timer row).deadline) row n e p.smooth in
            after_present tick k row s (omega arith) n (none k (omega arith) n) later (slots_mono (radices t) w k b.tick (tick - 1) table q c) e some
            o.ahead
      ]) (seen tick w g s m)

  -- Before an event.

  -- a slot whose event is after a tick is ahead of it, and on a higher wheel so is the slot before it
  slot_ahead : (k i tick : ℕ) → 0 < i → tick < event_tick (radices t) k i → slot_in (radices t) k tick < i
  slot_ahead zero i tick z e = omega (arith, slot_low (radices t) tick)
  slot_ahead (suc k) i tick z e = elim (cases_lt (slot_in (radices t) (suc k) tick) i) [
    | inl l ↦ l
    | inr l ↦
        let m : (i - 1) * weight (suc k) (radices t) ≤ slot_in (radices t) (suc k) tick * weight (suc k) (radices t) =
        mul-le-mul_right (weight (suc k) (radices t)) (let r : i - 1 ≤ slot_in (radices t) (suc k) tick = omega arith in r) in
        let g : slot_in (radices t) (suc k) tick * weight (suc k) (radices t) ≤ tick = div-mul-le_self tick (weight (suc k) (radices t)) in
        absurd (omega arith)
  ]

  next_ahead : (k i tick : ℕ) → 0 < k → tick < event_tick (radices t) k i → slot_in (radices t) k tick + 1 < i
  next_ahead zero i tick z e = absurd (omega arith)
  next_ahead (suc k) i tick z e = elim (cases_lt (slot_in (radices t) (suc k) tick + 1) i) [
    | inl l ↦ l
    | inr l ↦
        let m : (i - 1) * weight (suc k) (radices t) ≤ slot_in (radices t) (suc k) tick * weight (suc k) (radices t) =
        mul-le-mul_right (weight (suc k) (radices t)) (let r : i - 1 ≤ slot_in (radices t) (suc k) tick = omega arith in r) in
        let g : slot_in (radices t) (suc k) tick * weight (suc k) (radices t) ≤ tick = div-mul-le_self tick (weight (suc k) (radices t)) in
        absurd (omega arith)
  ]

  module _ (event tick : ℕ) (before : tick < event) (later : b.tick ≤ tick)
      (events : EachRow (IsEventFrom (radices t) event (length (radices t))) b.slots b.links.lists) where
    pub ahead_of : EachRow (IsAheadOf (radices t) tick) b.slots b.links.lists
    ahead_of s l = weaker (Seen event (length (radices t)) s) (IsAheadOf (radices t) tick s) (list_at s b.links.lists)
        (λ row p k n e.
        let o = on_wheel s k (slot_in (radices t) k (row_timer row).deadline) row n e p.smooth in
        let a = o.ahead in
        let q = p.before k n n e in
        slot_ahead k (slot_in (radices t) k (row_timer row).deadline) tick (omega arith) (omega arith))
        (seen event (length (radices t)) events s l)

    -- a next bucket of that tick has no timers
    no_next : (k : ℕ) → 0 < k → k < length (radices t) → (rows : Rows)
        → AllByRecursion (Seen event (length (radices t)) (smooth_list (radices t) k (slot_in (radices t) k tick + 1))) rows → length rows ≡ 0
    no_next k z l [] p = refl
    no_next k z l (x ∷ xs) p =
        let i : ℕ = slot_in (radices t) k tick + 1 in
        let s : ℕ = smooth_list (radices t) k (slot_in (radices t) k tick + 1) in
        let o = on_wheel (smooth_list (radices t) k (slot_in (radices t) k tick + 1)) k (slot_in (radices t) k tick + 1) x l refl p.0.smooth in
        let at = at_own (smooth_list (radices t) k (slot_in (radices t) k tick + 1)) k (slot_in (radices t) k tick + 1) x l refl p.0.smooth in
        let q = p.0.before k l l at in
        let n : slot_in (radices t) k tick + 1 < slot_in (radices t) k (row_timer x).deadline =
        next_ahead k (slot_in (radices t) k (row_timer x).deadline) tick z (omega arith) in
        let m : slot_in (radices t) k b.tick ≤ slot_in (radices t) k tick = slots_later (radices t) k b.tick tick table later in
        let w = o.within in
        let same = in_slot (smooth_list (radices t) k (slot_in (radices t) k tick + 1)) k (slot_in (radices t) k tick + 1) x l refl (omega arith)
        (omega arith) p.0.smooth in
        absurd (omega arith)

    pub next_empty : (k : ℕ) → 0 < k → k < length (radices t) → length (list_at (next_list (radices t) tick k) b.links.lists) ≡ 0
    next_empty k z l = no_next k z l (list_at (next_list (radices t) tick k) b.links.lists)
        (seen event (length (radices t)) events (smooth_list (radices t) k (slot_in (radices t) k tick + 1))
        (ranges k (slot_in (radices t) k tick + 1) l))
