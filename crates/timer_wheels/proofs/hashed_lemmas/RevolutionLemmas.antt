-- Lemmas for `skip_revolutions` and `advance` of a hashed wheel: after whole revolutions each timer stands where it
-- stood, with fewer rounds, and stretches of ticks in which nothing is due compose.
use Rattle.std.proofs.Common.{◌≡◌, ◌<◌, ◌≤◌, ◌+◌, ◌-◌, ◌*◌, ◌/◌, ◌%◌, ℕ, List, [], length, refl, sym, ◌∙◌, ap, inl, inr, arith, map, min}
use Rattle.std.specs.List.{AllByRecursion}
use Rattle.std.proofs.lemmas.Bool.{cases_lt}
use Rattle.std.proofs.Math.Nat.{mul-add, add-mul-mod_self_right}
use Rattle.timer_base.specs.Order.{in_order}
use Rattle.timer_base.proofs.OrderLaws.{All-in_order, All-weaken}
use Rattle.timer_base.specs.Pending.{Entry, timer_of, AreAfter}
use Rattle.timer_base.specs.WheelState.{IsPassing, WheelState, IsPending, Advances, after_ticks}
use Rattle.timer_base.proofs.TickLaws.{after_ticks-now, after_ticks-last, after_ticks-add, passing_quiet}
use Rattle.timer_links.specs.Lists.{list_at, KeyedLists, Row, Rows}
use Rattle.timer_wheels.specs.BucketLaws.{timers_of-entries}
use Rattle.timer_wheels.specs.BucketLists.{row_timer, row_timers, entry_of, entries_of, rows_below, pending_in, wheel_state, ArePending, AreInOrder, AreBuckets, EachRow}
use Rattle.timer_wheels.specs.hashed.Hashed.{AreInBuckets}
use Rattle.timer_wheels.specs.hashed.Sweep.{HasRoundsLeft, with_fewer_rounds}
use Rattle.timer_wheels.proofs.bucket_lemmas.AllLemmas.{all-both, all-map}
use Rattle.timer_wheels.proofs.table_lemmas.DigitLaws.{quotient_is}
use Rattle.timer_wheels.proofs.hashed_lemmas.Ticks.{IsDistance, StaysIn, distance, entries-fewer, timers-fewer, entries_below, stays, stays-pending, stays-in_buckets}
use Rattle.timer_wheels.proofs.hier_lemmas.LeapLemmas.{due_after}

-- Numbers.

-- some rounds less are left of a deadline after as many revolutions
fewer_rounds : {n now d q r : ℕ} (k tick : ℕ) → IsDistance n now d q r → k ≤ q → tick ≡ now + k * n → (tick < d) × ((d - tick - 1) / n ≡ q - k)
fewer_rounds {n} {now} {d} {q} {r} k tick far h e =
    let i : d ≡ now + 1 + (n * q + r) = far.is in
    let s : q ≡ k + (q - k) = omega arith in
    let m : n * q ≡ n * k + n * (q - k) = ap (λ (y : ℕ). n * y) s ∙ mul-add n k (q - k) in
    (omega arith, quotient_is n (q - k) r (d - tick - 1) far.over (omega arith))

-- the slot is the same
pub same_slot_after : (n now k tick : ℕ) → tick ≡ now + k * n → tick % n ≡ now % n
same_slot_after n now k tick e = ap (λ (y : ℕ). y % n) e ∙ add-mul-mod_self_right now k n

-- Rows.

-- a pending row with enough rounds
after_row : (n last_tick now last k s tick : ℕ) (row : Row) → 0 < n → tick ≡ now + k * n → StaysIn n last_tick now last s row
    → HasRoundsLeft k row → StaysIn n last_tick tick last s (with_fewer_rounds k row)
after_row n last_tick now last k s tick row z e c h =
    let q : ℕ = ((row_timer row).deadline - now - 1) / n in
    let rounds : row.1.rounds ≡ q = c.1.1 in
    let f = fewer_rounds k tick (distance n now (row_timer row).deadline z c.0.later) (omega arith) e in
    let less : row.1.rounds - k ≡ q - k = ap (λ (y : ℕ). y - k) rounds in
    (record { later = f.0; in_range = c.0.in_range; serial = c.0.serial }, (c.1.0, less ∙ sym f.1))

-- pending timers are after now, and after each tick before it
later_entries : (last_tick now last tick : ℕ) (rows : Rows) → tick ≤ now → ArePending last_tick now last rows → AreAfter tick (pending_in rows)
later_entries last_tick now last tick rows h p = All-in_order timer_of (λ entry. tick < entry.timer.deadline) (entries_of rows)
    (all-map entry_of (λ entry. tick < entry.timer.deadline) rows (All-weaken (λ row. IsPending last_tick now last (row_timer row))
    (λ row. tick < (row_timer row).deadline) rows (λ row q. omega (arith, q.later)) p))

pub quiet_now : (n last_tick now last : ℕ) (lists : KeyedLists) → ArePending last_tick now last (rows_below n lists)
    → AreAfter (now + 0) (pending_in (rows_below n lists))
quiet_now n last_tick now last lists p = later_entries last_tick now last (now + 0) (rows_below n lists) (omega arith) p

-- All lists.

module _ {n last_tick now last : ℕ} {old : KeyedLists} (a : AreBuckets n last_tick now last old) (k tick : ℕ) (new : KeyedLists)
    (z : 0 < n) (e : tick ≡ now + k * n) (len : length new ≡ length old) (b : AreInBuckets n now old)
    (enough : (s : ℕ) → s < n → AllByRecursion (HasRoundsLeft k) (list_at s old))
    (counted : (s : ℕ) → s < n → list_at s new ≡ map (with_fewer_rounds k) (list_at s old)) (others : list_at n new ≡ list_at n old) where
  after : EachRow (StaysIn n last_tick tick last) n new
  after s h = rw (counted s h) (all-map (with_fewer_rounds k) (StaysIn n last_tick tick last s) (list_at s old)
      (all-both (StaysIn n last_tick now last s) (HasRoundsLeft k) (λ row. StaysIn n last_tick tick last s (with_fewer_rounds k row))
      (list_at s old) (λ row q r. after_row n last_tick now last k s tick row z e q r) (stays n last_tick now last old a.pending b s h) (enough s h)))

  entries : entries_of (rows_below n new) ≡ entries_of (rows_below n old)
  entries = entries_below (λ (es : List Entry). es) n old new refl (λ xs ys. refl) (sym len)
      (λ s h. ap entries_of (counted s h) ∙ entries-fewer k (list_at s old))

  timers : row_timers (rows_below n new) ≡ row_timers (rows_below n old)
  timers = sym (timers_of-entries (rows_below n new)) ∙ (ap (map timer_of) entries ∙ timers_of-entries (rows_below n old))

  pub skipped : wheel_state n last_tick tick last new ≡ record (wheel_state n last_tick now last old) { now = tick }
  skipped = rw (ap (in_order timer_of) entries, ap entries_of others) refl

  pub skipped-in_buckets : AreInBuckets n tick new
  skipped-in_buckets = stays-in_buckets n last_tick tick last new after

  pub skipped-in_order : AreInOrder n old → AreInOrder n new
  skipped-in_order o s h = rw (counted s h, timers-fewer k (list_at s old)) (o s h)

  pub skipped-sound : list_at n old ≡ [] → tick ≤ last_tick → AreBuckets n last_tick tick last new
  skipped-sound d range = record {
    last_in_range = a.last_in_range;
    tick_in_range = range;
    serial_in_range = a.serial_in_range;
    has_lists = len ∙ a.has_lists;
    pending = stays-pending n last_tick tick last new after;
    distinct = rw timers a.distinct;
    due = rw (others, d) tt;
    due_in_order = rw others a.due_in_order;
  }

  pub skipped-quiet : AreAfter tick (pending_in (rows_below n old))
  skipped-quiet = rw (ap (in_order timer_of) entries) at (later_entries last_tick tick last tick (rows_below n new) (omega arith)
      (stays-pending n last_tick tick last new after))

-- Stretches of ticks, one after another.

-- nothing is due in the first stretch, nor in the second
pub passing_on : (p q : ℕ) (old mid new : WheelState) → IsPassing p old mid → IsPassing q mid new → IsPassing (p + q) old new
passing_on p q old mid new a b = record {
  ticked = b.ticked ∙ (ap (after_ticks q) a.ticked ∙ sym (after_ticks-add p q old));
  quiet = λ n h. elim (cases_lt p n) [
    | inl k ↦ due_after p n old mid a.ticked (omega arith) ∙ b.quiet (n - p) (omega arith)
    | inr k ↦ a.quiet n k
  ];
}

pub passing_from : (most q : ℕ) (old new : WheelState) → Advances most q old new → new.due ≡ [] → IsPassing q old new
passing_from most q old new a d = record {
  ticked = a.ticked;
  quiet = λ n h. elim (cases_lt n q) [
    | inl k ↦ a.quiet n k
    | inr k ↦
        let e : n ≡ q = omega arith in
        rw (e, ← a.ticked) d
  ];
}

pub passing_skip : (q : ℕ) (old new : WheelState) → old.due ≡ [] → AreAfter (old.now + q) old.pending
    → new ≡ record old { now = old.now + q } → IsPassing q old new
passing_skip q old new d a e = rw e (passing_quiet q old d a)

-- something is due at the end of the second stretch
pub advances_on : (p m q most : ℕ) (old mid new : WheelState) → IsPassing p old mid → Advances m q mid new → p + q ≤ most
    → 0 < length new.due → Advances most (p + q) old new
advances_on p m q most old mid new a b h d = record {
  some = omega (arith, b.some);
  at_most = h;
  ticked = b.ticked ∙ (ap (after_ticks q) a.ticked ∙ sym (after_ticks-add p q old));
  quiet = λ n k. elim (cases_lt n p) [
    | inl l ↦ a.quiet n (omega arith)
    | inr l ↦ due_after p n old mid a.ticked l ∙ b.quiet (n - p) (omega arith)
  ];
  early = λ k. d;
}

-- the clock has room for the ticks that are left
pub room_left : (p most : ℕ) (old mid : WheelState) → IsPassing p old mid → p ≤ most → most ≤ old.last_tick - old.now
    → most - p ≤ mid.last_tick - mid.now
room_left p most old mid a h m =
    let n : mid.now ≡ old.now + p = ap (λ (w : WheelState). w.now) a.ticked ∙ after_ticks-now p old in
    let l : mid.last_tick ≡ old.last_tick = ap (λ (w : WheelState). w.last_tick) a.ticked ∙ after_ticks-last p old in
    omega arith

pub turn_fits : (p turn m q most : ℕ) (mid new : WheelState) → p ≤ most → m ≡ min turn (most - p) → Advances m q mid new → p + q ≤ most
turn_fits p turn m q most mid new h e a = omega (arith, a.at_most)
