-- Lemmas for the files of a lazy hierarchy: where rows are, the first visit, and ticks that visit no bucket.
use Rattle.std.proofs.Common.{◌≡◌, ◌<◌, ◌≤◌, ◌+◌, ◌-◌, ℕ, List, [], ◌∷◌, ◌++◌, length, refl, sym, ◌∙◌, ap, subst, inl, inr, arith, Some, None, Option, IfSome, IfNone}
use Rattle.std.specs.List.{AllByRecursion}
use Rattle.std.proofs.lemmas.Bool.{cases_lt}
use Rattle.timer_base.proofs.OrderLaws.{All-in_order, All-weaken}
use Rattle.timer_base.proofs.TickLaws.{passing_quiet}
use Rattle.timer_base.specs.Pending.{timer_of, AreAfter}
use Rattle.timer_base.specs.WakeUps.{IsWakeUp, IsQuietUntil}
use Rattle.timer_base.specs.WheelState.{IsPending, IsDue, IsPassing, held_at}
use Rattle.timer_links.specs.Lists.{AreApart, SetsNode}
use Rattle.timer_wheels.specs.Types.{Handle, Timer, WheelState, Ghosts, Node, list_at, KeyedLists, Row, Rows, Table}
use Rattle.timer_wheels.specs.BucketLists.{row_timer, entry_of, entries_of, rows_below, pending_in, AreBuckets, EachRow}
use Rattle.timer_wheels.specs.Buckets.{state_of, IsSameFrame}
use Rattle.timer_wheels.specs.Digits.{IsTable, HasDigits, slots, bucket, emptied}
use Rattle.timer_wheels.specs.lazy.Filed.{IsFiled}
use Rattle.timer_wheels.specs.lazy.Files.{AreFiles, AreVisitedFrom}
use Rattle.timer_wheels.specs.lazy.Filing.{EmptiesBucket}
use Rattle.timer_wheels.specs.hier.Leap.{list_visit}
use Rattle.timer_wheels.specs.Occupied.{bit_of, filled, IsFirstSet}
use Rattle.timer_wheels.specs.Tables.{radices}
use Rattle.timer_wheels.specs.declared.buckets.Buckets.{Buckets}
use Rattle.timer_wheels.specs.declared.table.TheConstants.{MOST_BUCKETS}
use Rattle.timer_wheels.proofs.bucket_lemmas.AllLemmas.{all-both, all-map}
use Rattle.timer_wheels.proofs.bucket_lemmas.Calls.{no_rows, length-pending_in}
use Rattle.timer_wheels.proofs.table_lemmas.DigitLaws.{digits_down}
use Rattle.timer_wheels.proofs.lazy_lemmas.FiledLemmas.{is_filed, still_filed, ahead_in_range, ahead_until, visited_first}
use Rattle.timer_wheels.proofs.lazy_lemmas.Ticks.{IsBefore, IsNext, next_here, no_row}
use Rattle.timer_wheels.proofs.bucket_lemmas.OccupiedLemmas.{no_rows_there}
use Rattle.timer_wheels.proofs.bucket_lemmas.Postponed.{postponed_each, postponed_marked, was, was_at}
use Rattle.timer_wheels.proofs.bucket_lemmas.RowLemmas.{all-rest, all-rows_below, all-list_at, rows_below-none, length-rows_below-next}
use Rattle.timer_wheels.proofs.table_lemmas.TableLaws.{of_table}

-- a row as the invariant knows it
pub record IsKnownFile (table : List ℕ) (last_tick now last_serial s : ℕ) (row : Row) : Type 0 where
  pub pending : IsPending last_tick now last_serial (row_timer row)
  pub filed : IsFiled table now s row
  pub digits : HasDigits table (list_visit table s now)

module _ {N : Type 0} {kept : Ghosts N} {t : Table} {b : Buckets N kept} {words : List ℕ} (h : AreFiles t b words) where
  pub is_table : IsTable (radices t)
  is_table = (of_table t).is_table

  pub last_digits : HasDigits (radices t) b.last_tick
  last_digits = rw h.clock (of_table t).digits

  abbrev Known : ℕ → Row → Type 0
  Known s row = IsKnownFile (radices t) b.last_tick b.tick b.last_serial s row

  known_row : (s : ℕ) (row : Row) → IsPending b.last_tick b.tick b.last_serial (row_timer row) → IsFiled (radices t) b.tick s row → Known s row
  known_row s row p f = record {
    pending = p;
    filed = f;
    digits = digits_down (radices t) (list_visit (radices t) s b.tick) b.last_tick is_table
        (let x : list_visit (radices t) s b.tick ≤ (row_timer row).deadline = f.in_time in
        let y : (row_timer row).deadline ≤ b.last_tick = p.in_range in omega arith) last_digits;
  }

  pub known_files : (s : ℕ) → s < b.slots → AllByRecursion (Known s) (list_at s b.links.lists)
  known_files s k = all-both (λ row. IsPending b.last_tick b.tick b.last_serial (row_timer row)) (IsFiled (radices t) b.tick s) (Known s)
      (list_at s b.links.lists) (known_row s)
      (all-list_at (λ row. IsPending b.last_tick b.tick b.last_serial (row_timer row)) b.slots b.links.lists b.sound.pending s k) (h.filed s k)

  -- a row stands in a list of the table
  in_table : (s : ℕ) (row : Row) → Known s row → s < slots (radices t)
  in_table s row q = ahead_in_range (radices t) b.tick s is_table q.digits q.filed.ahead

  pub spare_none : (s : ℕ) → slots (radices t) ≤ s → s < b.slots → list_at s b.links.lists ≡ []
  spare_none s k m = no_row (Known s) (list_at s b.links.lists) (λ row q. (let r : s < slots (radices t) = in_table s row q in omega arith))
      (known_files s m)

  pub before : (state_of b).due ≡ [] → b.tick < b.last_tick → IsBefore (radices t) b.slots b.last_tick b.tick b.last_serial b.links.lists
  before z k = record {
    is_table = is_table;
    digits = last_digits;
    before_last = k;
    more = omega (arith, h.has_slots);
    sound = b.sound;
    filed = h.filed;
    none_due = no_rows (list_at b.slots b.links.lists) z;
  }

  -- a timer that is started now is filed in its bucket
  pub newly_filed : (list : ℕ) (row : Row) → (row_timer row).deadline ≤ b.last_tick → b.last_serial < (row_timer row).serial → row.1.rounds ≡ 0
      → (b.tick < (row_timer row).deadline → list ≡ bucket (radices t) b.tick (row_timer row).deadline)
      → b.tick < (row_timer row).deadline → IsFiled (radices t) b.tick list row
  newly_filed list row in_range fresh z at later =
      is_filed (radices t) b.tick list row is_table (digits_down (radices t) (row_timer row).deadline b.last_tick is_table in_range last_digits)
      later (sym (at later)) z (omega arith)

  pub less_slots : slots (radices t) ≤ b.slots
  less_slots = omega (arith, h.has_slots)

  pub within : (l : ℕ) (front : Rows) (row : Row) (rest : Rows) → l < length b.links.lists → list_at l b.links.lists ≡ front ++ row ∷ rest
      → l < b.slots → l < slots (radices t)
  within l front row rest k at m =
      in_table l row (all-rest (Known l) front (row ∷ rest) (subst (AllByRecursion (Known l)) at (known_files l m))).0

  pub row_in_table : (l : ℕ) (front : Rows) (row : Row) (rest : Rows) → l < length b.links.lists → list_at l b.links.lists ≡ front ++ row ∷ rest
      → l < b.slots → l < MOST_BUCKETS
  row_in_table l front row rest k at m = omega (arith, within l front row rest k at m, (of_table t).few_slots)

  -- One tick.
  pub ticked : (list : ℕ) (new : KeyedLists) → list ≡ emptied (radices t) (b.tick + 1)
      → EmptiesBucket (radices t) (slots (radices t) + 35) (b.tick + 1) list b.links.lists new → (state_of b).due ≡ [] → b.tick < b.last_tick
      → IsNext (radices t) b.slots b.last_tick b.tick b.last_serial b.links.lists new
  ticked list new at e z k =
      next_here (before z k) new
      (subst (λ (n : ℕ). EmptiesBucket (radices t) n (b.tick + 1) (emptied (radices t) (b.tick + 1)) b.links.lists new) (sym h.has_slots)
      (subst (λ (l : ℕ). EmptiesBucket (radices t) (slots (radices t) + 35) (b.tick + 1) l b.links.lists new) at e))

  -- The first visit.

  pub none_where : (s : ℕ) → s < slots (radices t) → bit_of words s ≡ 0 → list_at s b.links.lists ≡ []
  none_where s k z = no_rows_there (list_at s b.links.lists) (sym (h.marked.0 s k) ∙ z)

  pub none_at_all : ((s : ℕ) → s < MOST_BUCKETS → bit_of words s ≡ 0) → (s : ℕ) → s < b.slots → list_at s b.links.lists ≡ []
  none_at_all f s k = elim (cases_lt s (slots (radices t))) [
    | inl m ↦ none_where s m (f s (omega (arith, (of_table t).few_slots)))
    | inr m ↦ spare_none s m k
  ]

  pub none_pending : ((s : ℕ) → s < MOST_BUCKETS → bit_of words s ≡ 0) → (state_of b).pending ≡ []
  none_pending f = ap pending_in (rows_below-none b.slots b.links.lists (none_at_all f))

  module _ (l : ℕ) (f : IsFirstSet MOST_BUCKETS words (Some l)) where
    pub first_in_table : l < slots (radices t)
    first_in_table = elim (cases_lt l (slots (radices t))) [
      | inl c ↦ c
      | inr c ↦ absurd (omega (arith, h.marked.1 l c f.0, f.1))
    ]

    first_in : l < b.slots
    first_in = omega (arith, first_in_table, less_slots)

    pub filled_there : filled (list_at l b.links.lists) ≡ 1
    filled_there = sym (h.marked.0 l first_in_table) ∙ f.1

    later_there : (rows : Rows) → filled rows ≡ 1 → AllByRecursion (Known l) rows → b.tick < list_visit (radices t) l b.tick
    later_there [] e a = absurd (omega arith)
    later_there (r ∷ rs) e a = a.0.filed.ahead.later

    pub first_later : b.tick < list_visit (radices t) l b.tick
    first_later = later_there (list_at l b.links.lists) filled_there (known_files l first_in)

    some_there : (rows : Rows) → filled rows ≡ 1 → 0 < length rows
    some_there [] e = absurd (omega arith)
    some_there (r ∷ rs) e = omega arith

    pub some_pending : 0 < length (state_of b).pending
    some_pending = omega (
      arith,
      length-pending_in (rows_below b.slots b.links.lists),
      length-rows_below-next l b.slots b.links.lists first_in (omega (arith, first_in, b.sound.has_lists)),
      some_there (list_at l b.links.lists) filled_there,
    )

    pub first_of_all : AreVisitedFrom (radices t) (list_visit (radices t) l b.tick) b.tick b.slots b.links.lists
    first_of_all s k = elim (cases_lt s l) [
      | inl c ↦ rw (none_where s (omega (arith, first_in_table)) (f.2 s c)) tt
      | inr c ↦ All-weaken (Known s) (λ row. list_visit (radices t) l b.tick ≤ list_visit (radices t) s b.tick) (list_at s b.links.lists)
          (λ row q. visited_first (radices t) b.tick s is_table q.digits q.filed.ahead l c) (known_files s k)
    ]

  -- The clock alone advances.

  pub visited_sooner : (visit end : ℕ) → end ≤ visit → AreVisitedFrom (radices t) visit b.tick b.slots b.links.lists
      → AreVisitedFrom (radices t) end b.tick b.slots b.links.lists
  visited_sooner visit end k a s m = All-weaken (λ row. visit ≤ list_visit (radices t) s b.tick) (λ row. end ≤ list_visit (radices t) s b.tick)
      (list_at s b.links.lists) (λ row q. (let x : visit ≤ list_visit (radices t) s b.tick = q in omega arith)) (a s m)

  pub visited_none : (end : ℕ) → ((s : ℕ) → s < b.slots → list_at s b.links.lists ≡ [])
      → AreVisitedFrom (radices t) end b.tick b.slots b.links.lists
  visited_none end e s m = rw (e s m) tt

  module _ (tick : ℕ) (later : b.tick ≤ tick) (in_range : tick ≤ b.last_tick) (none_due : (state_of b).due ≡ [])
      (ahead : AreVisitedFrom (radices t) (tick + 1) b.tick b.slots b.links.lists) where
    -- what holds of each row that is visited after the tick
    each_ahead : (P : ℕ → Row → Type 0) → ((s : ℕ) (row : Row) → Known s row → tick < list_visit (radices t) s b.tick → P s row)
        → EachRow P b.slots b.links.lists
    each_ahead P f s m = all-both (Known s) (λ row. tick + 1 ≤ list_visit (radices t) s b.tick) (P s) (list_at s b.links.lists)
        (λ row q v. f s row q (omega arith)) (known_files s m) (ahead s m)

    pub still_pending : EachRow (λ s row. IsPending b.last_tick tick b.last_serial (row_timer row)) b.slots b.links.lists
    still_pending = each_ahead (λ s row. IsPending b.last_tick tick b.last_serial (row_timer row)) (λ s row q v. record {
      later = (let x : list_visit (radices t) s b.tick ≤ (row_timer row).deadline = q.filed.in_time in omega arith);
      in_range = q.pending.in_range;
      serial = q.pending.serial;
    })

    pub skipped_sound : AreBuckets b.slots b.last_tick tick b.last_serial b.links.lists
    skipped_sound = record {
      last_in_range = b.sound.last_in_range;
      tick_in_range = in_range;
      serial_in_range = b.sound.serial_in_range;
      has_lists = b.sound.has_lists;
      pending = all-rows_below (λ row. IsPending b.last_tick tick b.last_serial (row_timer row)) b.slots b.links.lists still_pending;
      distinct = b.sound.distinct;
      due = subst (AllByRecursion (λ row. IsDue tick b.last_serial (row_timer row))) (sym (no_rows (list_at b.slots b.links.lists) none_due)) tt;
      due_in_order = b.sound.due_in_order;
    }

    pub skipped_filed : EachRow (IsFiled (radices t) tick) b.slots b.links.lists
    skipped_filed = each_ahead (IsFiled (radices t) tick) (λ s row q v.
        let k = ahead_until (radices t) b.tick s is_table q.digits q.filed.ahead tick later v in
        record {
          ahead = k.0;
          in_time = (let x : list_visit (radices t) s tick ≤ list_visit (radices t) s b.tick = k.1 in
              let y : list_visit (radices t) s b.tick ≤ (row_timer row).deadline = q.filed.in_time in omega arith);
          no_rounds = q.filed.no_rounds;
          numbered = q.filed.numbered;
        })

    after_all : AreAfter tick (state_of b).pending
    after_all = All-in_order timer_of (λ entry. tick < entry.timer.deadline) (entries_of (rows_below b.slots b.links.lists))
        (all-map entry_of (λ entry. tick < entry.timer.deadline) (rows_below b.slots b.links.lists)
        (all-rows_below (λ row. tick < (row_timer row).deadline) b.slots b.links.lists
        (each_ahead (λ s row. tick < (row_timer row).deadline) (λ s row q v.
        (let x : list_visit (radices t) s b.tick ≤ (row_timer row).deadline = q.filed.in_time in omega arith)))))

    pub skip_passes : (new : WheelState) → new ≡ record (state_of b) { now = tick } → IsPassing (tick - b.tick) (state_of b) new
    skip_passes new e =
        let n : b.tick + (tick - b.tick) ≡ tick = omega arith in
        subst (λ (w : WheelState). IsPassing (tick - b.tick) (state_of b) w)
        (ap (λ (x : ℕ). record (state_of b) { now = x }) n ∙ sym e)
        (passing_quiet (tick - b.tick) (state_of b) none_due (subst (λ (x : ℕ). AreAfter x (state_of b).pending) (sym n) after_all))

  -- The first visit is one to wake up at.

  pub first_wakes : (visit : ℕ) → 0 < length (state_of b).pending → b.tick < visit
      → AreVisitedFrom (radices t) visit b.tick b.slots b.links.lists → IsWakeUp visit b.tick (state_of b).pending
  first_wakes visit some later first = record {
    some = some;
    later = later;
    in_time = All-in_order timer_of (λ entry. visit ≤ entry.timer.deadline) (entries_of (rows_below b.slots b.links.lists))
        (all-map entry_of (λ entry. visit ≤ entry.timer.deadline) (rows_below b.slots b.links.lists)
        (all-rows_below (λ row. visit ≤ (row_timer row).deadline) b.slots b.links.lists
        (λ s m. all-both (Known s) (λ row. visit ≤ list_visit (radices t) s b.tick) (λ row. visit ≤ (row_timer row).deadline)
        (list_at s b.links.lists)
        (λ row q v. (let x : list_visit (radices t) s b.tick ≤ (row_timer row).deadline = q.filed.in_time in
        let y : visit ≤ list_visit (radices t) s b.tick = v in omega arith))
        (known_files s m) (first s m))));
  }

  pub quiet_to_visit : (o : Option ℕ) → IfNone o ((state_of b).pending ≡ []) → IfSome o (λ visit. 0 < length (state_of b).pending)
      → IfSome o (λ visit. b.tick < visit) → IfSome o (λ visit. AreVisitedFrom (radices t) visit b.tick b.slots b.links.lists)
      → IsQuietUntil o b.tick (state_of b).pending
  quiet_to_visit None none some later first = none
  quiet_to_visit (Some visit) none some later first = first_wakes visit some later first

  -- A push back.

  module _ (apart : AreApart b.links.lists) (handle : Handle) (timer : Timer) (fresh : b.last_serial < timer.serial) where
    abbrev node : Node
    node = record { timer = timer; rounds = 0 }

    pub pushed_back : (new : Buckets N kept) (old : Timer) → IsSameFrame b new → held_at handle (state_of b) ≡ Some old
        → (b.tick < old.deadline) × (old.deadline ≤ timer.deadline)
        → SetsNode handle.place (record { timer = timer; rounds = 0 }) b.links.lists new.links.lists → AreFiles t new words
    pushed_back new old frame found ahead set = record {
      has_slots = frame.slots ∙ h.has_slots;
      clock = frame.last_tick ∙ h.clock;
      filed = rw (frame.tick, frame.slots) (postponed_each b.sound apart handle old found ahead.0 node new.links.lists set (IsFiled (radices t) b.tick)
          (λ s f. still_filed (radices t) b.tick s (handle.place, was b.sound apart handle old found ahead.0 node new.links.lists set)
          (handle.place, node) (omega (arith, was_at b.sound apart handle old found ahead.0 node new.links.lists set, ahead.1)) refl
          (omega arith) f) h.filed);
      marked = postponed_marked b.sound apart handle old found ahead.0 node new.links.lists set (slots (radices t)) words h.marked;
    }
