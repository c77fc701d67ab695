-- Lemmas for `quiet_until`: a first visit is a tick to wake up at, and the slots ahead of a hashed wheel.
use Rattle.std.proofs.Common.{◌≡◌, ◌⊎◌, ◌<◌, ◌≤◌, ◌+◌, ◌-◌, ◌%◌, ℕ, [], ◌∷◌, length, refl, ◌∙◌, ap, inl, inr, arith, ◌↔◌, Bool, true, false, IsTrue}
use Rattle.std.proofs.lemmas.List.{get_or_past}
use Rattle.std.proofs.lemmas.Bool.{cases_lt}
use Rattle.std.proofs.Math.Nat.{mod-add-mod}
use Rattle.timer_base.proofs.Basics.{empty_when}
use Rattle.timer_base.proofs.OrderLaws.{All-in_order}
use Rattle.timer_base.specs.Pending.{timer_of}
use Rattle.timer_base.specs.WakeUps.{IsWakeUp}
use Rattle.timer_base.specs.WheelState.{IsPending}
use Rattle.timer_links.specs.Lists.{list_at, row_count, KeyedLists, Rows}
use Rattle.timer_wheels.specs.hashed.Hashed.{slot_of, rounds_of, IsInBucket, AreInBuckets, IsNextSweep}
use Rattle.timer_wheels.specs.Shown.{entries_at}
use Rattle.timer_wheels.specs.BucketLists.{row_timer, entry_of, entries_of, rows_below, pending_in, wheel_state, ArePending, AreInOrder, EachRow}
use Rattle.timer_wheels.proofs.bucket_lemmas.ShownLemmas.{shows, some_at, entries_at-pending}
use Rattle.timer_wheels.proofs.bucket_lemmas.AllLemmas.{all-both, all-map}
use Rattle.timer_wheels.proofs.table_lemmas.DigitLaws.{rest_is}
use Rattle.timer_wheels.proofs.bucket_lemmas.RowLemmas.{all-rows_below, all-list_at, rows_below-none, length-rows_below-next}
use Rattle.timer_wheels.proofs.bucket_lemmas.Calls.{row_count-parts, length-pending_in}

-- Some timer is pending, or none is.

some_or_none : (rows : Rows) → (rows ≡ []) ⊎ (0 < length rows)
some_or_none [] = inl refl
some_or_none (r ∷ rs) = inr (omega arith)

some_pending : (n l : ℕ) (lists : KeyedLists) → l < n → 0 < length (list_at l lists) → 0 < length (pending_in (rows_below n lists))
some_pending n l lists b h = elim (cases_lt l (length lists)) [
  | inl c ↦ omega (arith, length-pending_in (rows_below n lists), length-rows_below-next l n lists b c)
  | inr c ↦ absurd (omega (arith, ap (λ (y : Rows). length y) (get_or_past lists l [] c)))
]

module _ (n last now last_serial : ℕ) (lists : KeyedLists) where
  -- some bucket has a timer, and no deadline is before this tick
  pub wakes : (visit l : ℕ) → l < n → 0 < length (list_at l lists) → now < visit
      → EachRow (λ s row. visit ≤ (row_timer row).deadline) n lists → IsWakeUp visit now (pending_in (rows_below n lists))
  wakes visit l b h k a = record {
    some = some_pending n l lists b h;
    later = k;
    in_time = All-in_order timer_of (λ entry. visit ≤ entry.timer.deadline) (entries_of (rows_below n lists))
        (all-map entry_of (λ entry. visit ≤ entry.timer.deadline) (rows_below n lists)
        (all-rows_below (λ row. visit ≤ (row_timer row).deadline) n lists a));
  }

  -- no bucket has a timer
  pub sleeps : ((s : ℕ) → s < n → list_at s lists ≡ []) → (wheel_state n last now last_serial lists).pending ≡ []
  sleeps f = ap pending_in (rows_below-none n lists f)

-- Slot by slot.

pub seen_filled : (rows : Rows) (empty : Bool) → IsTrue empty ↔ (rows ≡ []) → empty ≡ false → 0 < length rows
seen_filled [] empty f e = absurd (let x : empty ≡ true = f.1 refl in cc)
seen_filled (r ∷ rs) empty f e = omega arith

-- if the lists have no row, nothing is pending
pub none_at_all : (n : ℕ) (lists : KeyedLists) → length lists ≡ n + 1 → row_count lists ≡ 0 → pending_in (rows_below n lists) ≡ []
none_at_all n lists e z = empty_when (pending_in (rows_below n lists))
    (omega (arith, row_count-parts n lists e, length-pending_in (rows_below n lists)))

-- the slots up to some steps ahead have no timer
abbrev pub AreEmptyAhead : ℕ → ℕ → ℕ → KeyedLists → Type 0
AreEmptyAhead n slot step lists = (j : ℕ) → 0 < j → j ≤ step → list_at ((slot + j) % n) lists ≡ []

pub none_ahead : (n slot : ℕ) (lists : KeyedLists) → AreEmptyAhead n slot 0 lists
none_ahead n slot lists j a b = absurd (omega arith)

pub one_ahead : (n slot step bucket : ℕ) (lists : KeyedLists) → bucket ≡ (slot + (step + 1)) % n → list_at bucket lists ≡ []
    → AreEmptyAhead n slot step lists → AreEmptyAhead n slot (step + 1) lists
one_ahead n slot step bucket lists e z f j a b = elim (cases_lt j (step + 1)) [
  | inl k ↦ f j a (omega arith)
  | inr k ↦ let i : j ≡ step + 1 = omega arith in rw (i, ← e) z
]

-- after a full turn no slot is left
pub all_ahead : (n slot : ℕ) (lists : KeyedLists) → slot < n → AreEmptyAhead n slot n lists → (s : ℕ) → s < n → list_at s lists ≡ []
all_ahead n slot lists a f s b = elim (cases_lt slot s) [
  | inl k ↦ rw (← rest_is n 0 s (slot + (s - slot)) b (omega arith)) (f (s - slot) (omega arith) (omega arith))
  | inr k ↦ rw (← rest_is n 1 s (slot + (s + n - slot)) b (omega arith)) (f (s + n - slot) (omega arith) (omega arith))
]

-- `j` steps ahead of the slot of now
slot_ahead : (n now slot j t : ℕ) → slot ≡ now % n → t ≡ now + j → (slot + j) % n ≡ t % n
slot_ahead n now slot j t a e = rw (a, e) (mod-add-mod now n j)

-- the slots of the ticks up to those steps have none
passed_empty : (n now slot step t : ℕ) (lists : KeyedLists) → slot ≡ now % n → AreEmptyAhead n slot step lists → now < t
    → t < now + (step + 1) → list_at (t % n) lists ≡ []
passed_empty n now slot step t lists a f h k =
    rw (← slot_ahead n now slot (t - now) t a (omega arith)) (f (t - now) (omega arith) (omega arith))

-- so a timer of a slot that has one is not before the first such slot
row_in_time : (n now slot step s d : ℕ) (lists : KeyedLists) → slot ≡ now % n → AreEmptyAhead n slot step lists → d % n ≡ s
    → now < d → 0 < length (list_at s lists) → now + (step + 1) ≤ d
row_in_time n now slot step s d lists a f m k h = elim (cases_lt d (now + (step + 1))) [
  | inl b ↦ absurd (omega (arith, ap (λ (y : Rows). length y) (rw m at (passed_empty n now slot step d lists a f k b))))
  | inr b ↦ b
]

module _ (n last now last_serial slot step : ℕ) (lists : KeyedLists) (a : slot
    ≡ now % n) (f : AreEmptyAhead n slot step lists) where
  lists_in_time : ArePending last now last_serial (rows_below n lists) → AreInBuckets n now lists
      → EachRow (λ s row. now + (step + 1) ≤ (row_timer row).deadline) n lists
  lists_in_time p q s b = elim (some_or_none (list_at s lists)) [
    | inl e ↦ rw e tt
    | inr h ↦ all-both (λ row. IsPending last now last_serial (row_timer row)) (IsInBucket n now s)
        (λ row. now + (step + 1) ≤ (row_timer row).deadline) (list_at s lists)
        (λ row x y. row_in_time n now slot step s (row_timer row).deadline lists a f y.0 x.later h)
        (all-list_at (λ row. IsPending last now last_serial (row_timer row)) n lists p s b) (q s b)
  ]

  -- the first slot ahead that has a timer
  pub wakes_at : (bucket : ℕ) → bucket < n → 0 < length (list_at bucket lists) → ArePending last now last_serial (rows_below n lists)
      → AreInBuckets n now lists → IsWakeUp (now + (step + 1)) now (pending_in (rows_below n lists))
  wakes_at bucket b h p q = wakes n last now last_serial lists (now + (step + 1)) bucket b h (omega arith) (lists_in_time p q)

-- The first slot ahead that has a timer.

module _ (n last now last_serial slot step : ℕ) (lists : KeyedLists) (z : 0 < n) (a : slot
    ≡ now % n) (f : AreEmptyAhead n slot step lists) (len : length lists
    ≡ n + 1) (o : AreInOrder (n + 1) lists) (q : AreInBuckets n now lists) where
  passed_none : (t : ℕ) → now < t → t < now + (step + 1) → entries_at (slot_of n) (t % n) (pending_in (rows_below n lists)) ≡ []
  passed_none t h k =
      entries_at-pending n (slot_of n) (rounds_of n now) lists len q (t % n) (omega arith)
      ∙ ap pending_in (passed_empty n now slot step t lists a f h k)

  pub sweeps_next : (bucket : ℕ) → bucket ≡ (slot + (step + 1)) % n → step < n → 0 < length (list_at bucket lists)
      → IsNextSweep n (now + (step + 1)) (wheel_state n last now last_serial lists)
  sweeps_next bucket e b h =
      let s : bucket ≡ (now + (step + 1)) % n = e ∙ slot_ahead n now slot (step + 1) (now + (step + 1)) a refl in
      record {
        in_turn = omega arith;
        some = some_at n (slot_of n) (rounds_of n now) (wheel_state n last now last_serial lists) lists
            (shows n (slot_of n) (rounds_of n now) lists len q last now last_serial o) ((now + (step + 1)) % n) (omega arith) (rw s at h);
        none_before = passed_none;
      }
