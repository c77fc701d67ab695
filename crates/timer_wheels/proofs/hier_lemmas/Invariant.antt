-- The invariant of a hierarchy of wheels when it is made, after a start and a restart, and what `links` shows.
use Rattle.timer_base.proofs.Basics.{either}
use Rattle.timer_wheels.proofs.bucket_lemmas.RoomLemmas.{shows-with_room}
use Rattle.std.proofs.Common.{◌≡◌, ◌<◌, ◌≤◌, ◌+◌, ◌*◌, ℕ, List, [], ◌∷◌, length, refl, sym, ◌∙◌, ap, subst, inl, inr, arith, Bool, filter, not, nat_lt, replicate}
use Rattle.std.proofs.lemmas.Bool.{cases_lt}
use Rattle.timer_base.specs.Layout.{Layout}
use Rattle.timer_base.specs.Pending.{put, has_handle, without_handle}
use Rattle.timer_base.specs.WheelState.{empty_wheel, after_start, after_due_start, after_held_start}
use Rattle.timer_base.proofs.HeldLaws.{start_when_later, start_when_now, held_start-last_serial}
use Rattle.timer_links.proofs.NewLinks.{no_rows_at}
use Rattle.timer_wheels.specs.Types.{LAST, Handle, Timer, Entry, WheelState, Ghosts, list_at, Table}
use Rattle.timer_wheels.specs.Buckets.{state_of}
use Rattle.timer_wheels.specs.declared.buckets.Buckets.{Buckets}
use Rattle.timer_wheels.specs.Tables.{radices}
use Rattle.timer_wheels.specs.Digits.{slots, level, last_of}
use Rattle.timer_wheels.proofs.table_lemmas.DigitLaws.{level_in_table, digits_down, IsHierTable}
use Rattle.timer_wheels.specs.BucketLists.{AreInOrder, EachRow}
use Rattle.timer_wheels.specs.hier.Placement.{IsPlaced, bucket_at, no_rounds, levels_of, IsPaid, most_moves}
use Rattle.timer_wheels.proofs.bucket_lemmas.Calls.{each-none}
use Rattle.timer_wheels.specs.Shown.{ShowsBuckets}
use Rattle.timer_wheels.proofs.bucket_lemmas.OrderedLists.{ordered-all}
use Rattle.timer_wheels.proofs.bucket_lemmas.ShownLemmas.{shows}
use Rattle.std.proofs.lemmas.Nat.{mul-le}

-- The levels of the timers that are pending.

levels-put : (table : List ℕ) (now : ℕ) (x : Entry) (ys : List Entry)
    → levels_of table now (put x ys) ≡ level table now x.timer.deadline + levels_of table now ys
levels-put table now x [] = refl
levels-put table now x (y ∷ ys) = elim (either (nat_lt x.timer.deadline y.timer.deadline)) [
  | inl h ↦ rw h refl
  | inr h ↦ rw h (omega (arith, levels-put table now x ys))
]

levels-filter : (table : List ℕ) (now : ℕ) (p : Entry → Bool) (es : List Entry) → levels_of table now (filter p es) ≤ levels_of table now es
levels-filter table now p [] = omega arith
levels-filter table now p (e ∷ es) = elim (either (p e)) [
  | inl k ↦ rw k (omega (arith, levels-filter table now p es))
  | inr k ↦ rw k (omega (arith, levels-filter table now p es))
]

pub levels-without : (table : List ℕ) (now : ℕ) (handle : Handle) (es : List Entry)
    → levels_of table now (without_handle handle es) ≤ levels_of table now es
levels-without table now handle es = levels-filter table now (λ entry. not (has_handle handle entry)) es

paid_more : (moves new more old top starts : ℕ) → new ≡ more + old → more ≤ top → moves + old ≤ top * starts
    → moves + new ≤ top * (starts + 1)
paid_more moves new more old top starts e d p = let x : top * (starts + 1) ≡ top * starts + top = omega arith in omega arith

-- A new wheel.

pub new_placed : {N : Type 0} {kept : Ghosts N} (table : List ℕ) (b : Buckets N kept) (n : ℕ) → b.links.lists ≡ replicate n [] → EachRow (IsPlaced table b.tick) b.slots
    b.links.lists
new_placed table b n e = each-none (IsPlaced table b.tick) b.slots b.links.lists (λ s h. ap (list_at s) e ∙ no_rows_at n s)

pub new_paid : {N : Type 0} {kept : Ghosts N} (table : List ℕ) (b : Buckets N kept) (layout : Layout) (last first : ℕ) → state_of b ≡ empty_wheel layout last first
    → IsPaid table 0 0 b.tick (state_of b).pending
new_paid table b layout last first e = omega (arith, ap (λ (w : WheelState). levels_of table b.tick w.pending) e)

-- The moves that are left stay paid for.

module _ {N : Type 0} {kept : Ghosts N} (table : List ℕ) (old new : Buckets N kept) (starts moves : ℕ) (p : IsPaid table starts moves old.tick (state_of old).pending) where
  -- one timer goes, if it was found
  pub paid_without : (handle : Handle) → new.tick ≡ old.tick
      → (state_of new).pending ≡ without_handle handle (state_of old).pending
      → IsPaid table starts moves new.tick (state_of new).pending
  paid_without handle tick e =
      rw (tick, e) (omega (arith, levels-without table old.tick handle (state_of old).pending, p))

  -- one timer is started, after another went or none
  module _ (place : ℕ) (t : Timer) (rest : WheelState) (y : levels_of table old.tick rest.pending
      ≤ levels_of table old.tick (state_of old).pending) (now : rest.now ≡ old.tick) where
    left : moves + levels_of table old.tick rest.pending ≤ most_moves table * starts
    left = omega (arith, y, p)

    pending_start : IsHierTable table → old.tick < t.deadline → t.deadline ≤ last_of table → state_of new ≡ after_start place t rest
        → IsPaid table (starts + 1) moves new.tick (state_of new).pending
    pending_start k later range e =
        let x : levels_of table new.tick (state_of new).pending ≡ level table old.tick t.deadline + levels_of table old.tick rest.pending =
        ap (λ (k : ℕ). levels_of table k (state_of new).pending) (ap (λ (w : WheelState). w.now) e ∙ now)
        ∙ (ap (λ (w : WheelState). levels_of table old.tick w.pending) e
        ∙ levels-put table old.tick (record { place = place; timer = t }) rest.pending) in
        let b : level table old.tick t.deadline < length table = level_in_table table old.tick t.deadline k.is_table
        (digits_down table t.deadline (last_of table) k.is_table range k.digits) later in
        paid_more moves (levels_of table new.tick (state_of new).pending) (level table old.tick t.deadline)
        (levels_of table old.tick rest.pending) (most_moves table) starts x (omega arith) left

    -- what is due has no level
    due_start : state_of new ≡ after_due_start place t rest → IsPaid table (starts + 1) moves new.tick (state_of new).pending
    due_start e =
        let x : levels_of table new.tick (state_of new).pending ≡ levels_of table old.tick rest.pending =
        ap (λ (k : ℕ). levels_of table k (state_of new).pending) (ap (λ (w : WheelState). w.now) e ∙ now)
        ∙ ap (λ (w : WheelState). levels_of table old.tick w.pending) e in
        paid_more moves (levels_of table new.tick (state_of new).pending) 0 (levels_of table old.tick rest.pending)
        (most_moves table) starts (omega arith) (omega arith) left

    pub paid_start : IsHierTable table → old.tick ≤ t.deadline → t.deadline ≤ last_of table → state_of new ≡ after_held_start place t rest
        → IsPaid table (starts + 1) moves new.tick (state_of new).pending
    paid_start k not_past range e = elim (cases_lt old.tick t.deadline) [
      | inl later ↦ pending_start k later range (e ∙ start_when_later place t rest (omega arith))
      | inr same ↦ due_start (e ∙ start_when_now place t rest (omega arith))
    ]

pub few_starts : {N : Type 0} {kept : Ghosts N} (old new : Buckets N kept) (place starts : ℕ) (t : Timer) (rest : WheelState) → starts ≤ old.last_serial
    → old.last_serial < t.serial → state_of new ≡ after_held_start place t rest → starts + 1 ≤ new.last_serial
few_starts old new place starts t rest h k e =
    omega (arith, ap (λ (w : WheelState). w.last_serial) e, held_start-last_serial place t rest)

-- What the buckets show.

pub shown : {N : Type 0} {kept : Ghosts N} (table : List ℕ) (b : Buckets N kept) → b.slots ≡ slots table → EachRow (IsPlaced table b.tick) b.slots b.links.lists
    → AreInOrder b.slots b.links.lists → ShowsBuckets (slots table) (bucket_at table b.tick) no_rounds (state_of b) b.links.lists
shown table b s p o =
    let P : ℕ → Type 0 = λ n. ShowsBuckets n (bucket_at table b.tick) no_rounds (state_of b) b.links.lists in
    subst P s (shows-with_room b.links.room _ _ _ _ _ (shows b.slots (bucket_at table b.tick) no_rounds b.links.lists b.sound.has_lists p
    b.last_tick b.tick b.last_serial (ordered-all b.sound o)))

-- the same of a table that is as it was
pub paid_at : {N : Type 0} {kept : Ghosts N} (starts moves : ℕ) (b : Buckets N kept) (old new : Table) → new ≡ old
    → IsPaid (radices old) starts moves b.tick (state_of b).pending → IsPaid (radices new) starts moves b.tick (state_of b).pending
paid_at starts moves b old new e p = let P : Table → Type 0 = λ t. IsPaid (radices t) starts moves b.tick (state_of b).pending
    in subst P (sym e) p

-- Counts that do not overflow.

pub paid_bound : (table : List ℕ) (starts moves last_serial now : ℕ) (es : List Entry) → IsHierTable table → starts ≤ last_serial
    → last_serial ≤ LAST → IsPaid table starts moves now es → moves + levels_of table now es ≤ 9 * LAST
paid_bound table starts moves last_serial now es k f r p =
    omega (arith, p, mul-le (most_moves table) starts 9 LAST k.few_wheels (omega arith))

pub moves_fit : (moves more left levels : ℕ) → moves + levels ≤ 9 * LAST → more + left ≤ levels → moves + more < 18446744073709551616
moves_fit moves more left levels a b = omega arith
