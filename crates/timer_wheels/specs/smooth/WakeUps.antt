-- What is ahead of a smooth wheel: the first slot with timers of each wheel, and the ticks at which slots matter.
use Rattle.std.specs.Prelude.{◌≡◌, ◌<◌, ◌≤◌, ◌+◌, ◌-◌, ◌*◌, zero, suc, ℕ, List, [], length, Option, Some, None, IfSome}
use Rattle.timer_wheels.specs.Types.{Ghosts, list_at, KeyedLists, Row, Table}
use Rattle.timer_wheels.specs.BucketLists.{row_timer, row_timers, rows_below, EachRow}
use Rattle.timer_wheels.specs.FirstDeadline.{HasDeadline}
use Rattle.timer_wheels.specs.Digits.{weight, radix}
use Rattle.timer_wheels.specs.hier.Leap.{timer_visit}
use Rattle.timer_wheels.specs.Tables.{radices}
use Rattle.timer_wheels.specs.declared.buckets.Buckets.{Buckets}
use Rattle.timer_wheels.specs.smooth.Smooth.{slot_in, smooth_list}

-- slot i of wheel k is the first one after the present one that has timers
pub record IsFirstFilledSlot (table : List ℕ) (now k : ℕ) (lists : KeyedLists) (slot : ℕ) : Type 0 where
  pub later : slot_in table k now < slot
  pub near : slot < slot_in table k now + 2 * radix k table
  pub some : 0 < length (list_at (smooth_list table k slot) lists)
  pub none_before : (i : ℕ) → slot_in table k now < i → i < slot → list_at (smooth_list table k i) lists ≡ []

-- the first slot of wheel k that has timers, if one has
abbrev pub IsFirstSlot : List ℕ → ℕ → ℕ → KeyedLists → Option ℕ → Type 0
IsFirstSlot table now k lists None = (i : ℕ) → slot_in table k now < i → i < slot_in table k now + 2 * radix k table
    → list_at (smooth_list table k i) lists ≡ []
IsFirstSlot table now k lists (Some slot) = IsFirstFilledSlot table now k lists slot

-- the tick at which slot i of wheel k matters: its timers become due, or its bucket begins to be the next one
abbrev pub event_tick : List ℕ → ℕ → ℕ → ℕ
event_tick table zero i = i
event_tick table (suc k) i = (i - 1) * weight (suc k) table

-- a row of list s, if it is one of the first w wheels', matters at this tick or later
abbrev pub IsEventFrom : List ℕ → ℕ → ℕ → ℕ → Row → Type 0
IsEventFrom table tick w s row = (k : ℕ) → k < w → k < length table → s ≡ smooth_list table k (slot_in table k (row_timer row).deadline)
    → tick ≤ event_tick table k (slot_in table k (row_timer row).deadline)

-- there is a first tick, and it is in wheel k's present slot
abbrev pub IsInPresent : List ℕ → ℕ → ℕ → Option ℕ → Type 0
IsInPresent table k now None = ⊥
IsInPresent table k now (Some first) = slot_in table k first ≤ slot_in table k now

-- the tick is not before the first one, and there is a first one
abbrev pub IsNotBefore : Option ℕ → ℕ → Type 0
IsNotBefore None tick = ⊥
IsNotBefore (Some first) tick = first ≤ tick

-- a first tick was found, if one is: it is as the fact says, and no deadline of the first w wheels is before it
pub record IsFoundBelow {N : Type 0} {kept : Ghosts N} (fact : ℕ → Type 0) (table : Table) (b : Buckets N kept) (w : ℕ) (first : Option ℕ) : Type 0 where
  pub has : IfSome first fact
  pub least : EachRow (λ s row. (k : ℕ) → k < w → k < length (radices table)
      → s ≡ smooth_list (radices table) k (slot_in (radices table) k (row_timer row).deadline)
      → IsNotBefore first (row_timer row).deadline) b.slots b.links.lists

-- a pending timer has this deadline
abbrev pub IsPendingDeadline : {N : Type 0} {kept : Ghosts N} → Buckets N kept → ℕ → Type 0
IsPendingDeadline b d = HasDeadline d (row_timers (rows_below b.slots b.links.lists))

-- a slot begins at this tick ahead, and Scheme 7 would visit it when it visits some pending timer
pub record IsBegin {N : Type 0} {kept : Ghosts N} (table : Table) (b : Buckets N kept) (tick : ℕ) : Type 0 where
  pub later : b.tick < tick
  pub in_range : tick ≤ b.last_tick
  pub deadline : ℕ
  pub has : IsPendingDeadline b deadline
  pub visit : timer_visit (radices table) b.tick tick ≡ timer_visit (radices table) b.tick deadline
