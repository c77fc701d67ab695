-- The smooth wheel: a hierarchy whose next buckets move to lower wheels early, a few timers at a time.
use Rattle.std.specs.Prelude.{◌≡◌, ◌≢◌, Bool, ℕ, ◌+◌, ◌-◌, ◌*◌, ◌/◌, ◌%◌, ◌<◌, ◌≤◌, zero, suc, ◌==◌, ◌&&◌, nat_lt, not, if◌then◌else◌, List, [], ◌∷◌, length, slice_set}
use Rattle.timer_base.specs.WheelState.{after_tick}
use Rattle.timer_links.specs.Lists.{with_row}
use Rattle.timer_base.specs.Order.{AreBelow}
use Rattle.timer_wheels.specs.Types.{LAST, Timer, list_at, KeyedLists, Row, Rows}
use Rattle.timer_wheels.specs.BucketLists.{row_timer, row_timers, AreInOrder, AreBuckets, EachRow, wheel_state}
use Rattle.timer_wheels.specs.Digits.{weight, radix, level}
use Rattle.timer_wheels.specs.Occupied.{bit_of, filled}

-- The slots of a wheel are numbered from tick 0 on.

-- that of tick t on wheel k
abbrev pub slot_in : List ℕ → ℕ → ℕ → ℕ
slot_in table k t = t / weight k table

-- the list of slot i of wheel k: the present revolution and the next one have lists of their own
abbrev pub smooth_list : List ℕ → ℕ → ℕ → ℕ
smooth_list table k i = 128 * k + i % (2 * radix k table)

-- how many lists the buckets are
abbrev pub smooth_slots : List ℕ → ℕ
smooth_slots table = 128 * (length table - 1) + 2 * radix (length table - 1) table

-- the list of the next bucket of wheel k
abbrev pub next_list : List ℕ → ℕ → ℕ → ℕ
next_list table now k = smooth_list table k (slot_in table k now + 1)

-- whether tick t is in the next bucket of wheel k
abbrev pub is_in_next : List ℕ → ℕ → ℕ → ℕ → Bool
is_in_next table now k t = slot_in table k t == slot_in table k now + 1

-- two revolutions of each wheel but the highest fit its lists
abbrev pub HasTurns : List ℕ → Type 0
HasTurns table = (k : ℕ) → k + 1 < length table → radix k table ≤ 64

-- how many timers the next bucket of wheel k has
abbrev pub next_length : List ℕ → ℕ → KeyedLists → ℕ → ℕ
next_length table now lists k = length (list_at (next_list table now k) lists)

-- how many timers the next buckets of wheels 1 to n have, added up
abbrev pub next_lengths : List ℕ → ℕ → KeyedLists → ℕ → ℕ
next_lengths table now lists zero = 0
next_lengths table now lists (suc n) = next_lengths table now lists n + next_length table now lists (suc n)

-- the wheel of a list
abbrev pub height : List ℕ → ℕ → ℕ
height table s = if nat_lt (s / 128) (length table) then s / 128 else length table - 1

-- the potential of the first n lists: the wheels of all their timers, added up
abbrev pub heights : List ℕ → ℕ → KeyedLists → ℕ
heights table zero lists = 0
heights table (suc n) lists = heights table n lists + height table n * length (list_at n lists)

-- The placement law.

-- the serial up to which a bucket has moved on, if these timers are left in it: all, if none is
abbrev pub moved_to : Rows → ℕ
moved_to [] = LAST
moved_to (row ∷ rest) = (row_timer row).serial - 1

-- that of the next bucket of wheel k
abbrev pub mark : List ℕ → ℕ → KeyedLists → ℕ → ℕ
mark table now lists k = moved_to (list_at (next_list table now k) lists)

-- the wheel of a timer, from wheel k downwards: the first one at which it is not in the next bucket, or at which
-- that bucket has not moved on up to its serial
abbrev pub descend : List ℕ → ℕ → (ℕ → ℕ) → ℕ → ℕ → ℕ → ℕ
descend table now marks deadline serial zero = 0
descend table now marks deadline serial (suc k) =
    if is_in_next table now (suc k) deadline && not (nat_lt (marks (suc k)) serial)
    then descend table now marks deadline serial k else suc k

-- the same by the bits of the lists, for a timer that is started now: an empty bucket has moved on up to any serial
abbrev pub descend_by : List ℕ → ℕ → List ℕ → ℕ → ℕ → ℕ
descend_by table now words deadline zero = 0
descend_by table now words deadline (suc k) =
    if is_in_next table now (suc k) deadline && (bit_of words (next_list table now (suc k)) == 0)
    then descend_by table now words deadline k else suc k

-- the wheel of a pending timer: from the highest digit in which its deadline differs from now, as deep as the next
-- buckets have moved on
abbrev pub smooth_level : List ℕ → ℕ → (ℕ → ℕ) → Timer → ℕ
smooth_level table now marks t = descend table now marks t.deadline t.serial (level table now t.deadline)

-- the list of a pending timer
abbrev pub smooth_bucket : List ℕ → ℕ → (ℕ → ℕ) → Timer → ℕ
smooth_bucket table now marks t = smooth_list table (smooth_level table now marks t)
    (slot_in table (smooth_level table now marks t) t.deadline)

-- a row of list s is where the law says, and has no rounds
abbrev pub IsByLaw : List ℕ → ℕ → (ℕ → ℕ) → ℕ → Row → Type 0
IsByLaw table now marks s row = (smooth_bucket table now marks (row_timer row) ≡ s) × (row.1.rounds ≡ 0)

-- The same law, as a relation: how a timer stands in list s of wheel k.
pub record Stands (table : List ℕ) (now : ℕ) (marks : ℕ → ℕ) (s k : ℕ) (t : Timer) : Type 0 where
  pub wheel : k < length table
  pub at_list : s ≡ smooth_list table k (slot_in table k t.deadline)
  -- its slot is ahead, and on the wheel above it is in the present slot or the next one
  pub ahead : slot_in table k now < slot_in table k t.deadline
  pub near : slot_in table (suc k) t.deadline ≤ slot_in table (suc k) now + 1
  -- each next bucket above that it is in has moved on up to its serial
  pub passed : (j : ℕ) → k < j → j < length table → slot_in table j t.deadline ≡ slot_in table j now + 1
      → t.serial ≤ marks j
  -- and its own has not
  pub kept : 0 < k → slot_in table k t.deadline ≡ slot_in table k now + 1 → marks k < t.serial

-- a row of list s is where the law says
pub record IsSmooth (table : List ℕ) (now : ℕ) (marks : ℕ → ℕ) (s : ℕ) (row : Row) : Type 0 where
  pub on : ℕ
  pub stands : Stands table now marks s on (row_timer row)
  pub no_rounds : row.1.rounds ≡ 0

-- One row moves from the front of a bucket to the back of another.
pub record IsMove (n : ℕ) (lists : KeyedLists) (from to : ℕ) (row : Row) (rest : Rows) : Type 0 where
  pub from_in : from < n
  pub to_in : to < n
  pub elsewhere : to ≢ from
  pub at : list_at from lists ≡ row ∷ rest
  -- it comes last in its new list
  pub last_there : AreBelow (row_timer row).serial (row_timers (list_at to lists))

-- the lists after the first row of the next bucket of wheel k + 1, of these rows, went to wheel j
abbrev pub stepped : List ℕ → ℕ → ℕ → ℕ → KeyedLists → Row → Rows → KeyedLists
stepped table now k j lists row rest = with_row (smooth_list table j (slot_in table j (row_timer row).deadline)) row
    (slice_set lists (next_list table now (suc k)) rest)

-- the first row of the next bucket of wheel k + 1 goes to a lower wheel, by the law: the state of the wheel stays, and
-- its buckets stay sound and all timers placed
pub record IsStep (table : List ℕ) (n last_tick now last k : ℕ) (lists : KeyedLists) (row : Row) (rest : Rows) : Type 0 where
  pub on : ℕ
  pub lower : on ≤ k
  pub wheel : on < length table
  -- where its deadline is
  pub in_next : slot_in table (suc k) (row_timer row).deadline ≡ slot_in table (suc k) now + 1
  pub ahead : slot_in table on now < slot_in table on (row_timer row).deadline
  pub near : slot_in table (suc on) (row_timer row).deadline ≤ slot_in table (suc on) now + 1
  -- the bits of the lists lead there
  pub by_bits : (words : List ℕ) → ((s : ℕ) → s < n → bit_of words s ≡ filled (list_at s lists))
      → descend_by table now words (row_timer row).deadline k ≡ on
  pub move : IsMove n lists (next_list table now (suc k)) (smooth_list table on (slot_in table on (row_timer row).deadline)) row rest
  pub sound : AreBuckets n last_tick now last (stepped table now k on lists row rest)
  pub in_order : AreInOrder n (stepped table now k on lists row rest)
  pub state : wheel_state n last_tick now last (stepped table now k on lists row rest) ≡ wheel_state n last_tick now last lists
  pub placed : EachRow (IsSmooth table now (mark table now (stepped table now k on lists row rest))) n
      (stepped table now k on lists row rest)

-- a tick: the state is that after a tick, the buckets are sound, and all timers placed
pub record AreTickedLists (table : List ℕ) (n last_tick a last : ℕ) (lists new : KeyedLists) : Type 0 where
  pub sound : AreBuckets n last_tick (a + 1) last new
  pub in_order : AreInOrder n new
  pub state : wheel_state n last_tick (a + 1) last new ≡ after_tick (wheel_state n last_tick a last lists)
  pub placed : EachRow (IsSmooth table (a + 1) (mark table (a + 1) new)) n new

-- on the wheel of its list, a row's slot is after that of this tick
abbrev pub IsAheadOf : List ℕ → ℕ → ℕ → Row → Type 0
IsAheadOf table tick s row = (k : ℕ) → k < length table → s ≡ smooth_list table k (slot_in table k (row_timer row).deadline)
    → slot_in table k tick < slot_in table k (row_timer row).deadline

-- The pace.

-- how many ticks are left of the first half of the time in which a bucket is the next one of wheel k
abbrev pub ticks_to_half : List ℕ → ℕ → ℕ → ℕ
ticks_to_half table now k = (slot_in table k now + 1) * weight k table - now - weight k table / 2

-- the timers of each next bucket are gone by the half of its time, at this pace
abbrev pub IsInTime : List ℕ → ℕ → (ℕ → ℕ) → KeyedLists → Type 0
IsInTime table now pace lists = (k : ℕ) → 0 < k → k < length table
    → next_length table now lists k ≤ pace k * ticks_to_half table now k
