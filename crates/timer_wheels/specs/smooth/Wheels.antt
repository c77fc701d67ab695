-- The invariant of the buckets of a smooth wheel and of their bits.
use Rattle.std.specs.Prelude.{◌≡◌, ◌≢◌, ◌<◌, ◌≤◌, ◌+◌, ◌-◌, ℕ, List, Option, Some, None, length, nat_lt, if◌then◌else◌}
use Rattle.std.specs.Coded.{×_prop}
use Rattle.std.proofs.Props.{props}
use Rattle.timer_wheels.specs.Types.{Handle, Timer, Ghosts, Row, Table}
use Rattle.timer_wheels.specs.BucketLaws.{EachRow-prop, AreInOrder-prop}
use Rattle.timer_wheels.specs.BucketLists.{AreInOrder, EachRow}
use Rattle.timer_wheels.specs.Digits.{last_of}
use Rattle.timer_wheels.specs.Occupied.{bit_of, AreMarked, AreMarked-prop}
use Rattle.timer_wheels.specs.smooth.Smooth.{smooth_slots, smooth_level, mark, next_list, next_length, next_lengths, heights, ticks_to_half, IsByLaw}
use Rattle.timer_wheels.specs.Tables.{radices}
use Rattle.timer_wheels.specs.declared.buckets.Buckets.{Buckets}

-- each row is where the law says
abbrev pub AreByLaw : {N : Type 0} {kept : Ghosts N} → Table → Buckets N kept → Type 0
AreByLaw table b = EachRow (IsByLaw (radices table) b.tick (mark (radices table) b.tick b.links.lists)) b.slots b.links.lists

pub record AreWheels {N : Type 0} {kept : Ghosts N} (table : Table) (b : Buckets N kept) (words : List ℕ) : Type 0 where
  pub has_slots : b.slots ≡ smooth_slots (radices table)
  pub clock : b.last_tick ≡ last_of (radices table)
  pub placed : AreByLaw table b
  -- each bucket has its timers in order of starting
  pub in_order : AreInOrder b.slots b.links.lists
  -- the bits mark which lists have timers
  pub marked : AreMarked b.slots words b.links.lists

IsByLaw-prop : (table : List ℕ) (now : ℕ) (marks : ℕ → ℕ) (s : ℕ) (row : Row) → IsProp (IsByLaw table now marks s row)
IsByLaw-prop table now marks s row = ×_prop (hlevel props) (hlevel props)

AreByLaw-prop : {N : Type 0} {kept : Ghosts N} (table : Table) (b : Buckets N kept) → IsProp (AreByLaw table b)
AreByLaw-prop table b = EachRow-prop (IsByLaw (radices table) b.tick (mark (radices table) b.tick b.links.lists))
    (IsByLaw-prop (radices table) b.tick (mark (radices table) b.tick b.links.lists)) b.slots b.links.lists

pub AreWheels-prop : {N : Type 0} {kept : Ghosts N} (table : Table) (b : Buckets N kept) (words : List ℕ) → IsProp (AreWheels table b words)
AreWheels-prop table b words = hlevel (props, AreByLaw-prop table b, AreInOrder-prop b.slots b.links.lists, AreMarked-prop b.slots words b.links.lists)

-- a list became empty, if one did: the bit of a bucket is cleared, and all others stay
abbrev pub LeavesBits : ℕ → Option ℕ → List ℕ → List ℕ → Type 0
LeavesBits n None old new = new ≡ old
LeavesBits n (Some l) old new = (l < n → (bit_of new l ≡ 0) × ((s : ℕ) → s ≢ l → bit_of new s ≡ bit_of old s))
    × (n ≤ l → new ≡ old)

-- how many timers the next bucket of wheel k has
abbrev pub next_len : {N : Type 0} {kept : Ghosts N} → Table → Buckets N kept → ℕ → ℕ
next_len table b k = next_length (radices table) b.tick b.links.lists k

-- how many timers all next buckets have: those that may go to a lower wheel now
abbrev pub movable : {N : Type 0} {kept : Ghosts N} → Table → Buckets N kept → ℕ
movable table b = next_lengths (radices table) b.tick b.links.lists (length (radices table) - 1)

-- the potential of the timers: the wheels of all of them, added up
abbrev pub potential_of : {N : Type 0} {kept : Ghosts N} → Table → Buckets N kept → ℕ
potential_of table b = heights (radices table) b.slots b.links.lists

-- the wheel of a timer, by the placement law; that of one for now, which is due, is 0
abbrev pub wheel_of : {N : Type 0} {kept : Ghosts N} → Table → Buckets N kept → Timer → ℕ
wheel_of table b timer = if nat_lt b.tick timer.deadline
    then smooth_level (radices table) b.tick (mark (radices table) b.tick b.links.lists) timer else 0

-- the next bucket of wheel k has timers only in the first half of its time
abbrev pub IsEarly : {N : Type 0} {kept : Ghosts N} → Table → Buckets N kept → ℕ → Type 0
IsEarly table b k = ticks_to_half (radices table) b.tick k ≡ 0 → next_len table b k ≡ 0

-- each other next bucket has as many timers as before
abbrev pub OthersStay : {N : Type 0} {kept : Ghosts N} → Table → ℕ → Buckets N kept → Buckets N kept → Type 0
OthersStay table k old new = (j : ℕ) → 0 < j → j < length (radices table) → j ≢ k → next_len table new j ≡ next_len table old j

-- no other next bucket has more timers than before
abbrev pub OthersShrink : {N : Type 0} {kept : Ghosts N} → Table → ℕ → Buckets N kept → Buckets N kept → Type 0
OthersShrink table k old new = (j : ℕ) → 0 < j → j < length (radices table) → j ≢ k → next_len table new j ≤ next_len table old j

-- no next bucket has more timers than before
abbrev pub AllShrink : {N : Type 0} {kept : Ghosts N} → Table → Buckets N kept → Buckets N kept → Type 0
AllShrink table old new = (j : ℕ) → 0 < j → j < length (radices table) → next_len table new j ≤ next_len table old j

-- the list is the next bucket of a wheel, and has timers; or it is none's, if the wheel is 0
pub record IsNextOf (table : List ℕ) (now : ℕ) (words : List ℕ) (list wheel : ℕ) : Type 0 where
  pub in_table : wheel < length table
  pub here : 0 < wheel → (list ≡ next_list table now wheel) × (bit_of words list ≡ 1)
  pub no_other : (j : ℕ) → 0 < j → j < length table → j ≢ wheel → list ≢ next_list table now j

-- a timer came: if the wheel is not 0, to that wheel's next bucket, which had timers
pub record ComesTo {N : Type 0} {kept : Ghosts N} (table : Table) (wheel : ℕ) (old new : Buckets N kept) : Type 0 where
  pub in_table : wheel < length (radices table)
  pub others : OthersShrink table wheel old new
  pub here : 0 < wheel → (0 < next_len table old wheel) × (next_len table new wheel ≤ next_len table old wheel + 1)
  pub potential : potential_of table new ≤ potential_of table old + (length (radices table) - 1)

-- the new handle and the old timer of a restart, without the wheel
abbrev pub restarted_of : Option ((Handle × Timer) × ℕ) → Option (Handle × Timer)
restarted_of None = None
restarted_of (Some r) = Some r.0
