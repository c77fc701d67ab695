-- The digits of a tick, and the bucket of a timer. A table has the radix of each digit, the lowest digit
-- first.
use Rattle.std.specs.Prelude.{◌≡◌, ◌≢◌, ◌⊎◌, ℕ, ◌+◌, ◌-◌, ◌*◌, ◌/◌, ◌%◌, ◌^◌, ◌<◌, ◌≤◌, zero, suc, ◌==◌, ◌&&◌, nat_lt, not, if◌then◌else◌, List, [], ◌∷◌, length}

-- the product of the radices
abbrev pub span : List ℕ → ℕ
span [] = 1
span (r ∷ rs) = r * span rs

-- the last tick that has its digits in the table
abbrev pub last_of : List ℕ → ℕ
last_of table = span table - 1

-- the lowest radix
abbrev pub lowest_radix : List ℕ → ℕ
lowest_radix [] = 1
lowest_radix (r ∷ rs) = r

-- n wheels of r slots
abbrev pub copies : ℕ → ℕ → List ℕ
copies r zero = []
copies r (suc n) = r ∷ copies r n

-- n digits of b bits
unfoldable pub equals : ℕ → ℕ → List ℕ
equals b n = copies (2 ^ b) n

-- they are no more than a hierarchy of wheels can have
abbrev pub AreFew : ℕ → ℕ → Type 0
AreFew b n = (0 < b) × (b ≤ 6) × (0 < n) × (n ≤ 10)

-- each radix is above 0
abbrev pub IsTable : List ℕ → Type 0
IsTable [] = Unit {0}
IsTable (r ∷ rs) = (0 < r) × IsTable rs

-- the table has a digit for each part of t
abbrev pub HasDigits : List ℕ → ℕ → Type 0
HasDigits [] t = t ≡ 0
HasDigits (r ∷ rs) t = HasDigits rs (t / r)

-- digit k of t
abbrev pub digit : List ℕ → ℕ → ℕ → ℕ
digit [] k t = 0
digit (r ∷ rs) zero t = t % r
digit (r ∷ rs) (suc k) t = digit rs k (t / r)

-- the radix of digit k: how many slots wheel k has
abbrev pub radix : ℕ → List ℕ → ℕ
radix k [] = 1
radix zero (r ∷ rs) = r
radix (suc k) (r ∷ rs) = radix k rs

-- the weight of digit k, the product of the radices below it: how many ticks a slot of wheel k is
abbrev pub weight : ℕ → List ℕ → ℕ
weight k [] = 1
weight zero (r ∷ rs) = 1
weight (suc k) (r ∷ rs) = r * weight k rs

-- the highest digit in which a and b differ, or 0
abbrev pub level : List ℕ → ℕ → ℕ → ℕ
level [] a b = 0
level (r ∷ rs) a b = if (a / r) == (b / r) then 0 else suc (level rs (a / r) (b / r))

-- the lowest digit of t that is not zero
abbrev pub lowest : List ℕ → ℕ → ℕ
lowest [] t = 0
lowest (r ∷ rs) t = if (t % r) == 0 then suc (lowest rs (t / r)) else 0

-- how many slots the wheels below wheel k have
abbrev pub slots_below : ℕ → List ℕ → ℕ
slots_below k [] = 0
slots_below zero (r ∷ rs) = 0
slots_below (suc k) (r ∷ rs) = r + slots_below k rs

-- how many slots all wheels have
abbrev pub slots : List ℕ → ℕ
slots table = slots_below (length table) table

-- the list of slot s of wheel k
abbrev pub list_of_slot : List ℕ → ℕ → ℕ → ℕ
list_of_slot table k s = slots_below k table + s

-- the list of a timer: the wheel is the highest digit in which its deadline differs from now, the slot is
-- that digit of the deadline
abbrev pub bucket : List ℕ → ℕ → ℕ → ℕ
bucket table now deadline = list_of_slot table (level table now deadline)
    (digit table (level table now deadline) deadline)

-- the list that is emptied at a tick: the wheel is its lowest digit that is not zero, the slot is that digit
abbrev pub emptied : List ℕ → ℕ → ℕ
emptied table tick = list_of_slot table (lowest table tick) (digit table (lowest table tick) tick)

-- how many of the next ticks after a move a timer with this deadline to a lower wheel
abbrev pub hops : List ℕ → ℕ → ℕ → ℕ → ℕ
hops table a zero deadline = 0
hops table a (suc n) deadline =
    (if nat_lt (a + 1) deadline && not (level table a deadline == level table (a + 1) deadline) then 1 else 0)
    + hops table (a + 1) n deadline

-- k is the highest digit in which a and b differ
pub record IsHighest (table : List ℕ) (a b k : ℕ) : Type 0 where
  pub differs : digit table k a ≢ digit table k b
  pub above : (j : ℕ) → k < j → digit table j a ≡ digit table j b

-- k is the lowest digit of t that is not zero
pub record IsLowest (table : List ℕ) (t k : ℕ) : Type 0 where
  pub not_zero : digit table k t ≢ 0
  pub below : (j : ℕ) → j < k → digit table j t ≡ 0

-- The bucket of a pending timer at one tick: a is the tick before, d the deadline.

-- it is in the bucket that is emptied, and is due or moves to a lower wheel
abbrev pub LeavesBucket : List ℕ → ℕ → ℕ → Type 0
LeavesBucket table a d =
    (bucket table a d ≡ emptied table (a + 1))
    × ((d ≡ a + 1) ⊎ ((level table (a + 1) d < level table a d)
    × (bucket table (a + 1) d < slots_below (lowest table (a + 1)) table)))

-- it is in another one, and stays there
abbrev pub StaysInBucket : List ℕ → ℕ → ℕ → Type 0
StaysInBucket table a d =
    (bucket table a d ≢ emptied table (a + 1))
    × ((d ≢ a + 1) × ((level table (a + 1) d ≡ level table a d)
    × (bucket table (a + 1) d ≡ bucket table a d)))

-- a timer's bucket before and after the tick
pub record BucketAtTick (table : List ℕ) (a d : ℕ) : Type 0 where
  pub in_range : bucket table a d < slots table
  -- the wheels below the one that is emptied are empty
  pub not_below : slots_below (lowest table (a + 1)) table ≤ bucket table a d
  pub falls : level table (a + 1) d ≤ level table a d
  pub is : LeavesBucket table a d ⊎ StaysInBucket table a d
