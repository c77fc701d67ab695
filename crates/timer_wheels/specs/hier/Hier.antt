-- The invariant of the buckets of a hierarchy of wheels and of their bits.
use Rattle.std.specs.Prelude.{◌≡◌, ℕ, List}
use Rattle.std.proofs.Props.{props}
use Rattle.timer_wheels.specs.Types.{Ghosts, Table}
use Rattle.timer_wheels.specs.Buckets.{state_of}
use Rattle.timer_wheels.specs.declared.buckets.Buckets.{Buckets}
use Rattle.timer_wheels.specs.Digits.{slots, last_of}
use Rattle.timer_wheels.specs.Occupied.{AreMarked, AreMarked-prop}
use Rattle.timer_wheels.specs.hier.Placement.{IsPlaced, IsPlaced-prop, levels_of}
use Rattle.timer_wheels.specs.Tables.{radices}
use Rattle.timer_wheels.specs.BucketLaws.{EachRow-prop, AreInOrder-prop}
use Rattle.timer_wheels.specs.BucketLists.{AreInOrder, EachRow}

-- each row of the buckets is in its timer's bucket
abbrev pub RowsArePlaced : {N : Type 0} {kept : Ghosts N} → Table → Buckets N kept → Type 0
RowsArePlaced table b = EachRow (IsPlaced (radices table) b.tick) b.slots b.links.lists

RowsArePlaced-prop : {N : Type 0} {kept : Ghosts N} (table : Table) (b : Buckets N kept) → IsProp (RowsArePlaced table b)
RowsArePlaced-prop table b = EachRow-prop (IsPlaced (radices table) b.tick)
    (IsPlaced-prop (radices table) b.tick) b.slots b.links.lists

-- the potential of the pending timers: the sum of their levels
abbrev pub potential : {N : Type 0} {kept : Ghosts N} → Table → Buckets N kept → ℕ
potential table b = levels_of (radices table) b.tick (state_of b).pending

-- the invariant of a hierarchy of wheels
pub record IsHier {N : Type 0} {kept : Ghosts N} (table : Table) (b : Buckets N kept) (words : List ℕ) : Type 0 where
  pub has_slots : b.slots ≡ slots (radices table)
  pub clock : b.last_tick ≡ last_of (radices table)
  -- each timer stands in its bucket
  pub placed : RowsArePlaced table b
  -- each bucket has its timers in order of starting
  pub in_order : AreInOrder b.slots b.links.lists
  -- the bits mark which buckets have timers
  pub marked : AreMarked b.slots words b.links.lists

pub IsHier-prop : {N : Type 0} {kept : Ghosts N} (table : Table) (b : Buckets N kept) (words : List ℕ) → IsProp (IsHier table b words)
IsHier-prop table b words = hlevel (props, RowsArePlaced-prop table b, AreInOrder-prop b.slots b.links.lists, AreMarked-prop b.slots words b.links.lists)
