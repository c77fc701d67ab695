-- Lemmas about the room that was made: for nodes, and for the index of each key that they can get.
use Rattle.std.proofs.Common.{◌≡◌, ◌<◌, ◌≤◌, ◌+◌, ◌-◌, ℕ, zero, suc, List, [], ◌∷◌, length, refl, inl, inr, arith, cond, count_by, Option, Some, None, IsSome, is_some, slice_index_or}
use Rattle.std.proofs.lemmas.Bool.{cases_lt}
use Rattle.std.proofs.lemmas.List.Sums.{count_by-le-length, sum_by-cons}
use Rattle.timer_base.proofs.Basics.{some_none}
use Rattle.slab.specs.Slab.{Slab, get, HasRoomFor}
use Rattle.timer_links.specs.Types.{Neighbours, INDEXES}
use Rattle.timer_links.specs.Links.{HasRoom, HasIndex, IsReady}

-- room that was made stays: the nodes' memory is as large, and so is that of the indexes
pub room_stays : (room n more reserved old new : ℕ) → HasRoom room n old reserved → new ≡ old → more ≡ reserved
    → HasRoom room n new more
room_stays room n more reserved old new h e k = record {
  fits = let f : room ≤ old = h.fits in omega arith;
  indexes = λ p. let f : n + old ≤ reserved = h.indexes p in omega arith;
  numbered = λ p. let f : n + old ≤ INDEXES = h.numbered p in omega arith;
}

-- keys that are ready stay so: there is no less memory, and there are no fewer indexes
pub ready_kept : (ready n added was old new : ℕ) → IsReady ready n old was → old ≤ new → was ≤ added
    → IsReady ready n new added
ready_kept ready n added was old new h e k = record {
  fits = let f : ready ≤ old = h.fits in omega arith;
  indexed = let f : n + ready ≤ was = h.indexed in omega arith;
}

-- no room was made yet
pub no_room : (n reserved capacity : ℕ) → HasRoom 0 n capacity reserved
no_room n reserved capacity = record {
  fits = omega arith;
  indexes = λ p. absurd (omega arith);
  numbered = λ p. absurd (omega arith);
}

-- a key that was given out has its index
pub has_index : {N : Type 0} (n key : ℕ) (nodes : Slab N) (s : List Neighbours) → HasIndex n nodes s → key < nodes.capacity → key ≡ nodes.vacant_key
    → n + key < length s
has_index n key nodes s (inl l) b e = rw e l
has_index n key nodes s (inr m) b e = omega arith

-- an unused slot is not counted
abbrev pub counted : {N : Type 0} → Option N → ℕ
counted slot = cond (is_some slot) 1 0

-- while a key below the capacity is not in use, one more node fits
-- fewer slots are used than there are, if one of them is not
one_unused : {N : Type 0} (slots : List (Option N)) (key : ℕ) → slice_index_or slots key None ≡ None → key < length slots
    → count_by is_some slots + 1 ≤ length slots
one_unused [] key e b = absurd (omega arith)
one_unused (None ∷ slots) zero e b = omega (arith, count_by-le-length is_some slots)
one_unused (Some x ∷ slots) zero e b = absurd (some_none x e)
one_unused (None ∷ slots) (suc key) e b = omega (arith, one_unused slots key e (omega arith))
one_unused (Some x ∷ slots) (suc key) e b =
    let one : count_by is_some (Some x ∷ slots) ≡ 1 + count_by is_some slots =
    sum_by-cons (λ slot. cond (is_some slot) 1 0) (Some x) slots in
    omega (arith, one_unused slots key e (omega arith))

pub fits_one : {N : Type 0} (nodes : Slab N) (key : ℕ) → get nodes key ≡ None → key < nodes.capacity
    → length nodes.slots ≤ nodes.capacity → HasRoomFor nodes 1
fits_one nodes key e b c = elim (cases_lt key (length nodes.slots)) [
  | inl low ↦ omega (arith, one_unused nodes.slots key e low)
  | inr past ↦ omega (arith, count_by-le-length is_some nodes.slots)
]

-- Values at keys below a bound are no more than it.
pub few_values : {T : Type 0} (slots : List (Option T)) (from bound : ℕ) → ((key : ℕ) → IsSome (slice_index_or slots key None) → from + key < bound)
    → count_by is_some slots ≤ bound - from
few_values [] from bound h = omega arith
few_values (None ∷ slots) from bound h =
    let none : count_by is_some (None ∷ slots) ≡ 0 + count_by is_some slots = sum_by-cons (λ slot. cond (is_some slot) 1 0) None slots in
    omega (arith, few_values slots (from + 1) bound (λ key some. let l : from + suc key < bound = h (suc key) some in omega arith))
few_values (Some value ∷ slots) from bound h =
    let one : count_by is_some (Some value ∷ slots) ≡ 1 + count_by is_some slots =
    sum_by-cons (λ slot. cond (is_some slot) 1 0) (Some value) slots in
    let l : from + 0 < bound = h 0 refl in
    omega (arith, few_values slots (from + 1) bound (λ key some. let m : from + suc key < bound = h (suc key) some in omega arith))
