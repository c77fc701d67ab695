-- Lemmas for `iteration`: the places of the timers are the keys in use.
use Rattle.std.proofs.Common.{◌≡◌, ◌<◌, ◌≤◌, ◌+◌, ◌⊎◌, ℕ, refl, sym, ◌∙◌, ap, subst, inl, inr, arith, Option, Some, None, IsSome}
use Rattle.std.specs.List.{AllByRecursion}
use Rattle.std.proofs.lemmas.Bool.{cases_lt, eq-eqb}
use Rattle.timer_base.proofs.Basics.{none_some, some_same}
use Rattle.timer_base.proofs.OrderLaws.{All-in_order, All-weaken}
use Rattle.timer_base.specs.Pending.{timer_of}
use Rattle.timer_base.specs.WheelState.{held_at}
use Rattle.timer_links.specs.Lists.{node_at, AreApart, AreUnused, IsFirstUsed}
use Rattle.timer_wheels.specs.Types.{Handle, Timer, Entry, Ghosts, Node, list_at, KeyedLists, Row}
use Rattle.timer_wheels.specs.BucketLists.{entry_of, entries_of, rows_below}
use Rattle.timer_wheels.specs.Buckets.{state_of}
use Rattle.timer_wheels.specs.HeldPlaces.{IsHeld, IsFirstHeld, IsAlone}
use Rattle.timer_wheels.specs.declared.buckets.Buckets.{Buckets}
use Rattle.timer_wheels.proofs.bucket_lemmas.Handles.{timer_named, held_is}
use Rattle.timer_wheels.proofs.bucket_lemmas.AllLemmas.{all-map}
use Rattle.timer_wheels.proofs.bucket_lemmas.Calls.{under_keys}
use Rattle.timer_wheels.proofs.bucket_lemmas.RowLemmas.{all-rows_below}

elsewhere : (from to : ℕ) (lists : KeyedLists) → AreUnused from to lists → (row : Row) → node_at row.0 lists ≡ Some row.1
    → (row.0 < from) ⊎ (to ≤ row.0)
elsewhere from to lists u row e = elim (cases_lt row.0 from) [
  | inl h ↦ inl h
  | inr h ↦ elim (cases_lt row.0 to) [
    | inl k ↦ absurd (none_some row.1 (sym (u row.0 h k) ∙ e))
    | inr k ↦ inr k
  ]
]

before : (from : ℕ) (lists : KeyedLists) → ((key : ℕ) → from ≤ key → node_at key lists ≡ None) → (row : Row)
    → node_at row.0 lists ≡ Some row.1 → row.0 < from
before from lists u row e = elim (cases_lt row.0 from) [
  | inl h ↦ h
  | inr h ↦ absurd (none_some row.1 (sym (u row.0 h) ∙ e))
]

some_timer : (t : Timer) (o : Option Timer) → Some t ≡ o → IsSome o
some_timer t o e = subst IsSome e refl

module _ {N : Type 0} {kept : Ghosts N} (b : Buckets N kept) (apart : AreApart b.links.lists) where
  under : (l : ℕ) → l < b.slots + 1 → AllByRecursion (λ row. node_at row.0 b.links.lists ≡ Some row.1) (list_at l b.links.lists)
  under l h = under_keys l b.links.lists (omega (arith, b.sound.has_lists)) apart

  under_below : AllByRecursion (λ row. node_at row.0 b.links.lists ≡ Some row.1) (rows_below b.slots b.links.lists)
  under_below = all-rows_below (λ row. node_at row.0 b.links.lists ≡ Some row.1) b.slots b.links.lists (λ s h. under s (omega arith))

  -- what holds of the places of all rows, holds of those of the pending timers
  of_pending : (P : Entry → Type 0) → ((row : Row) → node_at row.0 b.links.lists ≡ Some row.1 → P (entry_of row))
      → AllByRecursion P (state_of b).pending
  of_pending P f = All-in_order timer_of P (entries_of (rows_below b.slots b.links.lists))
      (all-map entry_of P (rows_below b.slots b.links.lists) (All-weaken (λ row. node_at row.0 b.links.lists
      ≡ Some row.1) (λ row. P (entry_of row)) (rows_below b.slots b.links.lists) f under_below))

  -- and of those of the due timers
  of_due : (P : Entry → Type 0) → ((row : Row) → node_at row.0 b.links.lists ≡ Some row.1 → P (entry_of row))
      → AllByRecursion P (state_of b).due
  of_due P f = all-map entry_of P (list_at b.slots b.links.lists) (All-weaken (λ row. node_at row.0 b.links.lists
      ≡ Some row.1) (λ row. P (entry_of row)) (list_at b.slots b.links.lists) f (under b.slots (omega arith)))

  held_under : (handle : Handle) (node : Node) → Some node ≡ node_at handle.place b.links.lists → node.timer.serial ≡ handle.serial
      → IsHeld handle (state_of b)
  held_under handle node e s =
      let named : timer_named handle (Some node) ≡ held_at handle (state_of b) = held_is b.sound apart handle (Some node) e in
      some_timer node.timer (held_at handle (state_of b)) (rw (eq-eqb node.timer.serial handle.serial s) at named)

  pub none_held : (from : ℕ) → IsFirstUsed from b.links.lists None → IsFirstHeld from (state_of b) None
  none_held from u = (
    of_pending (λ entry. entry.place < from) (λ row e. before from b.links.lists u row e),
    of_due (λ entry. entry.place < from) (λ row e. before from b.links.lists u row e),
  )

  pub first_held : (from : ℕ) (handle : Handle) (node : Node) → IsFirstUsed from b.links.lists (Some handle.place)
      → Some node ≡ node_at handle.place b.links.lists → node.timer.serial ≡ handle.serial → IsFirstHeld from (state_of b) (Some handle)
  first_held from handle node u e s = (
    u.0,
    held_under handle node e s,
    of_pending (λ entry. (entry.place < from) ⊎ (handle.place ≤ entry.place)) (λ row k. elsewhere from handle.place b.links.lists u.2 row
        k),
    of_due (λ entry. (entry.place < from) ⊎ (handle.place ≤ entry.place)) (λ row k. elsewhere from handle.place b.links.lists u.2 row k),
  )

  pub alone : (handle : Handle) (node : Node) → Some node ≡ node_at handle.place b.links.lists → node.timer.serial ≡ handle.serial
      → IsAlone handle (state_of b)
  alone handle node e s t held =
      let named : timer_named handle (Some node) ≡ held_at handle (state_of b) = held_is b.sound apart handle (Some node) e in
      let same : node.timer ≡ t = some_same node.timer t ((rw (eq-eqb node.timer.serial handle.serial s) at named) ∙ held) in
      let at_place : (row : Row) → node_at row.0 b.links.lists ≡ Some row.1 → row.0 ≡ handle.place → row.1.timer ≡ t = λ row k p.
      ap (λ (n : Node). n.timer) (some_same row.1 node (sym k ∙ (ap (λ (place : ℕ). node_at place b.links.lists) p ∙ sym e))) ∙ same in
      let P : Entry → Type 0 = λ entry. entry.place ≡ handle.place → entry.timer ≡ t in
      (of_pending P at_place, of_due P at_place)
