-- What a cell owns, two words of a struct that C holds: if its mark says so, the value at its address and the
-- right to free the block. And how it is after its value was lent.
use Rattle.std.specs.Prelude.{◌≡◌, ℕ, Bool, true, false, nat_eq, ⊤}
use Rattle.std.specs.Borrow.{Fml, MutBor, follows_so}
use Rattle.std.specs.Box.Ownership.{box_owns}
use Rattle.std_heap.specs.declared.Global.{Global}
use Rattle.std_heap.specs.contracts.GlobalAllocator.TheImpl.{ghosts}
use mathlib.Core.Option.{none}
use base.Fml.{ftrue}
use mir.Syntax.{Ty}
use denote.RawPtr.{Ptr}
use denote.RattleType.{RattleType}
use Rattle.timer_ffi_base.specs.declared.heap_cell.HeapCell.{HeapCell}

-- a cell with this mark holds a value
abbrev pub is_open : ℕ → Bool
is_open mark = nat_eq mark 1

-- the heap's handle, which is only the permission to use it
abbrev pub heap : Global
heap = record { memory = record { seal = tt } }

-- the right to free a block
abbrev pub token : Ty → Ptr → Fml
token = ghosts.dealloc_token heap

abbrev pub owned_if : (R : RattleType) → Bool → Ptr → R.Denot → Fml
owned_if R true = box_owns token R
owned_if R false = λ _ _. ftrue

abbrev pub owned_at : (R : RattleType) → ℕ → Ptr → R.Denot → Fml
owned_at R mark = owned_if R (is_open mark)

abbrev pub with_state : {T : Type 0} → HeapCell T → T → HeapCell T
with_state cell state = record cell { state = state }

-- a struct that was lent to be read is as it was
abbrev pub EndsUnchanged : (R : RattleType) → MutBor R.Denot → Fml
EndsUnchanged R s = follows_so R R s.ghost_name none (λ _ _. ⊤) (λ last. last ≡ s.now)
