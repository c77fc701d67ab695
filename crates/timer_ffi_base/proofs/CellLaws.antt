-- What the structs of C that have a cell rely on: reading what was lent changes nothing, and a cell may go to another thread.
use Rattle.std.proofs.Common.{◌≡◌, Bool, true, false, Option, Some, None, IfSome, MutBor, ap}
use base.Shift.{Keyless}
use mir.Raw.{raw}
use denote.Memory.{lone}
use denote.Param.Send.{IsSend}
use denote.RattleType.{RattleType}
use denote.RawPtr.{Ptr}
use Rattle.std.proofs.Crossing as free
use Rattle.std_alloc.proofs.SendSync.{lies}
use Rattle.timer_ffi_base.specs.declared.heap_cell.HeapCell.{HeapCell}
use Rattle.timer_ffi_base.specs.Cells.{is_open, owned_if, heap}

-- the struct with what was lent is the struct as it is
pub unchanged : {X D : Type 0} (lent : Option (MutBor X)) (slot : HeapCell X) (with_state : X → D)
    → IfSome lent (λ r. (is_open slot.mark ≡ true) × (r.now ≡ slot.state)) → IfSome lent (λ r. with_state r.now ≡ with_state slot.state)
unchanged (Some r) slot with_state held = ap with_state held.1
unchanged None slot with_state held = tt

-- a cell has no key of its thread if its value has none: the block may be freed anywhere
pub keyless : (R : RattleType) → IsSend R → (held : Bool) (at : Ptr) (state : R.Denot) → Keyless (owned_if R held at state)
keyless R sends true at state = (lies R sends at state, free.frees.frees heap (raw (lone R.mir)) at)
keyless R sends false at state = tt
