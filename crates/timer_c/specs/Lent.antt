-- A slot as a cell of any content, and back.
use Rattle.timer_total.specs.TimersState.{TimersState}
use Rattle.timer_ffi_base.specs.declared.heap_cell.HeapCell.{HeapCell}
use Rattle.timer_c.specs.declared.owned_cell.OwnedCell.{OwnedCell}
pub use Rattle.timer_c.specs.Slots.{the_timers}
pub use Rattle.timer_c.specs.contracts.owned_cell.OwnedCell.{the_row as the_slot}
pub use Rattle.timer_c.specs.contracts.c_timers.CTimers.{the_row as c_timers}
pub use Rattle.timer_c.specs.contracts.const_timers.ConstTimers.{the_row as const_timers}

abbrev pub as_cell : OwnedCell → HeapCell TimersState
as_cell slot = record { at = slot.at; mark = slot.mark; state = slot.state }

abbrev pub as_slot : HeapCell TimersState → OwnedCell
as_slot cell = record { at = cell.at; mark = cell.mark; state = cell.state }
