-- The slots as cells of any content, and back.
use Rattle.timer_ffi_base.specs.declared.heap_cell.HeapCell.{HeapCell}
use Rattle.timer_desk_c.specs.DeskSlots.{RingDesk}
use Rattle.timer_desk_c.specs.declared.desk_cell.DeskCell.{DeskCell}
use Rattle.timer_desk_c.specs.declared.line.Line.{Line}
use Rattle.timer_desk_c.specs.declared.line_cell.LineCell.{LineCell}
pub use Rattle.timer_desk_c.specs.DeskSlots.{the_desk}
pub use Rattle.timer_desk_c.specs.contracts.desk_cell.DeskCell.{the_row as the_desk_slot}
pub use Rattle.timer_desk_c.specs.contracts.c_structs.CDesk.{the_row as c_desk}
pub use Rattle.timer_desk_c.specs.contracts.const_structs.ConstDesk.{the_row as const_desk}
pub use Rattle.timer_desk_c.specs.contracts.line.Line.{the_row as the_line}
pub use Rattle.timer_desk_c.specs.contracts.line_cell.LineCell.{the_row as the_line_slot}
pub use Rattle.timer_desk_c.specs.contracts.c_structs.CLine.{the_row as c_line}
pub use Rattle.timer_desk_c.specs.contracts.const_structs.ConstLine.{the_row as const_line}

abbrev pub desk_as_cell : DeskCell → HeapCell RingDesk
desk_as_cell slot = record { at = slot.at; mark = slot.mark; state = slot.state }

abbrev pub cell_as_desk : HeapCell RingDesk → DeskCell
cell_as_desk cell = record { at = cell.at; mark = cell.mark; state = cell.state }

abbrev pub line_as_cell : LineCell → HeapCell Line
line_as_cell slot = record { at = slot.at; mark = slot.mark; state = slot.state }

abbrev pub cell_as_line : HeapCell Line → LineCell
cell_as_line cell = record { at = cell.at; mark = cell.mark; state = cell.state }
