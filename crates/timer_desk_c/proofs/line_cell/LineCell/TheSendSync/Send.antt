-- A slot may go to another thread: the line may, and their block may be freed anywhere.
use denote.Struct.Struct.{exits_of}
use denote.Struct.Owning.{shape, fields, to}
use denote.Param.Send.{IsSend, AllSend, owning_send, struct_send, sendable}
use Rattle.std_alloc.proofs.SendSync.{quiet}
use Rattle.timer_desk_c.proofs.line.Line.TheSendSync as line'
use Rattle.timer_ffi_base.specs.Cells.{is_open}
use Rattle.timer_ffi_base.proofs.CellLaws.{keyless}
use Rattle.timer_desk_c.specs.Lent.{the_line}
use Rattle.timer_desk_c.specs.contracts.line_cell.LineCell.{the_row, the_type}

pub send : IsSend the_row
send =
    let words : AllSend (fields the_type) = (search sendable, (search sendable, tt)) in
    owning_send the_type words (λ s. keyless the_line line'.the_send (is_open s.mark) s.at s.state)
    (λ k. quiet (to the_type) (exits_of k (fields the_type)) ((struct_send (shape the_type) words).leaving k))
