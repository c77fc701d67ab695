-- A slot may go to another thread: the desk may, and their block may be freed anywhere.
use denote.Struct.Struct.{exits_of}
use denote.Struct.Owning.{shape, fields, to}
use denote.Param.Send.{IsSend, AllSend, owning_send, struct_send, sendable}
use Rattle.std_alloc.proofs.SendSync.{quiet}
use Rattle.timer_base.specs.contracts.timer.Timer as timer
use Rattle.timer_base.proofs.timer.Timer.TheSendSync as timer'
use Rattle.timer_links.specs.contracts.kept.TimerKept.TheImpl as kept
use Rattle.timer_wheels.proofs.tiered.TieredWheel.TheSendSync as tiered'
use Rattle.timer_desk.specs.contracts.ring_ends.RingInlet as ring
use Rattle.timer_desk.specs.contracts.ring_ends.RingInletInlet.TheImpl as inlet
use Rattle.timer_desk.proofs.ring_ends.RingInlet.TheSendSync as ring'
use Rattle.timer_desk.proofs.desk.Desk.TheSendSync as desk'
use Rattle.timer_ffi_base.specs.Cells.{is_open}
use Rattle.timer_ffi_base.proofs.CellLaws.{keyless}
use Rattle.timer_desk_c.specs.DeskSlots.{desk_wheel_row, desk_wheel_ghosts, the_desk}
use Rattle.timer_desk_c.specs.contracts.desk_cell.DeskCell.{the_row, the_type}

desk_send : IsSend the_desk
desk_send = desk'.the_send desk_wheel_row ring.the_row desk_wheel_ghosts inlet.ghosts
    (tiered'.the_send timer.the_row kept.ghosts timer'.the_send) ring'.the_send

pub send : IsSend the_row
send =
    let words : AllSend (fields the_type) = (search sendable, (search sendable, tt)) in
    owning_send the_type words (λ s. keyless the_desk desk_send (is_open s.mark) s.at s.state)
    (λ k. quiet (to the_type) (exits_of k (fields the_type)) ((struct_send (shape the_type) words).leaving k))
