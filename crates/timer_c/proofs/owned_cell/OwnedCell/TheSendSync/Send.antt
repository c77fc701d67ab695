-- A slot may go to another thread: the timers may, and their block may be freed anywhere.
use denote.Struct.Struct.{exits_of}
use denote.Struct.Owning.{shape, fields, to}
use denote.Param.Send.{IsSend, AllSend, owning_send, struct_send, sendable}
use Rattle.std_alloc.proofs.SendSync.{quiet}
use Rattle.timer_links.specs.contracts.kept.Unowned as unowned
use Rattle.timer_links.specs.contracts.kept.UnownedKept.TheImpl as kept
use Rattle.timer_links.proofs.kept.Unowned.TheSendSync as unowned'
use Rattle.timer_wheels.proofs.tiered.TieredWheel.TheSendSync as tiered'
use Rattle.timer_total.proofs.timers.Timers.TheSendSync as timers'
use Rattle.timer_ffi_base.specs.Cells.{is_open}
use Rattle.timer_ffi_base.proofs.CellLaws.{keyless}
use Rattle.timer_c.specs.Slots.{the_timers, tiered_row, wheel_ghosts}
use Rattle.timer_c.specs.contracts.owned_cell.OwnedCell.{the_row, the_type}

timers_send : IsSend the_timers
timers_send =
    timers'.the_send tiered_row wheel_ghosts (tiered'.the_send unowned.the_row kept.ghosts unowned'.the_send)

pub send : IsSend the_row
send =
    let words : AllSend (fields the_type) = (search sendable, (search sendable, tt)) in
    owning_send the_type words (λ s. keyless the_timers timers_send (is_open s.mark) s.at s.state)
    (λ k. quiet (to the_type) (exits_of k (fields the_type)) ((struct_send (shape the_type) words).leaving k))
