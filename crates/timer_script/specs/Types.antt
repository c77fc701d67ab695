-- The types that contracts of this crate speak of, under their own names.
pub use Rattle.timer_base.specs.declared.fault.OutOfMemory.{OutOfMemory}
pub use Rattle.timer_base.specs.declared.limits.TheConstants.{LAST}
pub use Rattle.timer_facility.specs.State.{FacilityState}
pub use Rattle.timer_facility.specs.declared.event.Event.{Event}
pub use Rattle.timer_facility.specs.declared.event.Out.{Out}
pub use Rattle.timer_facility.specs.declared.request.Answer.TheVariants.{Started, Stopped, Restarted, Refused}
pub use Rattle.timer_facility.specs.declared.request.NotTaken.{NotTaken}
pub use Rattle.timer_facility.specs.declared.request.Notice.TheVariants.{Expired, Returned}
pub use Rattle.timer_facility.specs.declared.request.Reason.{Reason}
pub use Rattle.timer_facility.specs.declared.request.TickFault.{TickFault}
pub use Rattle.timer_script.specs.declared.cutter.Cutter.{Cutter}
pub use Rattle.timer_script.specs.declared.cutter.OnBadLine.{OnBadLine}
pub use Rattle.timer_script.specs.declared.fault.CheckFault.{CheckFault}
pub use Rattle.timer_script.specs.declared.fault.ReadFault.{ReadFault}
pub use Rattle.timer_script.specs.declared.fault.RunFault.{RunFault}
pub use Rattle.timer_script.specs.declared.fault.ScriptFault.{ScriptFault}
pub use Rattle.timer_script.specs.declared.fault.ServeFault.{ServeFault}
pub use Rattle.timer_script.specs.declared.fault.TurnFault.{TurnFault}
pub use Rattle.timer_script.specs.declared.input.TheConstants.{MAX_BYTES}
pub use Rattle.timer_script.specs.declared.line_fault.Field.{Field}
pub use Rattle.timer_script.specs.declared.line_fault.LineFault.{LineFault}
pub use Rattle.timer_script.specs.declared.line_fault.LineReason.{LineReason}
pub use Rattle.timer_script.specs.declared.lines.Grammar.{Grammar}
pub use Rattle.timer_script.specs.declared.lines.TheConstants.{MAX_TICKS, MAX_LINE, MOST_DIGITS}
pub use Rattle.timer_script.specs.declared.service.TheConstants.{PIECE}
pub use Rattle.timer_script.specs.declared.streams.Streams.{Streams}
pub use Rattle.timer_script.specs.declared.watched.Watched.{Watched}
