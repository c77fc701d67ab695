-- The types that contracts of this crate speak of, under their own names.
pub use Rattle.timer_base.specs.declared.limits.TheConstants.{LAST}
pub use Rattle.timer_base.specs.declared.timer.Handle.{Handle}
pub use Rattle.timer_base.specs.declared.timer.Timer.{Timer}
pub use Rattle.timer_facility.specs.declared.config.Config.{Config}
pub use Rattle.timer_facility.specs.declared.config.TheConstants.{MAX_CLIENTS, MAX_PENDING}
pub use Rattle.timer_facility.specs.declared.event.Event.{Event}
pub use Rattle.timer_facility.specs.declared.event.Out.{Out}
pub use Rattle.timer_facility.specs.declared.handles.TheConstants.{SPARE}
pub use Rattle.timer_facility.specs.declared.request.Answer.{Answer}
pub use Rattle.timer_facility.specs.declared.request.Answer.TheVariants.{Started, Stopped, Restarted, Refused}
pub use Rattle.timer_facility.specs.declared.request.CloseFault.{CloseFault}
pub use Rattle.timer_facility.specs.declared.request.NotTaken.{NotTaken}
pub use Rattle.timer_facility.specs.declared.request.Notice.{Notice}
pub use Rattle.timer_facility.specs.declared.request.Notice.TheVariants.{Expired, Returned}
pub use Rattle.timer_facility.specs.declared.request.Reason.{Reason}
pub use Rattle.timer_facility.specs.declared.request.Request.{Request}
pub use Rattle.timer_facility.specs.declared.request.TickFault.{TickFault}
pub use Rattle.timer_facility.specs.declared.saved.Limits.{Limits}
pub use Rattle.timer_facility.specs.declared.saved.Stage.{Stage}
pub use Rattle.timer_facility.specs.declared.saved.StateFault.{StateFault}
pub use Rattle.timer_facility.specs.declared.saved.StateLine.{StateLine}
