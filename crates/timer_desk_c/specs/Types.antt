-- The types that contracts of this crate speak of, under their own names.
pub use Rattle.timer_base.specs.declared.limits.TheConstants.{LAST}
pub use Rattle.timer_desk.specs.declared.report.Done.{Done}
pub use Rattle.timer_desk.specs.declared.report.Served.{Served}
pub use Rattle.timer_desk.specs.declared.ring_ends.RingInlet.{RingInlet}
pub use Rattle.timer_desk_c.specs.declared.c_structs.CLine.{CLine}
pub use Rattle.timer_desk_c.specs.declared.line.Line.{Line}
